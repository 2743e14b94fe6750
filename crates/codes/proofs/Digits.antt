-- Numbers by their bits: a law of `&`, `|` and `!` is shown bit by bit, where it is linear arithmetic on 0 and 1. Assumes nothing.
use Rattle.std.proofs.Common.{◌≡◌, ℕ, zero, suc, ◌-◌, ◌/◌, ◌%◌, ◌^◌, ◌<◌, ◌≤◌, min, max, true, ◌⊎◌, sym, ap, ◌∙◌, inl, inr, pow-suc, one-add, arith, pow_mono, shr-shr}
use native.Mathlib.Nat.{zero-div, div-eq_of_lt}
use lib.Bits.{bit_and, bit_or, and_step, or_step, and_shr, or_shr, and_le_r}
use Rattle.std.proofs.lemmas.Bool.{eqb-true, eq-eqb, cases_eq}
use Rattle.codes.specs.Bits.{bit, superset, outside}

low_and : (x y : ℕ) → bit_and x y % 2 ≡ min (x % 2) (y % 2)
low_and x y = omega (arith, and_step x y)

low_or : (x y : ℕ) → bit_or x y % 2 ≡ max (x % 2) (y % 2)
low_or x y = omega (arith, or_step x y)

pub bit-and : (k a b : ℕ) → bit k (bit_and a b) ≡ min (bit k a) (bit k b)
bit-and k a b = ap (λ (x : ℕ). x % 2) (and_shr a b k) ∙ low_and (a / 2 ^ k) (b / 2 ^ k)

pub bit-or : (k a b : ℕ) → bit k (bit_or a b) ≡ max (bit k a) (bit k b)
bit-or k a b = ap (λ (x : ℕ). x % 2) (or_shr a b k) ∙ low_or (a / 2 ^ k) (b / 2 ^ k)

pub half_bit : (k a : ℕ) → bit k (a / 2) ≡ bit (suc k) a
half_bit k a = ap (λ (x : ℕ). x % 2) (shr-shr a 1 k ∙ ap (λ (e : ℕ). a / 2 ^ e) (one-add k))

-- the bits that a lacks, of w
pub bit_comp : (w k a : ℕ) → k < w → a < 2 ^ w → bit k (2 ^ w - 1 - a) ≡ 1 - bit k a
bit_comp zero k a h q = omega arith
bit_comp (suc w) zero a h q = omega (arith, pow-suc 2 w)
bit_comp (suc w) (suc k) a h q =
    let half : (2 ^ suc w - 1 - a) / 2 ≡ 2 ^ w - 1 - a / 2 = omega (arith, pow-suc 2 w) in
    let below : a / 2 < 2 ^ w = omega (arith, pow-suc 2 w) in
    sym (half_bit k (2 ^ suc w - 1 - a)) ∙ ap (bit k) half ∙ bit_comp w k (a / 2) (omega arith) below ∙ ap (λ (x : ℕ). 1 - x) (half_bit k a)

-- numbers of w bits are equal where their bits are
pub same_bits : (w a b : ℕ) → a < 2 ^ w → b < 2 ^ w → ((k : ℕ) → k < w → bit k a ≡ bit k b) → a ≡ b
same_bits zero a b p q h = omega arith
same_bits (suc w) a b p q h =
    let low : a / 2 ^ 0 % 2 ≡ b / 2 ^ 0 % 2 = h 0 (omega arith) in
    let pa : a / 2 < 2 ^ w = omega (arith, pow-suc 2 w) in
    let pb : b / 2 < 2 ^ w = omega (arith, pow-suc 2 w) in
    let high : a / 2 ≡ b / 2 = same_bits w (a / 2) (b / 2) pa pb (λ k l. half_bit k a ∙ h (suc k) (omega arith) ∙ sym (half_bit k b)) in
    omega arith

-- a superset has each bit of the other
pub superset_bits : (a b : ℕ) → superset a b ≡ true → (k : ℕ) → bit k b ≤ bit k a
superset_bits a b e k = omega (arith, bit-and k a b, ap (bit k) (eqb-true (bit_and a b) b e))

pub superset_by : (w a b : ℕ) → b < 2 ^ w → ((k : ℕ) → k < w → bit k b ≤ bit k a) → superset a b ≡ true
superset_by w a b q h =
    eq-eqb (bit_and a b) b (same_bits w (bit_and a b) b (omega (arith, and_le_r a b)) q (λ k l. omega (arith, bit-and k a b, h k l)))

pub bit_outside : (k b a : ℕ) → k < 64 → a < 2 ^ 64 → bit k (outside b a) ≡ min (bit k b) (1 - bit k a)
bit_outside k b a h q = bit-and k b (2 ^ 64 - 1 - a) ∙ ap (min (bit k b)) (bit_comp 64 k a h q)

pub zero_bit : (k : ℕ) → bit k 0 ≡ 0
zero_bit k = ap (λ (x : ℕ). x % 2) (zero-div (2 ^ k))

-- a bit is 1 or 0
pub bit_cases : (k a : ℕ) → (bit k a ≡ 1) ⊎ (bit k a ≡ 0)
bit_cases k a = pick (cases_eq (bit k a) 1)
  where
    pick : (bit k a ≡ 1) ⊎ (bit k a ≡ 1 → ⊥) → (bit k a ≡ 1) ⊎ (bit k a ≡ 0)
    pick (inl e) = inl e
    pick (inr e) = inr (omega arith)

-- no bit stands at or above the width of a code
pub bit_above : (w k a : ℕ) → w ≤ k → a < 2 ^ w → bit k a ≡ 0
bit_above w k a h q = ap (λ (x : ℕ). x % 2) (div-eq_of_lt (omega (arith, pow_mono h)))
