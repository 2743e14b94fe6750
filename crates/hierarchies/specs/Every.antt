-- A test at each number below n. Assumes nothing.
use Rattle.std.specs.Prelude.{◌≡◌, ℕ, zero, suc, ◌<◌, ◌≤◌, Bool, true, false, ◌⊎◌, length, slice_index_or, refl}
use Rattle.std.specs.Bool.{MatchBool}
use Rattle.std.specs.List.{range_with_len, AllWithin, HoldsAt}
use Rattle.std.proofs.Common.{sym, subst, inl, inr, arith}
use Rattle.std.proofs.lemmas.List.FromFn.{length-range_with_len, get_or-range_with_len}
use Rattle.std.proofs.lemmas.Bool.{and_parts, and_from, both_ways, cases_lt}
use Rattle.hierarchies.specs.Kind.{every}

pub every_at : (n : ℕ) (p : ℕ → Bool) → every n p ≡ true → (k : ℕ) → k < n → p k ≡ true
every_at zero p e k h = absurd (omega arith)
every_at (suc n) p e k h = pick (cases_lt k n) (every_at n p (and_parts (p n) (every n p) e).1 k)
  where
    pick : (k < n) ⊎ (n ≤ k) → (k < n → p k ≡ true) → p k ≡ true
    pick (inl l) ih = ih l
    pick (inr l) ih = let same : n ≡ k = omega arith in subst (λ (j : ℕ). p j ≡ true) same (and_parts (p n) (every n p) e).0

pub every_by : (n : ℕ) (p : ℕ → Bool) → ((k : ℕ) → k < n → p k ≡ true) → every n p ≡ true
every_by zero p h = refl
every_by (suc n) p h = and_from (p n) (every n p) (h n (omega arith)) (every_by n p (λ k l. h k (omega arith)))

-- one that fails
pub every_not : (n : ℕ) (p : ℕ → Bool) (k : ℕ) → k < n → p k ≡ false → every n p ≡ false
every_not n p k l f = go (every n p) refl
  where
    go : (b : Bool) → every n p ≡ b → every n p ≡ false
    go false e = e
    go true e = absurd (both_ways (p k) f (every_at n p e k l))

-- number k of the numbers below n is k
item : (n k : ℕ) → k < n → slice_index_or (range_with_len 0 n) k 0 ≡ k
item n k l = omega (arith, get_or-range_with_len 0 n k 0 l)

-- what `all` answers over the numbers below n
pub every_from_all : (n : ℕ) (p : ℕ → Bool) (r : Bool) → MatchBool r (AllWithin (λ k. p k ≡ true) (range_with_len 0 n) 0 (length (range_with_len 0 n))) ((k : ℕ) × (k < length (range_with_len 0 n)) × HoldsAt (λ k. p k ≡ false) (range_with_len 0 n) k) → r ≡ every n p
every_from_all n p true h = sym (every_by n p (λ k l. subst (λ (j : ℕ). p j ≡ true) (item n k l) (h k 0 (omega arith) (omega (arith, length-range_with_len 0 n)))))
every_from_all n p false h =
    let l : h.0 < n = omega (arith, length-range_with_len 0 n, h.1) in
    sym (every_not n p h.0 l (subst (λ (j : ℕ). p j ≡ false) (item n h.0 l) (h.2 0)))
