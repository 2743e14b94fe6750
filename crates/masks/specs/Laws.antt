-- The laws of a mask, bit by bit. Assumes nothing.
use Rattle.std.specs.Prelude.{◌≡◌, ℕ, ◌-◌, ◌^◌, ◌<◌, ◌≤◌, min, true, ◌&&◌, nat_le, nat_lt}
use Rattle.std.proofs.Common.{arith, pow_pos, pow_mono}
use Rattle.std.specs.Int.Bits.{bit_and, bit_or, and_zero_r}
use Rattle.std.proofs.lemmas.Nat.{and_le_l, or_lt}
use Rattle.std.proofs.lemmas.Bool.{and_parts, leb-true, ltb-true, lt-ltb, eq-eqb}
use Rattle.roles.specs.Meaning.{Lawful}
use Rattle.roles.proofs.Guarding.{Raw, guarded_lawful}
use Rattle.codes.specs.Bits.{bit, outside}
use Rattle.codes.proofs.Digits.{bit-and, bit-or, bit_outside, same_bits, superset_bits, superset_by}
use Rattle.masks.specs.Kind.{mask_frame, mask}

module _ (w : ℕ) (s : (nat_le 1 w && nat_le w 64) ≡ true) where
  low : 1 ≤ w
  low = leb-true 1 w (and_parts _ _ s).0

  high : w ≤ 64
  high = leb-true w 64 (and_parts _ _ s).1

  below : (a : ℕ) → nat_lt a (2 ^ w) ≡ true → a < 2 ^ w
  below a e = ltb-true a (2 ^ w) e

  word : (a : ℕ) → nat_lt a (2 ^ w) ≡ true → a < 2 ^ 64
  word a e = let h = high in omega (arith, below a e, pow_mono h)

  less : (b a k : ℕ) → k < w → nat_lt a (2 ^ w) ≡ true → bit k (outside b a) ≡ min (bit k b) (1 - bit k a)
  less b a k h q = let e = high in bit_outside k b a (omega arith) (word a q)

  pub mask_raw : Raw (mask_frame w)
  mask_raw = record {
    wide = (low, high);
    fits = below;
    itself = λ a p. superset_by w a a (below a p) (λ k h. omega arith);
    trans = λ a b c p q r e f. superset_by w a c (below c r) (λ k h. omega (arith, superset_bits a b e k, superset_bits b c f k));
    anti = λ a b p q e f. same_bits w a b (below a p) (below b q) (λ k h. omega (arith, superset_bits a b e k, superset_bits b a f k));
    bottom_role = lt-ltb 0 (2 ^ w) (pow_pos w);
    bottom_least = λ a p. eq-eqb (bit_and a 0) 0 (and_zero_r a);
    join_role = λ a b p q. lt-ltb (bit_or a b) (2 ^ w) (or_lt w a b (below a p) (below b q));
    join_left = λ a b p q. superset_by w (bit_or a b) a (below a p) (λ k h. omega (arith, bit-or k a b));
    join_right = λ a b p q. superset_by w (bit_or a b) b (below b q) (λ k h. omega (arith, bit-or k a b));
    join_least = λ a b x p q r e f. superset_by w x (bit_or a b) (or_lt w a b (below a p) (below b q)) (λ k h. omega (arith, bit-or k a b, superset_bits x a e k, superset_bits x b f k));
    meet_role = λ a b p q. lt-ltb (bit_and a b) (2 ^ w) (omega (arith, and_le_l a b, below a p));
    meet_left = λ a b p q. superset_by w a (bit_and a b) (omega (arith, and_le_l a b, below a p)) (λ k h. omega (arith, bit-and k a b));
    meet_right = λ a b p q. superset_by w b (bit_and a b) (omega (arith, and_le_l a b, below a p)) (λ k h. omega (arith, bit-and k a b));
    meet_greatest = λ a b x p q r e f. superset_by w (bit_and a b) x (below x r) (λ k h. omega (arith, bit-and k a b, superset_bits a x e k, superset_bits b x f k));
    remainder_role = λ b a p q. lt-ltb _ (2 ^ w) (omega (arith, and_le_l b (2 ^ 64 - 1 - a), below b p));
    remainder_enough = λ b a x p q r e. superset_by w (bit_or a x) b (below b p) (λ k h. omega (arith, bit-or k a x, less b a k h q, superset_bits x (outside b a) e k));
    remainder_needed = λ b a x p q r e. superset_by w x (outside b a) (omega (arith, and_le_l b (2 ^ 64 - 1 - a), below b p)) (λ k h. omega (arith, bit-or k a x, less b a k h q, superset_bits (bit_or a x) b e k));
  }

pub mask_lawful : (w : ℕ) → Lawful (mask w)
mask_lawful w = guarded_lawful (mask_frame w) (mask_raw w)
