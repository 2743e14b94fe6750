-- The laws of a ladder, by arithmetic. Assumes nothing.
use Rattle.std.specs.Prelude.{◌≡◌, ℕ, ◌<◌, true, ◌&&◌, nat_le, nat_lt}
use Rattle.std.proofs.Common.{arith}
use Rattle.std.proofs.lemmas.Bool.{and_parts, leb-true, ltb-true}
use Rattle.std.proofs.lemmas.Bool.Decides.{nat_tests}
use Rattle.roles.specs.Meaning.{Lawful}
use Rattle.roles.proofs.Guarding.{Raw, guarded_lawful}
use Rattle.ladders.specs.Kind.{ladder_frame, ladder}

ladder_raw : (t : ℕ) → (nat_le 1 t && nat_lt t 256) ≡ true → Raw (ladder_frame t)
ladder_raw t s =
    let top : t < 256 = ltb-true t 256 (and_parts (nat_le 1 t) (nat_lt t 256) s).1 in
    record {
      wide = (omega arith, omega arith);
      fits = λ c p. omega (arith, leb-true c t p);
      itself = λ a p. grind (arith, nat_tests);
      trans = λ a b c p q r e f. grind (arith, nat_tests);
      anti = λ a b p q e f. grind (arith, nat_tests);
      bottom_role = grind (arith, nat_tests);
      bottom_least = λ a p. grind (arith, nat_tests);
      join_role = λ a b p q. grind (arith, nat_tests);
      join_left = λ a b p q. grind (arith, nat_tests);
      join_right = λ a b p q. grind (arith, nat_tests);
      join_least = λ a b x p q r e f. grind (arith, nat_tests);
      meet_role = λ a b p q. grind (arith, nat_tests);
      meet_left = λ a b p q. grind (arith, nat_tests);
      meet_right = λ a b p q. grind (arith, nat_tests);
      meet_greatest = λ a b x p q r e f. grind (arith, nat_tests);
      remainder_role = λ b a p q. grind (arith, nat_tests);
      remainder_enough = λ b a x p q r e. grind (arith, nat_tests);
      remainder_needed = λ b a x p q r e. grind (arith, nat_tests);
    }

pub ladder_lawful : (t : ℕ) → Lawful (ladder t)
ladder_lawful t = guarded_lawful (ladder_frame t) (ladder_raw t)
