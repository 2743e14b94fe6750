-- The laws of the watch, by arithmetic on its two roles. Assumes nothing.
use Rattle.std.proofs.Common.{arith}
use Rattle.std.proofs.lemmas.Bool.Decides.{nat_tests}
use Rattle.roles.specs.Meaning.{Lawful}
use Rattle.roles.proofs.Guarding.{Raw, guarded_lawful}
use Rattle.role_cases.specs.Watch.{watch_frame, watch}

watch_raw : Raw watch_frame
watch_raw = record {
  wide = (omega arith, omega arith);
  fits = λ c p. grind (arith, nat_tests);
  itself = λ a p. grind (arith, nat_tests);
  trans = λ a b c p q r e f. grind (arith, nat_tests);
  anti = λ a b p q e f. grind (arith, nat_tests);
  bottom_role = grind (arith, nat_tests);
  bottom_least = λ a p. grind (arith, nat_tests);
  join_role = λ a b p q. grind (arith, nat_tests);
  join_left = λ a b p q. grind (arith, nat_tests);
  join_right = λ a b p q. grind (arith, nat_tests);
  join_least = λ a b x p q r e f. grind (arith, nat_tests);
  meet_role = λ a b p q. grind (arith, nat_tests);
  meet_left = λ a b p q. grind (arith, nat_tests);
  meet_right = λ a b p q. grind (arith, nat_tests);
  meet_greatest = λ a b x p q r e f. grind (arith, nat_tests);
  remainder_role = λ b a p q. grind (arith, nat_tests);
  remainder_enough = λ b a x p q r e. grind (arith, nat_tests);
  remainder_needed = λ b a x p q r e. grind (arith, nat_tests);
}

pub watch_lawful : Lawful watch
watch_lawful = guarded_lawful watch_frame (λ _. watch_raw)
