-- The readings of runs, by computation. Assumes nothing.
use Rattle.std.proofs.Common.{◌≡◌, ℕ, ◌≤◌, Bool, true, false, Ok, refl, arith}
use lib.Bits.{bit_and, and_le_l}
use Rattle.std.proofs.lemmas.Bool.{lt-ltb, ne_eqb}
use Rattle.machine.specs.declared.condition.Condition.TheVariants.{RoleFault}
use Rattle.machine.specs.Plans.{step}
use Rattle.machine.specs.Turns.{advance}
use Rattle.readings.specs.Bounds.{mask_8}
use Rattle.readings.proofs.Examples.{readings}
use Rattle.blocks.proofs.Reading.{scheme_readings}
use Rattle.check_readings.proofs.Reading.{check_readings_lem}
use Rattle.run_readings.specs.Runs.{answer, restricted, RunReadings, AllReadings}

-- what is left of a context role within 2 lacks the guard's role 6
kept_within_two : (k : ℕ) → k ≤ 2 → mask_8.dom k 6 ≡ false
kept_within_two k h =
    let i = and_le_l k 6 in
    let e : ◌≡◌ {A = Bool} (mask_8.role k) true = lt-ltb k 256 (omega arith) in
    let n = ne_eqb (bit_and k 6) 6 (λ q. omega arith) in
    rw (e, n)

restrict_faults : (r : ℕ) → mask_8.role r ≡ true → answer 4 r restricted 5 ≡ Ok (record { made = 0; condition = RoleFault 2 6 (bit_and 2 r) })
unfolding step advance
restrict_faults r h =
    let d = kept_within_two (bit_and 2 r) (and_le_l 2 r) in
    rw (h, d)

runs : RunReadings
unfolding step advance
runs = record {
  check_finishes = refl;
  check_run = refl;
  check_terms = refl;
  check_full = refl;
  check_idle = refl;
  check_faults = refl;
  restrict_faults = restrict_faults;
  fix_turns = refl;
  fix_run = refl;
  misapplied_starts = refl;
  wrong_shape = refl;
}

pub all_readings : AllReadings
all_readings = record { schemes = scheme_readings; calculus = readings; checks = check_readings_lem; runs = runs }
