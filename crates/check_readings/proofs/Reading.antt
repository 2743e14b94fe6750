-- The readings of the checks, by computation. Assumes nothing.
use Rattle.std.proofs.Common.{◌≡◌, refl}
use Rattle.trees.specs.Trees.{type_of}
use Rattle.walks.specs.Walk.{walk_of}
use Rattle.check_readings.specs.Bounds.{CheckReadings}

pub check_readings_lem : CheckReadings
unfolding walk_of type_of
check_readings_lem = record {
  check_bound = λ α. refl;
  raise_leaves_rest = λ α. refl;
  restrict_insufficient = refl;
  restrict_necessary = refl;
  let_joins = λ α. refl;
  fix_sufficient = refl;
  fix_necessary = refl;
  no_function = λ α. refl;
  claim_sufficient = refl;
  claim_necessary = refl;
  claims_exchanged = refl;
  ladder_low_raise = λ α. refl;
  ladder_high_raise = λ α. refl;
}
