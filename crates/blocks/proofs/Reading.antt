-- The readings of the kinds, by computation. Assumes nothing.
use Rattle.std.proofs.Common.{refl}
use Rattle.blocks.specs.Readings.{SchemeReadings}

pub scheme_readings : SchemeReadings
scheme_readings = record { line_remainder = refl; line_gap = refl; pair_is = refl; pair_role = refl; ladder_higher = refl; ladder_lower = refl }
