-- Readings of the kinds, by computation. Assumes nothing.
use Rattle.std.specs.Prelude.{◌≡◌, true, false, [], ◌∷◌, Some}
use Rattle.roles.specs.Meaning.{Meaning}
use Rattle.ladders.specs.Kind.{ladder}
use Rattle.hierarchies.specs.Kind.{hierarchy}
use Rattle.pairs.specs.Kind.{pair, pair_code}

-- three roles in a line, each the senior of those before it
abbrev pub line : Meaning
line = hierarchy 3 (1 ∷ 3 ∷ 7 ∷ [])

-- What the kinds answer on small examples.
pub record SchemeReadings : Type 0 where
  -- what the second role of the line lacks of the third is the third's whole row
  pub line_remainder : line.remainder 7 3 ≡ Some 7
  -- the second role without its junior is no role
  pub line_gap : line.role 2 ≡ false
  -- the second role with rank 2 is one code, and a role
  pub pair_is : pair_code line (ladder 3) 3 2 ≡ Some 770
  pub pair_role : (pair line (ladder 3)).role 770 ≡ true
  -- a rank lacks all of a higher one, and nothing of a lower one
  pub ladder_higher : (ladder 3).remainder 3 1 ≡ Some 3
  pub ladder_lower : (ladder 3).remainder 2 3 ≡ Some 0
