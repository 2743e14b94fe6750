-- A code taken apart. Assumes nothing.
use Rattle.std.specs.Prelude.{◌≡◌, ℕ, true}
use Rattle.roles.specs.Meaning.{Meaning}
use Rattle.pairs.specs.Kind.{high, low, pair_sound}
use Rattle.pairs.specs.declared.Parts.{Parts}

-- These are the parts of a code of a sound pair.
pub record AreParts (m n : Meaning) (code : ℕ) (parts : Parts) : Type 0 where
  pub sound : pair_sound m n ≡ true
  pub first : parts.first ≡ high n.width code
  pub second : parts.second ≡ low n.width code
