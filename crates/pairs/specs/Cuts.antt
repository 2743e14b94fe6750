-- Where the codes of a pair are cut. Assumes nothing.
use Rattle.std.specs.Prelude.{◌≡◌, true}
use Rattle.roles.specs.Meaning.{Meaning}
use Rattle.pairs.specs.Kind.{pair_sound}
use Rattle.pairs.specs.declared.cut.Cut.{Cut}

-- The pair is sound, and its codes are cut here.
pub record IsCut (m n : Meaning) (cut : Cut) : Type 0 where
  pub sound : pair_sound m n ≡ true
  pub width : cut.width ≡ n.width
