-- The refusal of an unsound scheme. Assumes nothing.
use Rattle.std.specs.Prelude.{ℕ}
use Rattle.roles.specs.declared.scheme.SchemeFault.{SchemeFault}
use Rattle.roles.specs.declared.scheme.SchemeFault.TheVariants.{Unsound}

-- the number of a refusal
abbrev pub number_of : SchemeFault → ℕ
number_of Unsound = 2

-- the place of a refusal: no entry is meant
abbrev pub place_of : SchemeFault → ℕ
place_of Unsound = 0
