-- The number and the place of each fault of a check. Assumes nothing.
use Rattle.std.specs.Prelude.{ℕ}
use Rattle.tables.specs.Faults as form
use Rattle.walks.specs.Faults as typing
use Rattle.checks.specs.declared.fault.CheckFault.{CheckFault}
use Rattle.checks.specs.declared.fault.CheckFault.TheVariants.{Form, Typing}

-- The number of the question that was answered with no.
abbrev pub number_of : CheckFault → ℕ
number_of (Form f) = form.number_of f
number_of (Typing f) = typing.number_of f

-- The place of the entry that is meant, counted from 0 through types, then terms; 0 if no entry is meant.
abbrev pub place_of : CheckFault → ℕ
place_of (Form f) = form.place_of f
place_of (Typing f) = typing.place_of f
