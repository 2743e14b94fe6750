-- The number and the place of each refusal. Assumes nothing.
use Rattle.std.specs.Prelude.{ℕ}
use Rattle.roles.specs.Refusal as scheme
use Rattle.tables.specs.Faults as form
use Rattle.runs.specs.declared.fault.RunFault.{RunFault}
use Rattle.runs.specs.declared.fault.RunFault.TheVariants.{Scheme, Role, Unusable, Ended, Budget}
use Rattle.runs.specs.declared.fault.StartFault.{StartFault}
use Rattle.runs.specs.declared.fault.StartFault.TheVariants as start

-- The number of the question of an advance that was answered with no.
abbrev pub number_of : RunFault → ℕ
number_of (Scheme f) = scheme.number_of f
number_of (Role c) = 30
number_of Unusable = 32
number_of (Ended c) = 33
number_of (Budget s k) = 34

-- No entry is meant.
abbrev pub place_of : RunFault → ℕ
place_of (Scheme f) = scheme.place_of f
place_of (Role c) = 0
place_of Unusable = 0
place_of (Ended c) = 0
place_of (Budget s k) = 0

-- The number of the question of a start that was answered with no.
abbrev pub start_number : StartFault → ℕ
start_number (start.Form f) = form.number_of f
start_number (start.Role c) = 30

-- The place of the entry that is meant, or 0.
abbrev pub start_place : StartFault → ℕ
start_place (start.Form f) = form.place_of f
start_place (start.Role c) = 0
