-- The number and the place of each fault of an image. Assumes nothing.
use Rattle.std.specs.Prelude.{ℕ}
use Rattle.tables.specs.Faults as form
use Rattle.jobs.specs.declared.fault.ImageFault.{ImageFault}
use Rattle.jobs.specs.declared.fault.ImageFault.TheVariants.{Form, Short, Length, Output}

-- The number of the question that was answered with no.
abbrev pub number_of : ImageFault → ℕ
number_of (Form f) = form.number_of f
number_of (Short k) = 3
number_of (Length k) = 5
number_of (Output k) = 13

-- The place of the entry that is meant, counted from 0 through types, then terms; 0 if no entry is meant.
abbrev pub place_of : ImageFault → ℕ
place_of (Form f) = form.place_of f
place_of (Short k) = 0
place_of (Length k) = 0
place_of (Output k) = 0
