-- The number and the place of each fault of form. Assumes nothing.
use Rattle.std.specs.Prelude.{ℕ}
use Rattle.roles.specs.Refusal as scheme
use Rattle.tables.specs.declared.fault.FormFault.{FormFault}
use Rattle.tables.specs.declared.fault.FormFault.TheVariants.{Scheme, Counts, Room, Tag, Operands, Role, Size, Named, Unbound}

-- The number of the question that was answered with no.
abbrev pub number_of : FormFault → ℕ
number_of (Scheme f) = scheme.number_of f
number_of (Counts t n) = 4
number_of (Room t n) = 6
number_of (Tag p k) = 7
number_of (Operands p) = 8
number_of (Role p c) = 9
number_of (Size p s) = 10
number_of (Named p u) = 11
number_of (Unbound p) = 12

-- The place of the entry that is meant, counted from 0 through types, then terms; 0 if no entry is meant.
abbrev pub place_of : FormFault → ℕ
place_of (Scheme f) = scheme.place_of f
place_of (Counts t n) = 0
place_of (Room t n) = 0
place_of (Tag p k) = p
place_of (Operands p) = p
place_of (Role p c) = p
place_of (Size p s) = p
place_of (Named p u) = p
place_of (Unbound p) = p
