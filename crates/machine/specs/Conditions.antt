-- The conditions of a run, by number and values. Assumes nothing.
use Rattle.std.specs.Prelude.{ℕ, Bool, true, false, List, [], ◌∷◌}
use Rattle.machine.specs.declared.condition.Condition.{Condition}
use Rattle.machine.specs.declared.condition.Condition.TheVariants.{Going, Finished, RoleFault, ShapeFault, TableFull}

-- The number of a condition.
abbrev pub number_of : Condition → ℕ
number_of Going = 0
number_of Finished = 1
number_of (RoleFault i a c) = 2
number_of (ShapeFault i) = 3
number_of TableFull = 4

-- Its values: the check's entry, the guard's role and the context role of a role fault, the entry of a shape fault; 0 where there is none.
abbrev pub values_of : Condition → List ℕ
values_of Going = 0 ∷ 0 ∷ 0 ∷ []
values_of Finished = 0 ∷ 0 ∷ 0 ∷ []
values_of (RoleFault i a c) = i ∷ a ∷ c ∷ []
values_of (ShapeFault i) = i ∷ 0 ∷ 0 ∷ []
values_of TableFull = 0 ∷ 0 ∷ 0 ∷ []

-- Has the run ended? A full table does not end it.
abbrev pub ends : Condition → Bool
ends Going = false
ends Finished = true
ends (RoleFault i a c) = true
ends (ShapeFault i) = true
ends TableFull = false
