-- What an advance means in the calculus. Assumes nothing.
use Rattle.std.specs.Prelude.{◌≡◌, ℕ, ◌+◌, ◌<◌, ◌≤◌, List, length, take, Ok, Err, Result}
use Rattle.roles.specs.Meaning.{Meaning}
use Rattle.calculus.specs.Steps.{Value, CanStep, IsRoleFault, IsShapeFault, Steps}
use Rattle.tables.specs.declared.entry.Entry.{Entry}
use Rattle.trees.specs.Trees.{term_of}
use Rattle.machine.specs.Labelled.{tree}
use Rattle.machine.specs.Refused.{RefusedAt}
use Rattle.machine.specs.Turns.{turn, moves}
use Rattle.machine.specs.declared.condition.Condition.{Condition}
use Rattle.machine.specs.declared.condition.Condition.TheVariants.{Going, Finished, RoleFault, ShapeFault, TableFull}
use Rattle.runs.specs.declared.fault.RunFault.{RunFault}
use Rattle.runs.specs.declared.run.Run.{Run}
use Rattle.runs.specs.declared.run.Progress.{Progress}
use Rattle.runs.specs.Table.{state}

-- Why no more than n steps of a budget k were made, by the condition: u entries are used, and c is the current one.
abbrev pub Halts : Meaning → ℕ → ℕ → ℕ → List Entry → ℕ → ℕ → Condition → Type 0
-- the budget is spent, and there is a next step
Halts m r n k es u c Going = (n ≡ k) × ((types : List Entry) → CanStep m r (term_of types es c))
-- the current term is a value
Halts m r n k es u c Finished = (types : List Entry) → Value (term_of types es c)
-- it is at check i of a guard of role a, which the context role d there does not dominate
Halts m r n k es u c (RoleFault i a d) = RefusedAt m r (tree (take u es) c) i a d × ((types : List Entry) → IsRoleFault m r (term_of types es c))
-- it has a wrong shape
Halts m r n k es u c (ShapeFault i) = (types : List Entry) → IsShapeFault m r (term_of types es c)
-- budget is left, and there is a next step, whose entries do not fit
Halts m r n k es u c TableFull =
    (n < k) × ((types : List Entry) → CanStep m r (term_of types es c))
    × ((new : List Entry) × (d : ℕ) × (turn m r (state es u c) ≡ moves new d) × (length es < u + length new))

-- The run x became y in a table es that became fs, by an advance with the budget k that made n steps, whatever types the claims name.
pub record Ran (m : Meaning) (x y : Run) (es fs : List Entry) (k n : ℕ) : Type 0 where
  -- exactly n steps of the calculus, under the run's role, lead from the current term to the new one
  pub steps : (types : List Entry) → Steps m x.role n (term_of types es x.current) (term_of types fs y.current)
  -- they are within the budget, and no more were possible
  pub within : n ≤ k
  pub halts : Halts m x.role n k fs y.used y.current y.condition
  -- the entries that were used are as they were
  pub kept : take x.used fs ≡ take x.used es

-- An accepted advance has run; a refused one leaves all as it was.
abbrev pub Meant : Meaning → Run → Run → List Entry → List Entry → ℕ → Result Progress RunFault → Type 0
Meant m x y es fs k (Ok p) = Ran m x y es fs k p.made
Meant m x y es fs k (Err f) = (y ≡ x) × (fs ≡ es)
