-- What an advance leaves, and that it may be made in parts. Assumes nothing.
use Rattle.std.specs.Prelude.{◌≡◌, ℕ, zero, suc, ◌+◌, cond, List, Some, None, Option}
use Rattle.roles.specs.Meaning.{Meaning}
use Rattle.tables.specs.declared.entry.Entry.{Entry}
use Rattle.machine.specs.Conditions.{ends}
use Rattle.machine.specs.declared.condition.Condition.{Condition}
use Rattle.machine.specs.declared.condition.Condition.TheVariants.{Going, Finished, RoleFault, ShapeFault, TableFull}
use Rattle.runs.specs.declared.fault.RunFault.{RunFault}
use Rattle.runs.specs.declared.fault.RunFault.TheVariants.{Ended}
use Rattle.runs.specs.declared.run.Run.{Run}
use Rattle.runs.specs.Run.{refusal, gone, run_after, terms_after}

-- The run that an advance by k leaves.
abbrev pub left_run : Meaning → Run → List Entry → ℕ → Run
left_run m x es k = run_after (refusal m x es k) x (gone m x es k)

-- The terms that it leaves.
abbrev pub left_terms : Meaning → Run → List Entry → ℕ → List Entry
left_terms m x es k = terms_after (refusal m x es k) es (gone m x es k)

-- A condition as an advance by k tells it, where no step was made: one by 0 tells no full table, but that the run is going.
abbrev pub told_by : ℕ → Condition → Condition
told_by k Going = Going
told_by k Finished = Finished
told_by k (RoleFault i a c) = RoleFault i a c
told_by k (ShapeFault i) = ShapeFault i
told_by zero TableFull = Going
told_by (suc k) TableFull = TableFull

-- The run with its condition told so.
abbrev pub retold : ℕ → Run → Run
retold k x = record { role = x.role; steps = x.steps; used = x.used; current = x.current; condition = told_by k x.condition }

-- A run that has ended is refused, and no other.
abbrev pub unless_ended : Condition → Option RunFault
unless_ended c = cond (ends c) (Some (Ended c)) None

-- Two advances of the run x in the table es, by j and then by k, are accepted, the second unless the run has ended, and leave the run y and the table fs.
pub record Parted (m : Meaning) (x y : Run) (es fs : List Entry) (j k : ℕ) : Type 0 where
  pub first : refusal m x es j ≡ None
  pub second : refusal m (left_run m x es j) (left_terms m x es j) k ≡ unless_ended (left_run m x es j).condition
  pub terms : left_terms m (left_run m x es j) (left_terms m x es j) k ≡ fs
  pub run : left_run m (left_run m x es j) (left_terms m x es j) k ≡ retold k y

-- What an accepted advance by n left, two advances by parts of n leave.
abbrev pub InParts : Meaning → Run → Run → List Entry → List Entry → ℕ → Type 0
InParts m x y es fs n = refusal m x es n ≡ None → (j k : ℕ) → j + k ≡ n → Parted m x y es fs j k
