-- What a check answers, and the types that it leaves. Assumes nothing.
use Rattle.std.specs.Prelude.{ℕ, ◌-◌, cond, List, [], take, Ok, Err, Result, ◌==◌}
use Rattle.roles.specs.Meaning.{Meaning}
use Rattle.calculus.specs.Subtyping.{System}
use Rattle.tables.specs.declared.entry.Entry.{Entry}
use Rattle.tables.specs.Asking.{Answer}
use Rattle.tables.specs.Entries.{at}
use Rattle.tables.specs.Form.{form}
use Rattle.walks.specs.Walk.{Walked, going, stopped, table_of, walk_of}
use Rattle.checks.specs.declared.clearance.Clearance.{Clearance}
use Rattle.checks.specs.declared.fault.CheckFault.{CheckFault}
use Rattle.checks.specs.declared.fault.CheckFault.TheVariants.{Form, Typing}

-- The answer to a check, and the table of types after it.
pub record Checked : Type 0 where
  pub answer : Result ℕ CheckFault
  pub table : List Entry

-- The bound of a type: the role of a computation, else bottom.
abbrev pub bound_in : Meaning → Entry → ℕ
bound_in m e = cond (e.tag == 4) e.third m.bottom

-- The answer by a walk: the bound of the type that it found, or the fault at which it stopped.
abbrev pub walk_answer : Meaning → Walked → Result ℕ CheckFault
walk_answer m (going T u x) = Ok (bound_in m (at T x))
walk_answer m (stopped T c) = Err (Typing c)

-- After the questions of form the walk; a fault of form leaves the types as they were.
abbrev pub after_form : Meaning → List Entry → Answer → Walked → Checked
after_form m types (Ok u) w = record { answer = walk_answer m w; table = table_of w }
after_form m types (Err f) w = record { answer = Err (Form f); table = types }

-- The check of a job of t types and n terms in two tables: form, then the walk of the last term, under no binder.
abbrev pub check_of : Meaning → System → ℕ → ℕ → List Entry → List Entry → Checked
check_of m α t n types terms =
    after_form m types (form m t n types terms) (walk_of m α t (take n terms) (n - 1) [] types t)

-- What an accepted sufficient check gives.
abbrev pub cleared : Result ℕ CheckFault → Result Clearance CheckFault
cleared (Ok b) = Ok (record { bound = b })
cleared (Err f) = Err f
