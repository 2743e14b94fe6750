-- What the answer of a check says by the rules of the calculus. Assumes nothing.
use Rattle.std.specs.Prelude.{◌≡◌, ℕ, ◌-◌, List, take, Ok, Err, Result}
use Rattle.roles.specs.Meaning.{Meaning}
use Rattle.calculus.specs.Syntax.{Ty, base, function, guarded, computation, Term}
use Rattle.calculus.specs.Subtyping.{System}
use Rattle.tables.specs.declared.entry.Entry.{Entry}
use Rattle.trees.specs.Trees.{term_of}
use Rattle.walks.specs.Sense.{Least, Untyped}
use Rattle.checks.specs.declared.clearance.Clearance.{Clearance}
use Rattle.checks.specs.declared.fault.CheckFault.{CheckFault}
use Rattle.checks.specs.declared.fault.CheckFault.TheVariants.{Form, Typing}

-- The term that a job of t types and n terms stands for: its last.
abbrev pub job_term : ℕ → ℕ → List Entry → List Entry → Term
job_term t n types terms = term_of (take t types) (take n terms) (n - 1)

-- The bound of a type: the role of a computation, else bottom.
abbrev pub bound_of : Meaning → Ty → ℕ
bound_of m (base k) = m.bottom
bound_of m (function t s) = m.bottom
bound_of m (guarded a t) = m.bottom
bound_of m (computation b t) = b

-- An accepted term has a least type by the rules, and the answer is its bound; the rules give a term refused by its typing no type; and what has not the form of a job stands for no term.
abbrev pub Says : Meaning → System → Term → Result ℕ CheckFault → Type 0
Says m α e (Ok b) = (t : Ty) × Least m α e t × (b ≡ bound_of m t)
Says m α e (Err (Typing c)) = Untyped m α e
Says m α e (Err (Form f)) = Unit {0}

-- A clearance says what its bound says.
abbrev pub plain : Result Clearance CheckFault → Result ℕ CheckFault
plain (Ok c) = Ok c.bound
plain (Err f) = Err f
