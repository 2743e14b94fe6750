-- A run on lists: the turns that a table of used entries makes under a role, and an advance by a budget. Assumes nothing.
use Rattle.std.specs.Prelude.{ℕ, zero, suc, ◌+◌, Bool, cond, List, ◌++◌, length, Some, None, Option, nat_le}
use Rattle.roles.specs.Meaning.{Meaning}
use Rattle.calculus.specs.Syntax.{Ty, Term}
use Rattle.calculus.specs.Steps.{Value, Step, IsRoleFault, IsShapeFault}
use Rattle.tables.specs.declared.entry.Entry.{Entry}
use Rattle.machine.specs.declared.condition.Condition.{Condition}
use Rattle.machine.specs.declared.condition.Condition.TheVariants.{Going, Finished, RoleFault, ShapeFault, TableFull}
use Rattle.machine.specs.Labelled.{tree, erase}
use Rattle.machine.specs.Plans.{write, Met, ready, makes, refused, misfit, step}

-- The used entries, and the current one.
pub record State : Type 0 where
  pub used : List Entry
  pub current : ℕ

-- What the next step is: none, since the current entry is a value; the entries that it appends and the new current entry; a role fault; a shape fault.
pub data Turn : Type 0 where
  rests : Turn
  moves : List Entry → ℕ → Turn
  role_fault : ℕ → ℕ → ℕ → Turn
  shape_fault : ℕ → Turn

-- What is met, with a plan written from place b on.
abbrev pub turned : ℕ → Met → Turn
turned b ready = rests
turned b (makes p) = moves (write b p).entries (write b p).place
turned b (refused i a c) = role_fault i a c
turned b (misfit i) = shape_fault i

-- The next turn under the role r.
abbrev pub turn : Meaning → ℕ → State → Turn
turn m r s = turned (length s.used) (step m r (tree s.used s.current))

-- The state with the entries appended.
abbrev pub moved : State → List Entry → ℕ → State
moved s new c = record { used = s.used ++ new; current = c }

-- How an advance ended: the steps made, the state after them, and the condition.
pub record Advanced : Type 0 where
  pub made : ℕ
  pub state : State
  pub condition : Condition

-- With no budget left: a value or a fault is told all the same.
abbrev pub idle : State → Turn → Advanced
idle s rests = record { made = 0; state = s; condition = Finished }
idle s (moves new c) = record { made = 0; state = s; condition = Going }
idle s (role_fault i a c) = record { made = 0; state = s; condition = RoleFault i a c }
idle s (shape_fault i) = record { made = 0; state = s; condition = ShapeFault i }

-- An answer after one step before it.
abbrev pub one_more : Advanced → Advanced
one_more a = record { made = suc a.made; state = a.state; condition = a.condition }

-- Has a table of so many places room for what the step appends?
abbrev pub room : ℕ → State → List Entry → Bool
room places s new = nat_le (length s.used + length new) places

-- A step is made if there is room for it, and f goes on from there.
abbrev pub push : ℕ → State → Turn → (State → Advanced) → Advanced
push places s rests f = record { made = 0; state = s; condition = Finished }
push places s (moves new c) f = cond (room places s new) (one_more (f (moved s new c))) (record { made = 0; state = s; condition = TableFull })
push places s (role_fault i a c) f = record { made = 0; state = s; condition = RoleFault i a c }
push places s (shape_fault i) f = record { made = 0; state = s; condition = ShapeFault i }

-- An advance in a table of so many places, with the budget k.
unfoldable pub advance : Meaning → ℕ → ℕ → ℕ → State → Advanced
advance m r places zero s = idle s (turn m r s)
advance m r places (suc k) s = push places s (turn m r s) (λ s'. advance m r places k s')

-- The state after one step that fits.
abbrev pub pushed : ℕ → State → Turn → Option State
pushed places s rests = None
pushed places s (moves new c) = cond (room places s new) (Some (moved s new c)) None
pushed places s (role_fault i a c) = None
pushed places s (shape_fault i) = None

-- The state after the next step, if there is one and it fits.
abbrev pub once : Meaning → ℕ → ℕ → State → Option State
once m r places s = pushed places s (turn m r s)

-- What follows from a state that is there.
abbrev pub after : Option State → (State → Option State) → Option State
after None f = None
after (Some s) f = f s

-- The state after exactly k steps that fit.
unfoldable pub walk : Meaning → ℕ → ℕ → ℕ → State → Option State
walk m r places zero s = Some s
walk m r places (suc k) s = after (once m r places s) (λ s'. walk m r places k s')

-- The current term, its claims looked up.
abbrev pub term : (ℕ → Ty) → State → Term
term claim s = erase claim (tree s.used s.current)

-- What the calculus says of the current term where that turn is next.
abbrev pub Agrees : Meaning → ℕ → (ℕ → Ty) → State → Turn → Type 0
Agrees m r claim s rests = Value (term claim s)
Agrees m r claim s (moves new c) = Step m r (term claim s) (term claim (moved s new c))
Agrees m r claim s (role_fault i a c) = IsRoleFault m r (term claim s)
Agrees m r claim s (shape_fault i) = IsShapeFault m r (term claim s)

-- An answer after j steps before it.
abbrev pub added_to : ℕ → Advanced → Advanced
added_to j a = record { made = j + a.made; state = a.state; condition = a.condition }
