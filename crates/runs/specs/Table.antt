-- Turns at the table, where it has room for them. Assumes nothing.
use Rattle.std.specs.Prelude.{◌≡◌, ℕ, ◌+◌, ◌<◌, ◌≤◌, true, List, length, take, Ok, Err, Result}
use Rattle.roles.specs.Meaning.{Meaning}
use Rattle.tables.specs.declared.entry.Entry.{Entry}
use Rattle.machine.specs.Labelled.{tree, closed}
use Rattle.machine.specs.Turns.{State, turn, rests, moves, role_fault, shape_fault, Advanced}
use Rattle.machine.specs.declared.condition.Condition.{Condition}
use Rattle.machine.specs.declared.condition.Condition.TheVariants.{Going, Finished, RoleFault, ShapeFault, TableFull}
use Rattle.runs.specs.declared.find.Redex.{Redex}
use Rattle.runs.specs.declared.turn.Moved.{Moved}
use Rattle.runs.specs.Copy.{laid}
use Rattle.runs.specs.Reach.{Ground, Known}

-- The first u entries of a table, with c the current one.
abbrev pub state : List Entry → ℕ → ℕ → State
state es u c = record { used = take u es; current = c }

-- The table es became fs by that turn, of which u entries were used, with c the current one. No turn only goes on.
abbrev pub TurnIs : Meaning → ℕ → List Entry → List Entry → ℕ → ℕ → Result Moved Condition → Type 0
TurnIs m r es fs u c (Ok x) = (new : List Entry) × (turn m r (state es u c) ≡ moves new x.current) × (fs ≡ laid es u new) × (x.used ≡ u + length new) × (x.used ≤ length es)
TurnIs m r es fs u c (Err Going) = ⊥
TurnIs m r es fs u c (Err Finished) = (turn m r (state es u c) ≡ rests) × (fs ≡ es)
TurnIs m r es fs u c (Err (RoleFault i a x)) = (turn m r (state es u c) ≡ role_fault i a x) × (fs ≡ es)
TurnIs m r es fs u c (Err (ShapeFault i)) = (turn m r (state es u c) ≡ shape_fault i) × (fs ≡ es)
TurnIs m r es fs u c (Err TableFull) = (new : List Entry) × (k : ℕ) × (turn m r (state es u c) ≡ moves new k) × (length es < u + length new) × (fs ≡ es)

-- What an advance came to, at the table.
abbrev pub advanced : List Entry → ℕ → ℕ → ℕ → Condition → Advanced
advanced es made u c x = record { made = made; state = state es u c; condition = x }

-- All that a turn needs of the table and of the reaches.
pub record Live (es : List Entry) (rs : List ℕ) (u c : ℕ) : Type 0 where
  pub ground : Ground (take u es)
  pub known : Known (take u es) rs
  pub shut : closed 0 (tree (take u es) c) ≡ true
  pub low : u ≤ length es
  pub reaching : length es ≤ length rs
  pub present : c < u

-- The same after a turn.
abbrev pub LiveAfter : List Entry → List ℕ → ℕ → ℕ → Result Moved Condition → Type 0
LiveAfter fs rs u c (Ok x) = Live fs rs x.used x.current
LiveAfter fs rs u c (Err k) = Live fs rs u c

-- The condition where no budget is left.
abbrev pub idle_of : Result Redex Condition → Condition
idle_of (Ok x) = Going
idle_of (Err c) = c
