-- A run: how it starts, what it looks like, and what an advance makes of it and of the terms. Assumes nothing.
use Rattle.std.specs.Prelude.{ℕ, ◌+◌, ◌-◌, ◌^◌, Bool, cond, List, ◌++◌, length, drop, Some, None, Ok, Err, Option, Result, nat_lt}
use Rattle.roles.specs.Meaning.{Meaning}
use Rattle.roles.specs.declared.scheme.SchemeFault.TheVariants.{Unsound}
use Rattle.tables.specs.declared.entry.Entry.{Entry}
use Rattle.tables.specs.declared.entry.Counts.{Counts}
use Rattle.tables.specs.Asking.{Answer}
use Rattle.tables.specs.Form.{form}
use Rattle.machine.specs.declared.condition.Condition.{Condition}
use Rattle.machine.specs.declared.condition.Condition.TheVariants.{Going}
use Rattle.machine.specs.Conditions.{ends}
use Rattle.machine.specs.Turns.{Advanced, advance}
use Rattle.runs.specs.declared.fault.RunFault.{RunFault}
use Rattle.runs.specs.declared.fault.RunFault.TheVariants.{Scheme, Role, Unusable, Ended, Budget}
use Rattle.runs.specs.declared.fault.StartFault.{StartFault}
use Rattle.runs.specs.declared.fault.StartFault.TheVariants as start
use Rattle.runs.specs.declared.run.Run.{Run}
use Rattle.runs.specs.declared.run.Look.{Look}
use Rattle.runs.specs.declared.run.Progress.{Progress}
use Rattle.runs.specs.declared.turn.Moved.{Moved}
use Rattle.runs.specs.Table.{state}
use Rattle.runs.specs.Usable.{usable}

-- A run of a job of n terms under the role r, before its first step.
abbrev pub begun : ℕ → ℕ → Run
begun n r = record { role = r; steps = 0; used = n; current = n - 1; condition = Going }

-- What looking at a run tells.
abbrev pub seen : Run → Look
seen x = record { steps = x.steps; used = x.used; current = x.current; condition = x.condition }

-- After the questions of form: is the code a role?
abbrev pub then_role : Answer → Bool → ℕ → Result (Unit {0}) StartFault
then_role (Ok u) b r = cond b (Ok tt) (Err (start.Role r))
then_role (Err f) b r = Err (start.Form f)

-- What a start asks of a job of so many types and terms, and of a role.
abbrev pub start_asked : Meaning → Counts → List Entry → List Entry → ℕ → Result (Unit {0}) StartFault
start_asked m n types terms r = then_role (form m n.types n.terms types terms) (m.role r) r

-- The run that an accepted start gives.
abbrev pub started : Result (Unit {0}) StartFault → ℕ → ℕ → Result Run StartFault
started (Ok u) n r = Ok (begun n r)
started (Err f) n r = Err f

-- The first question of an advance that is answered with no: is the scheme sound, the run's role a role, the table usable, the run not ended, and are the steps with the budget below 2^32?
abbrev pub refusal : Meaning → Run → List Entry → ℕ → Option RunFault
refusal m x es k =
    cond m.sound
    (cond (m.role x.role)
    (cond (usable m.role es x.used x.current)
    (cond (ends x.condition) (Some (Ended x.condition))
    (cond (nat_lt (x.steps + k) (2 ^ 32)) None (Some (Budget x.steps k))))
    (Some Unusable))
    (Some (Role x.role)))
    (Some (Scheme Unsound))

-- The answer to the questions alone.
abbrev pub asked_first : Option RunFault → Result (Unit {0}) RunFault
asked_first None = Ok tt
asked_first (Some f) = Err f

-- The advance itself: from the used entries of the table and the current one.
abbrev pub gone : Meaning → Run → List Entry → ℕ → Advanced
gone m x es k = advance m x.role (length es) k (state es x.used x.current)

-- What is answered: a refusal, or how many steps were made and the condition.
abbrev pub answered : Option RunFault → Advanced → Result Progress RunFault
answered None a = Ok (record { made = a.made; condition = a.condition })
answered (Some f) a = Err f

-- The run after an advance.
abbrev pub settled : Run → Advanced → Run
settled x a = record { role = x.role; steps = x.steps + a.made; used = length a.state.used; current = a.state.current; condition = a.condition }

-- A run that has not ended, after a turn.
abbrev pub moving : Run → Result Moved Condition → Run
moving x (Ok y) = record { role = x.role; steps = x.steps + 1; used = y.used; current = y.current; condition = Going }
moving x (Err c) = record { role = x.role; steps = x.steps; used = x.used; current = x.current; condition = c }

-- A run after a turn: one that has ended stays.
abbrev pub taken : Run → Result Moved Condition → Run
taken x t = cond (ends x.condition) x (moving x t)

-- The run after the call: a refusal leaves it.
abbrev pub run_after : Option RunFault → Run → Advanced → Run
run_after None x a = settled x a
run_after (Some f) x a = x

-- The terms after the call: the used ones, and beyond them what was there; a refusal leaves them.
abbrev pub terms_after : Option RunFault → List Entry → Advanced → List Entry
terms_after None es a = a.state.used ++ drop (length a.state.used) es
terms_after (Some f) es a = es
