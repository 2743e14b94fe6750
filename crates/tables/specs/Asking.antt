-- Questions in their order: the first that is answered with no is told, and nothing after it is asked. Assumes nothing.
use Rattle.std.specs.Prelude.{ℕ, zero, suc, ◌+◌, Bool, true, false, Ok, Err, Result}
use Rattle.tables.specs.declared.fault.FormFault.{FormFault}

-- Yes to all that was asked, or the fault to tell.
abbrev pub Asked : Type 0 → Type 0
Asked F = Result (Unit {0}) F

-- The answer to questions of form.
abbrev pub Answer : Type 0
Answer = Asked FormFault

-- One question, with the fault that a no tells.
abbrev pub asks : {F : Type 0} → Bool → F → Asked F
asks true f = Ok tt
asks false f = Err f

-- A question, and then, if it was answered with yes, the rest.
abbrev pub and_then : {F : Type 0} → Asked F → Asked F → Asked F
and_then (Ok u) r = r
and_then (Err f) r = Err f

-- What a call returns: x if all was answered with yes, else the fault.
abbrev pub told : {F X : Type 0} → Asked F → X → Result X F
told (Ok u) x = Ok x
told (Err f) x = Err f

-- The same question of the entries i, i + 1, …, k of them.
abbrev pub of_each : (ℕ → Answer) → ℕ → ℕ → Answer
of_each ask zero i = Ok tt
of_each ask (suc k) i = and_then (ask i) (of_each ask k (i + 1))
