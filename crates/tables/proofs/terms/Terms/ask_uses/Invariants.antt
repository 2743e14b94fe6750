use Rattle.std.proofs.Common.{◌≡◌, ◌-◌, length}
use Rattle.tables.specs.Asking.{of_each}
use Rattle.tables.specs.Form.{ask_use}
use Rattle.tables.proofs.terms.Terms.ask_uses.Given as goal

-- what is left to ask gives the answer
abbrev pub invariant-loop-i : goal.invariant-loop-i
invariant-loop-i l =
    let terms = l.self.entries.now in
    of_each (ask_use l.self.t terms) (length terms - 1 - l.i) l.i ≡ of_each (ask_use l.self.t terms) (length terms - 1) 0
