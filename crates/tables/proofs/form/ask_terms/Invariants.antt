use Rattle.std.proofs.Common.{◌≡◌, ◌-◌, length}
use Rattle.tables.specs.Asking.{of_each}
use Rattle.tables.specs.Form.{ask_term}
use Rattle.tables.proofs.form.ask_terms.Given as goal

-- what is left to ask gives the answer
abbrev pub invariant-loop-i : goal.invariant-loop-i
invariant-loop-i g l =
    let ask = ask_term (g.S.Scheme.meaning l.scheme).role l.t l.terms in
    of_each ask (length l.terms - l.i) l.i ≡ of_each ask (length l.terms) 0
