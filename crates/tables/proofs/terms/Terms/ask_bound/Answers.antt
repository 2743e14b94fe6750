use Rattle.std.proofs.Common.{◌≡◌, ℕ, ◌+◌, Bool, List, get_or, sym, ap, ◌∙◌}
use Rattle.std.proofs.lemmas.Result.{err_from_is_err_and}
use Rattle.tables.specs.declared.entry.Entry.{Entry}
use Rattle.tables.specs.declared.fault.FormFault.TheVariants.{Unbound}
use Rattle.tables.specs.Asking.{asks}
use Rattle.tables.specs.Depths.{bound_at, depths}
use Rattle.tables.specs.Entries.{at}
use Rattle.tables.specs.Form.{ask_bound}
use Rattle.tables.proofs.Asked.{each_ok, each_err}
use Rattle.tables.proofs.terms.Terms.ask_bound.Goals as goal

-- what was asked is the question of binding
asked : (t i : ℕ) (terms : List Entry) (ds : List ℕ) (b : Bool) → ds ≡ depths terms → b ≡ bound_at (at terms i) (get_or ds i 0) → asks b (Unbound (t + i)) ≡ ask_bound t terms i
asked t i terms ds b d e = ap (λ x. asks x (Unbound (t + i))) (e ∙ ap (λ l. bound_at (at terms i) (get_or l i 0)) d)

pub returns-in_err-ask : goal.returns-in_err-ask
returns-in_err-ask c =
    let p = err_from_is_err_and c.from_residual.result c.from_residual.ensures.1 in
    let q = asked c.args.self.now.t c.loop-i.i c.args.self.now.entries.now c.depths-depths.result c.is_bound.result c.depths-depths.ensures c.is_bound.ensures in
    rw (p.1, p.2)
    (sym (each_err (ask_bound c.args.self.now.t c.args.self.now.entries.now) _ _ _ c.loop-i-test.true (c.in_err-ask.ensures ∙ q)) ∙ c.loop-i.invariant)

pub loop-i-preserved : goal.loop-i-preserved
loop-i-preserved c =
    let q = asked c.args.self.now.t c.loop-i.i c.args.self.now.entries.now c.depths-depths.result c.is_bound.result c.depths-depths.ensures c.is_bound.ensures in
    sym (each_ok (ask_bound c.args.self.now.t c.args.self.now.entries.now) _ _ _ c.loop-i-test.true (c.in_ok-ask.ensures ∙ q)) ∙ c.loop-i.invariant
