use Rattle.std.proofs.Common.{sym, ◌∙◌}
use Rattle.std.proofs.lemmas.Result.{err_from_is_err_and}
use Rattle.tables.specs.Form.{ask_term}
use Rattle.tables.proofs.Asked.{each_ok, each_err}
use Rattle.tables.proofs.form.ask_terms.Goals as goal

pub returns-in_err-ask_term : goal.returns-in_err-ask_term
returns-in_err-ask_term g c =
    let p = err_from_is_err_and c.from_residual.result c.from_residual.ensures.1 in
    rw (p.1, p.2) (sym (each_err (ask_term (g.S.Scheme.meaning c.args.scheme.now).role c.args.t c.args.terms.now) _ _ _ c.loop-i-test.true c.in_err-ask_term.ensures) ∙ c.loop-i.invariant)

pub loop-i-preserved : goal.loop-i-preserved
loop-i-preserved g c =
    sym (each_ok (ask_term (g.S.Scheme.meaning c.args.scheme.now).role c.args.t c.args.terms.now) _ _ _ c.loop-i-test.true c.in_ok-ask_term.ensures) ∙ c.loop-i.invariant
