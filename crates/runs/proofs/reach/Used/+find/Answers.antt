use Rattle.std.proofs.Common.{Ok, Err, Result, sym, refl, ap, ◌∙◌, subst, true≢false, arith}
use Rattle.std.proofs.lemmas.Result.{err_from_is_err_and}
use Rattle.machine.specs.declared.condition.Condition.{Condition}
use Rattle.runs.specs.declared.find.Redex.{Redex}
use Rattle.runs.specs.Find.{met_of, is_ready, FoundFits}
use Rattle.runs.proofs.Finding.{first_below, at_value, at_variable, at_redex, at_none, at_some, not-true}
use Rattle.runs.proofs.Fitting.{first_closed, fits_here, fits_out}
use Rattle.runs.proofs.reach.Used.+find.Goals as goal

pub returns-then-is_value-clause-met : goal.returns-then-is_value-clause-met
returns-then-is_value-clause-met g t c =
    at_value (g.S.Scheme.meaning c.args.scheme.now) c.args.self.now.terms.now c.args.self.now.ground c.args.at c.requires.0 c.args.context (sym c.if-is_value.ensures)

pub returns-then-e-eq-VARIABLE-clause-met : goal.returns-then-e-eq-VARIABLE-clause-met
returns-then-e-eq-VARIABLE-clause-met g t c =
    at_variable (g.S.Scheme.meaning c.args.scheme.now) c.args.self.now.terms.now c.args.self.now.ground c.args.at c.requires.0 c.args.context c.if-e-eq-VARIABLE.true

pub returns-then-is_value-2-clause-met : goal.returns-then-is_value-2-clause-met
returns-then-is_value-2-clause-met g t c =
    at_redex (g.S.Scheme.meaning c.args.scheme.now) c.args.self.now.terms.now c.args.self.now.ground c.args.at c.requires.0 (sym c.if-is_value.ensures) c.if-e-eq-VARIABLE.false
    c.args.context c.dominates.result (sym c.if-is_value-2.ensures) c.dominates.ensures
    ∙ ap (λ (z : Result Redex Condition). met_of c.args.self.now.terms.now c.args.at z) (sym c.act_here.ensures)

pub returns-then-is_value-2-clause-fits : goal.returns-then-is_value-2-clause-fits
returns-then-is_value-2-clause-fits g t c =
    subst (λ (z : Result Redex Condition). FoundFits c.args.self.now.terms.now c.args.at z) (sym c.act_here.ensures)
    (fits_here c.args.self.now.terms.now c.args.self.now.ground c.args.at c.requires.0 c.requires.1 (sym c.if-is_value.ensures) c.if-e-eq-VARIABLE.false c.dominates.result c.args.context)

pub returns-in_default-clause-met : goal.returns-in_default-clause-met
returns-in_default-clause-met g t c =
    at_none (g.S.Scheme.meaning c.args.scheme.now) c.args.self.now.terms.now c.args.self.now.ground c.args.at c.requires.0 (sym c.if-is_value.ensures) c.if-e-eq-VARIABLE.false
    c.args.context (sym c.if-is_value-2.ensures) (sym c.inner_role.ensures ∙ c.in_default.is)

pub find-requires : goal.find-requires
find-requires g t c within live =
    let l = first_below c.args.self.now.terms.now c.args.self.now.ground c.args.at c.requires.0 (sym c.if-is_value.ensures) c.if-e-eq-VARIABLE.false in
    let s = first_closed c.args.self.now.terms.now c.args.self.now.ground c.args.at c.requires.0 c.requires.1 (sym c.if-is_value.ensures) c.if-e-eq-VARIABLE.false in
    (omega arith, (live, (omega arith, s)))

pub returns-in_err-redex-clause-met : goal.returns-in_err-redex-clause-met
returns-in_err-redex-clause-met g t c =
    let v = sym c.if-is_value-2.ensures in
    let p = err_from_is_err_and c.from_residual.result c.from_residual.ensures.1 in
    let F : Result Redex Condition = Err c.in_err-redex.field-0.0 in
    at_some (g.S.Scheme.meaning c.args.scheme.now) c.args.self.now.terms.now c.args.self.now.ground c.args.at c.requires.0 (sym c.if-is_value.ensures) c.if-e-eq-VARIABLE.false
    c.args.context c.in-Some.inner F v (sym c.inner_role.ensures ∙ c.in-Some.is) (not-true (is_ready F) (λ h. true≢false (sym (c.in_err-redex.ensures.rests h) ∙ v))) c.in_err-redex.ensures.met
    ∙ ap (λ (z : Result Redex Condition). met_of c.args.self.now.terms.now c.args.at z) (sym (p.1 ∙ ap Err p.2))

pub returns-in_err-redex-clause-fits : goal.returns-in_err-redex-clause-fits
returns-in_err-redex-clause-fits g t c =
    let p = err_from_is_err_and c.from_residual.result c.from_residual.ensures.1 in
    subst (λ (z : Result Redex Condition). FoundFits c.args.self.now.terms.now c.args.at z) (sym (p.1 ∙ ap Err p.2))
    (fits_out c.args.self.now.terms.now c.args.self.now.ground c.args.at c.requires.0 c.requires.1 (sym c.if-is_value.ensures) c.if-e-eq-VARIABLE.false (Err c.in_err-redex.field-0.0) c.in_err-redex.ensures.fits)

pub returns-clause-met : goal.returns-clause-met
returns-clause-met g t c =
    let v = sym c.if-is_value-2.ensures in
    at_some (g.S.Scheme.meaning c.args.scheme.now) c.args.self.now.terms.now c.args.self.now.ground c.args.at c.requires.0 (sym c.if-is_value.ensures) c.if-e-eq-VARIABLE.false
    c.args.context c.in-Some.inner (Ok c.in_ok-redex.redex) v (sym c.inner_role.ensures ∙ c.in-Some.is) refl c.in_ok-redex.ensures.met

pub returns-clause-fits : goal.returns-clause-fits
returns-clause-fits g t c =
    fits_out c.args.self.now.terms.now c.args.self.now.ground c.args.at c.requires.0 c.requires.1 (sym c.if-is_value.ensures) c.if-e-eq-VARIABLE.false (Ok c.in_ok-redex.redex) c.in_ok-redex.ensures.fits
