use Rattle.std.proofs.Common.{sym, refl, ◌∙◌}
use Rattle.std.proofs.lemmas.Bool.{le-ltb}
use Rattle.runs.proofs.Using.{pass_take, too_long, too_many, none_pass, not_past, by_reach, live_by}
use Rattle.runs.proofs.usable.usable.Goals as goal
use Rattle.runs.proofs.usable.usable.Goals.{then-terms-gt16384-via-then-terms-gt16384, then-terms-gt16384-via-else-terms-gt16384+then-used-terms, then-terms-gt16384-via-else-terms-gt16384+else-used-terms+then-not-scan}

pub returns-then-terms-gt16384-clause-is : goal.returns-then-terms-gt16384-clause-is
returns-then-terms-gt16384-clause-is g c =
    let role = (g.S.Scheme.meaning c.args.scheme.now).role in
    elim c.then-terms-gt16384.branch [
      | then-terms-gt16384-via-then-terms-gt16384 w ↦ too_long role c.args.terms.now c.args.used c.args.current w.if-terms-gt16384.true
      | then-terms-gt16384-via-else-terms-gt16384+then-used-terms w ↦ too_many role c.args.terms.now c.args.used c.args.current w.if-terms-gt16384.false w.if-used-terms.true
      | then-terms-gt16384-via-else-terms-gt16384+else-used-terms+then-not-scan w ↦
          none_pass role c.args.terms.now c.args.used c.args.current w.if-terms-gt16384.false w.if-used-terms.false (sym (pass_take role c.args.terms.now c.args.used w.if-used-terms.false) ∙ sym w.if-not-scan.ensures.passed)
    ]

pub returns-then-current-used-clause-is : goal.returns-then-current-used-clause-is
returns-then-current-used-clause-is g c =
    let role = (g.S.Scheme.meaning c.args.scheme.now).role in
    let p = sym (pass_take role c.args.terms.now c.args.used c.if-used-terms.false) ∙ sym c.if-not-scan.ensures.passed in
    by_reach role c.args.terms.now c.args.used c.args.current c.if-terms-gt16384.false c.if-used-terms.false p c.scan.new.reach (c.if-not-scan.ensures.known refl) c.if-current-used.true

pub returns-then-current-used-clause-live : goal.returns-then-current-used-clause-live
returns-then-current-used-clause-live g c =
    let role = (g.S.Scheme.meaning c.args.scheme.now).role in
    let p = sym (pass_take role c.args.terms.now c.args.used c.if-used-terms.false) ∙ sym c.if-not-scan.ensures.passed in
    λ h. live_by role c.args.terms.now c.args.used c.args.current c.if-terms-gt16384.false c.if-used-terms.false p c.scan.new.reach (c.if-not-scan.ensures.known refl) c.if-current-used.true
    (c.scan.auto.reach ∙ c.requires) h

pub returns-else-current-used-clause-is : goal.returns-else-current-used-clause-is
returns-else-current-used-clause-is g c =
    let role = (g.S.Scheme.meaning c.args.scheme.now).role in
    let p = sym (pass_take role c.args.terms.now c.args.used c.if-used-terms.false) ∙ sym c.if-not-scan.ensures.passed in
    le-ltb c.args.current c.args.used c.if-current-used.false
    ∙ not_past role c.args.terms.now c.args.used c.args.current c.if-terms-gt16384.false c.if-used-terms.false p c.if-current-used.false
