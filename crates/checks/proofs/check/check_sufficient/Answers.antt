use Rattle.std.proofs.Common.{◌+◌, sym, ap, ◌∙◌, subst}
use Rattle.calculus.specs.Subtyping.{sufficient}
use Rattle.walks.specs.Sense.{Within}
use Rattle.checks.specs.Checking.{cleared}
use Rattle.checks.specs.Sense.{job_term, plain, Says}
use Rattle.checks.proofs.Meaning.{check_meant, plain_cleared}
use Rattle.checks.proofs.check.check_sufficient.Goals as goal

pub returns : goal.returns
returns g c =
    let k = check_meant (g.S.Scheme.meaning c.args.scheme.now) (g.met.S.Scheme.lawful c.args.scheme.now) sufficient c.args.counts.types c.args.counts.terms c.args.types.now c.args.terms.now in
    let q = c.clear.ensures ∙ ap cleared c.check.ensures.answer in
    record {
      answer = q;
      table = c.check.ensures.table;
      sense = subst (Says (g.S.Scheme.meaning c.args.scheme.now) sufficient (job_term c.args.counts.types c.args.counts.terms c.args.types.now c.args.terms.now)) (sym (ap plain q ∙ plain_cleared _)) k.sense;
      within = subst (Within c.args.counts.types (c.args.counts.types + c.args.counts.terms) c.args.types.now) (sym c.check.ensures.table) k.within;
    }
