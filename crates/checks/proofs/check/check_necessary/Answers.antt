use Rattle.std.proofs.Common.{◌+◌, sym, subst}
use Rattle.calculus.specs.Subtyping.{necessary}
use Rattle.walks.specs.Sense.{Within}
use Rattle.checks.specs.Sense.{job_term, Says}
use Rattle.checks.proofs.Meaning.{check_meant}
use Rattle.checks.proofs.check.check_necessary.Goals as goal

pub returns : goal.returns
returns g c =
    let k = check_meant (g.S.Scheme.meaning c.args.scheme.now) (g.met.S.Scheme.lawful c.args.scheme.now) necessary c.args.counts.types c.args.counts.terms c.args.types.now c.args.terms.now in
    record {
      answer = c.check.ensures.answer;
      table = c.check.ensures.table;
      sense = subst (Says (g.S.Scheme.meaning c.args.scheme.now) necessary (job_term c.args.counts.types c.args.counts.terms c.args.types.now c.args.terms.now)) (sym c.check.ensures.answer) k.sense;
      within = subst (Within c.args.counts.types (c.args.counts.types + c.args.counts.terms) c.args.types.now) (sym c.check.ensures.table) k.within;
    }
