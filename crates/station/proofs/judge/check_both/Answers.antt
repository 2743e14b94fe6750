use Rattle.std.proofs.Common.{ℕ, List, Result, ap, ◌∙◌, ap₂}
use Rattle.calculus.specs.Subtyping.{necessary}
use Rattle.tables.specs.declared.entry.Entry.{Entry}
use Rattle.checks.specs.Checking.{check_of}
use Rattle.checks.specs.Sense.{plain}
use Rattle.checks.proofs.Meaning.{plain_cleared}
use Rattle.station.specs.declared.refusal.Refusal.{Refusal}
use Rattle.station.specs.declared.verdict.Verdict.{Verdict}
use Rattle.station.specs.Verdicts.{of_check}
use Rattle.station.proofs.judge.check_both.Goals as goal

abbrev both : Result ℕ Refusal → Result ℕ Refusal → Verdict
both s n = record { sufficient = s; necessary = n }

pub returns : goal.returns
returns g c =
    ap₂ both
    (c.told-sufficient.ensures ∙ ap of_check (c.bound_of.ensures ∙ (ap plain c.check_sufficient.ensures.answer ∙ plain_cleared _)))
    (c.told-necessary.ensures
    ∙ ap of_check (c.check_necessary.ensures.answer ∙ ap (λ (T : List Entry). (check_of (g.S.Scheme.meaning c.args.scheme.now) necessary c.args.counts.types c.args.counts.terms T c.args.terms.now).answer) c.check_sufficient.ensures.table))
