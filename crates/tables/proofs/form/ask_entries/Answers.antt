use Rattle.std.proofs.Common.{sym}
use Rattle.tables.proofs.Rooting.{rooted}
use Rattle.tables.proofs.form.ask_entries.Goals as goal

pub invariant_of-terms-clause-rooted : goal.invariant_of-terms-clause-rooted
invariant_of-terms-clause-rooted g c =
    rooted (g.S.Scheme.meaning c.args.scheme.now).role _ c.args.terms.now (sym c.in_ok-ask_terms.ensures)
