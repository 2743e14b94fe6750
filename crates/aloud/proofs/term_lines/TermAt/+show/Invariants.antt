use Rattle.std.proofs.Common.{length}
use Rattle.aloud.proofs.term_lines.TermAt.+show.Given as goal

-- a term names lower terms
abbrev pub decreases-show : goal.decreases-show
decreases-show g l = length l.self.terms.now
