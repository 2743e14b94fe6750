use Rattle.calculus.proofs.Raising.{raising_needs_remainder_lem}
use Rattle.calculus.proofs.raising_needs_remainder.Goals as goal

pub returns : goal.returns
returns c = raising_needs_remainder_lem
