use Rattle.calculus.proofs.Outcomes.{next_decides_lem}
use Rattle.calculus.proofs.next_decides.Goals as goal

pub returns : goal.returns
returns c = next_decides_lem
