use Rattle.calculus.proofs.Safety.{sufficient_safety_lem}
use Rattle.calculus.proofs.sufficient_safety.Goals as goal

pub returns : goal.returns
returns c = sufficient_safety_lem
