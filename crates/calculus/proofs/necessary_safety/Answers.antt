use Rattle.calculus.proofs.Safety.{necessary_safety_lem}
use Rattle.calculus.proofs.necessary_safety.Goals as goal

pub returns : goal.returns
returns c = necessary_safety_lem
