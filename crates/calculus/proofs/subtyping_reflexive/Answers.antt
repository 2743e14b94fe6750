use Rattle.calculus.proofs.Order.{subtyping_reflexive_lem}
use Rattle.calculus.proofs.subtyping_reflexive.Goals as goal

pub returns : goal.returns
returns c = subtyping_reflexive_lem
