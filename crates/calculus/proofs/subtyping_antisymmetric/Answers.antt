use Rattle.calculus.proofs.Order.{subtyping_antisymmetric_lem}
use Rattle.calculus.proofs.subtyping_antisymmetric.Goals as goal

pub returns : goal.returns
returns c = subtyping_antisymmetric_lem
