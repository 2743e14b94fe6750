use Rattle.calculus.proofs.Order.{subtyping_transitive_lem}
use Rattle.calculus.proofs.subtyping_transitive.Goals as goal

pub returns : goal.returns
returns c = subtyping_transitive_lem
