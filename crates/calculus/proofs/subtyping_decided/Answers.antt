use Rattle.calculus.proofs.Test.{subtyping_decided_lem}
use Rattle.calculus.proofs.subtyping_decided.Goals as goal

pub returns : goal.returns
returns c = subtyping_decided_lem
