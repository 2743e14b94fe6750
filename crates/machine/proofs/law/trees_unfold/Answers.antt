use Rattle.machine.proofs.Unfolding.{trees_unfold_lem}
use Rattle.machine.proofs.law.trees_unfold.Goals as goal

pub returns : goal.returns
returns c = trees_unfold_lem
