use Rattle.machine.proofs.Unfolding.{trees_stay_lem}
use Rattle.machine.proofs.law.trees_stay.Goals as goal

pub returns : goal.returns
returns c = trees_stay_lem
