use Rattle.trees.proofs.Accepting.{unfolds}
use Rattle.trees.proofs.trees_unfold.Goals as goal

pub returns : goal.returns
returns c = unfolds
