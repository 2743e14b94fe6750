use Rattle.trees.proofs.Keeping.{keeps}
use Rattle.trees.proofs.prefix_keeps_trees.Goals as goal

pub returns : goal.returns
returns c = keeps
