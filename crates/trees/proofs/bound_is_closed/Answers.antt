use Rattle.trees.proofs.Closing.{bound_closed}
use Rattle.trees.proofs.bound_is_closed.Goals as goal

pub returns : goal.returns
returns c = bound_closed
