use Rattle.trees.proofs.Accepting.{closes}
use Rattle.trees.proofs.accepted_is_closed.Goals as goal

pub returns : goal.returns
returns c = closes
