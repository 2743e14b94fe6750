use Rattle.trees.proofs.Accepting.{codes_are_roles}
use Rattle.trees.proofs.accepted_is_coded.Goals as goal

pub returns : goal.returns
returns c = codes_are_roles
