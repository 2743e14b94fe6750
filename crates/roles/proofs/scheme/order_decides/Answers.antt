use Rattle.roles.proofs.Deciding.{order_decides_lem}
use Rattle.roles.proofs.scheme.order_decides.Goals as goal

pub returns : goal.returns
returns c = order_decides_lem
