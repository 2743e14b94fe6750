use Rattle.calculus.proofs.Closing.{typed_closed_lem}
use Rattle.calculus.proofs.typed_closed.Goals as goal

pub returns : goal.returns
returns c = typed_closed_lem
