use Rattle.calculus.proofs.Closing.{steps_keep_closed_lem}
use Rattle.calculus.proofs.steps_keep_closed.Goals as goal

pub returns : goal.returns
returns c = steps_keep_closed_lem
