use Rattle.calculus.proofs.Safety.{steps_keep_type_lem}
use Rattle.calculus.proofs.steps_keep_type.Goals as goal

pub returns : goal.returns
returns c = steps_keep_type_lem
