use Rattle.calculus.proofs.Outcomes.{steps_counted_lem}
use Rattle.calculus.proofs.steps_counted.Goals as goal

pub returns : goal.returns
returns c = steps_counted_lem
