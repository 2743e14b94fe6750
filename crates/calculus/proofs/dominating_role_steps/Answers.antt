use Rattle.calculus.proofs.Growing.{dominating_role_steps_lem}
use Rattle.calculus.proofs.dominating_role_steps.Goals as goal

pub returns : goal.returns
returns c = dominating_role_steps_lem
