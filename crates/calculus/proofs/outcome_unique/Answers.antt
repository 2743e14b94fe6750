use Rattle.calculus.proofs.Outcomes.{outcome_unique_lem}
use Rattle.calculus.proofs.outcome_unique.Goals as goal

pub returns : goal.returns
returns c = outcome_unique_lem
