use Rattle.calculus.proofs.Complete.{inference_least_everywhere_lem}
use Rattle.calculus.proofs.inference_least_everywhere.Goals as goal

pub returns : goal.returns
returns c = inference_least_everywhere_lem
