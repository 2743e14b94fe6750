use Rattle.calculus.proofs.Complete.{inference_least_lem}
use Rattle.calculus.proofs.inference_least.Goals as goal

pub returns : goal.returns
returns c = inference_least_lem
