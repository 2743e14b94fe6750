use Rattle.calculus.proofs.Complete.{inference_decides_lem}
use Rattle.calculus.proofs.inference_decides.Goals as goal

pub returns : goal.returns
returns c = inference_decides_lem
