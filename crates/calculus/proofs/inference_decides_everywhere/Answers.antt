use Rattle.calculus.proofs.Complete.{inference_decides_everywhere_lem}
use Rattle.calculus.proofs.inference_decides_everywhere.Goals as goal

pub returns : goal.returns
returns c = inference_decides_everywhere_lem
