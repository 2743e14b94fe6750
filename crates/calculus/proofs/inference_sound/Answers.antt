use Rattle.calculus.proofs.Sound.{inference_sound_lem}
use Rattle.calculus.proofs.inference_sound.Goals as goal

pub returns : goal.returns
returns c = inference_sound_lem
