use Rattle.trees.proofs.Accepting.{form_decides_lem}
use Rattle.trees.proofs.form_decides.Goals as goal

pub returns : goal.returns
returns c = form_decides_lem
