use Rattle.run_laws.proofs.Joining.{advances_add_lem}
use Rattle.run_laws.proofs.advances_add.Goals as goal

pub returns : goal.returns
returns c = advances_add_lem
