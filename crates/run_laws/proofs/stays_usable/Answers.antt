use Rattle.run_laws.proofs.Joining.{stays_usable_lem}
use Rattle.run_laws.proofs.stays_usable.Goals as goal

pub returns : goal.returns
returns c = stays_usable_lem
