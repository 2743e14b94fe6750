use Rattle.machine.proofs.Refusing.{refusals_told_lem}
use Rattle.machine.proofs.law.refusals_told.Goals as goal

pub returns : goal.returns
returns c = refusals_told_lem
