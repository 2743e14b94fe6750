use Rattle.machine.proofs.Agreeing.{advances_spend_lem}
use Rattle.machine.proofs.law.advances_spend.Goals as goal

pub returns : goal.returns
returns c = advances_spend_lem
