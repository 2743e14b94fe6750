use Rattle.machine.proofs.Agreeing.{advances_join_lem}
use Rattle.machine.proofs.law.advances_join.Goals as goal

pub returns : goal.returns
returns c = advances_join_lem
