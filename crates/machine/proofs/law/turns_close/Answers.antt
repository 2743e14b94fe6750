use Rattle.machine.proofs.Agreeing.{turns_close_lem}
use Rattle.machine.proofs.law.turns_close.Goals as goal

pub returns : goal.returns
returns c = turns_close_lem
