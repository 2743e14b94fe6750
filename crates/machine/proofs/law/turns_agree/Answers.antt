use Rattle.machine.proofs.Agreeing.{turns_agree_lem}
use Rattle.machine.proofs.law.turns_agree.Goals as goal

pub returns : goal.returns
returns c = turns_agree_lem
