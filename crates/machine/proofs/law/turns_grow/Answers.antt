use Rattle.machine.proofs.Agreeing.{turns_grow_lem}
use Rattle.machine.proofs.law.turns_grow.Goals as goal

pub returns : goal.returns
returns c = turns_grow_lem
