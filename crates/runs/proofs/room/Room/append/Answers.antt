use Rattle.std.proofs.Common.{refl}
use Rattle.runs.proofs.Laying.{appended}
use Rattle.runs.proofs.room.Room.append.Goals as goal

pub returns : goal.returns
returns c = appended _ _ c.args.e c.requires refl refl refl refl
