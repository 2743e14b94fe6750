use Rattle.rounds.proofs.Trips.{reread}
use Rattle.rounds.proofs.rereading.Goals as goal

pub returns : goal.returns
returns c = reread
