use Rattle.rounds.proofs.Trips.{rewritten}
use Rattle.rounds.proofs.rewriting.Goals as goal

pub returns : goal.returns
returns c = rewritten
