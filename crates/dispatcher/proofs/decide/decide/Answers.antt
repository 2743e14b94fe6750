use Rattle.dispatcher.proofs.Starts.{starts_exactly}
use Rattle.dispatcher.proofs.decide.decide.Goals as goal

pub returns : goal.returns
returns g c = record { exact = c.compare.ensures; starts = starts_exactly (g.met.S.Scheme.lawful c.args.scheme.now) c.args.codes _ c.compare.ensures }
