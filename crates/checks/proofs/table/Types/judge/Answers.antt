use Rattle.checks.specs.Systems.{meant}
use Rattle.checks.proofs.Judges.{let_there, raise_there}
use Rattle.checks.proofs.table.Types.judge.Goals as goal

pub joined-requires : goal.joined-requires
joined-requires g c z = let_there _ (g.met.S.Scheme.lawful c.args.self.now.scheme.now) (meant c.args.self.now.system) c.args.place _ _ _ _ c.args.self.now.ground _ c.requires c.in-24.is z

pub raised-requires : goal.raised-requires
raised-requires g c z = raise_there _ (g.met.S.Scheme.lawful c.args.self.now.scheme.now) (meant c.args.self.now.system) c.args.place _ _ _ _ c.args.self.now.ground _ c.requires c.in-25.is z
