use Rattle.std.proofs.Common.{sym, ◌∙◌}
use Rattle.roles.proofs.Deciding.{join_role}
use Rattle.pairs.proofs.PairScheme.join.Goals as goal

pub pack-requires-clause-first : goal.pack-requires-clause-first
pack-requires-clause-first g c = join_role (g.met.A.Scheme.lawful c.args.self.now.first) _ _ _ (sym c.join.ensures ∙ c.in_ok-x.was)

pub pack-requires-clause-second : goal.pack-requires-clause-second
pack-requires-clause-second g c = join_role (g.met.B.Scheme.lawful c.args.self.now.second) _ _ _ (sym c.join-2.ensures ∙ c.in_ok-y.was)
