use Rattle.checks.specs.Systems.{meant}
use Rattle.checks.proofs.Compares.{Leads, cost}
use Rattle.checks.proofs.Stacks.{stack}
use Rattle.checks.proofs.table.Types.below.Given as goal

-- the pairs of the stack are in order exactly if the two types are
abbrev pub invariant-loop-pair : goal.invariant-loop-pair
invariant-loop-pair g l = Leads (g.S.Scheme.meaning l.self.scheme.now) (meant l.self.system) l.self.entries.now l.self.used l.a l.b (stack l.pairs.items)

abbrev pub decreases-loop-pair : goal.decreases-loop-pair
decreases-loop-pair g l = cost l.self.entries.now (stack l.pairs.items)
