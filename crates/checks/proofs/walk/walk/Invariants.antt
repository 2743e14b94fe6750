use Rattle.checks.specs.Systems.{meant}
use Rattle.checks.proofs.Stack.{Stands}
use Rattle.checks.proofs.Stacks.{stack}
use Rattle.checks.proofs.Walks.{pend_sum}
use Rattle.checks.proofs.walk.walk.Given as goal

abbrev pub invariant-loop-frame : goal.invariant-loop-frame
invariant-loop-frame g l =
    Stands (g.S.Scheme.meaning l.scheme) (meant l.system) l.t l.initial.types l.terms l.types l.used l.last l.binders (stack l.frames.items)

abbrev pub decreases-loop-frame : goal.decreases-loop-frame
decreases-loop-frame g l = pend_sum (g.S.Scheme.meaning l.scheme) (meant l.system) l.t l.terms 1 (stack l.frames.items)
