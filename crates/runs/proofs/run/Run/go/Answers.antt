use Rattle.std.proofs.Common.{sym, subst, arith}
use Rattle.machine.specs.declared.condition.Condition.{Condition}
use Rattle.runs.specs.declared.run.Run.{Run}
use Rattle.runs.specs.Went.{Went}
use Rattle.runs.proofs.Going.{ends_here, goes_on, rests_here}
use Rattle.runs.proofs.run.Run.go.Goals as goal

pub returns-then-is_err : goal.returns-then-is_err
returns-then-is_err g c =
    ends_here (g.S.Scheme.meaning c.args.scheme.now) c.args.budget c.loop-made.made c.args.self.now c.loop-made.self c.args.terms.now c.loop-made.terms c.loop-made.reach
    c.loop-made.invariant (omega arith) c.turn_live-met.new.terms c.turn_live-met.result c.if-is_err.ensures.negation c.turn_live-met.ensures.is c.take.new.self c.take.ensures

pub loop-made-preserved : goal.loop-made-preserved
loop-made-preserved g c =
    goes_on (g.S.Scheme.meaning c.args.scheme.now) c.args.budget c.loop-made.made c.args.self.now c.loop-made.self c.args.terms.now c.loop-made.terms c.loop-made.reach
    c.loop-made.invariant (omega arith) c.turn_live-met.new.terms c.turn_live-met.new.reach c.turn_live-met.result c.if-is_err.ensures.negation
    c.turn_live-met.ensures.is c.turn_live-met.ensures.live c.turn_live-met.auto.terms c.take.new.self c.take.ensures

pub returns : goal.returns
returns g c =
    let y : Run = c.loop-made.self in
    let k = c.idle_by-self.ensures in
    subst (λ (k : Condition). Went (g.S.Scheme.meaning c.args.scheme.now) c.args.budget c.args.self.now (record { role = y.role; steps = y.steps; used = y.used; current = y.current; condition = k }) c.args.terms.now c.loop-made.terms c.args.budget)
    (sym k)
    (rests_here (g.S.Scheme.meaning c.args.scheme.now) c.args.budget c.loop-made.made c.args.self.now y c.args.terms.now c.loop-made.terms c.loop-made.reach
    c.loop-made.invariant (omega arith) c.find.result c.find.ensures.met c.find.ensures.fits)
