use Rattle.runs.proofs.Going.{Keeps}
use Rattle.runs.proofs.run.Run.go.Given as goal

abbrev pub invariant-loop-made : goal.invariant-loop-made
invariant-loop-made g l = Keeps (g.S.Scheme.meaning l.scheme) l.budget l.initial.self l.self l.initial.terms l.terms l.reach l.made
