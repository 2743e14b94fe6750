use Rattle.std.proofs.Common.{◌≡◌, ℕ, ◌<◌, get_or}
use Rattle.machine.specs.Labelled.{tree}
use Rattle.runs.specs.Reach.{reach_of}
use Rattle.runs.proofs.reach.fill.Given as goal

abbrev pub invariant-loop-i : goal.invariant-loop-i
invariant-loop-i l = (k : ℕ) → k < l.i → get_or l.reach k 0 ≡ reach_of (tree l.terms k)
