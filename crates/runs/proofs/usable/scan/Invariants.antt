use Rattle.std.proofs.Common.{◌≡◌, ℕ, ◌-◌, ◌<◌, length, get_or}
use Rattle.machine.specs.Labelled.{tree}
use Rattle.runs.specs.Reach.{reach_of}
use Rattle.runs.specs.Usable.{all_pass}
use Rattle.runs.proofs.Using.{Passed}
use Rattle.runs.proofs.usable.scan.Given as goal

abbrev pub invariant-loop-i : goal.invariant-loop-i
invariant-loop-i g l =
    (all_pass (g.S.Scheme.meaning l.scheme).role l.used (length l.used - l.i) l.i ≡ all_pass (g.S.Scheme.meaning l.scheme).role l.used (length l.used) 0)
    × Passed (g.S.Scheme.meaning l.scheme).role l.used l.i
    × ((k : ℕ) → k < l.i → get_or l.reach k 0 ≡ reach_of (tree l.used k))
