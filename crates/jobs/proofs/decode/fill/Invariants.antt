use Rattle.std.proofs.Common.{◌≡◌, ◌++◌, drop}
use Rattle.jobs.specs.Image.{entries}
use Rattle.jobs.proofs.decode.fill.Given as goal

-- the places below k are filled, and no other
abbrev pub invariant-loop-k : goal.invariant-loop-k
invariant-loop-k l = l.table ≡ entries l.tags l.operands l.k ++ drop l.k l.initial.table
