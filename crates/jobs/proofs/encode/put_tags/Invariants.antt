use Rattle.std.proofs.Common.{◌≡◌, ◌+◌, ◌++◌, take}
use Rattle.jobs.specs.Image.{tags}
use Rattle.jobs.proofs.encode.put_tags.Given as goal

-- the tags of the entries below k are written
abbrev pub invariant-loop-k : goal.invariant-loop-k
invariant-loop-k l = take (l.p + l.k) l.out ≡ take l.p l.initial.out ++ tags (take l.k l.table)
