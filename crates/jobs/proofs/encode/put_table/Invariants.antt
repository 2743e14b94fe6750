use Rattle.std.proofs.Common.{◌≡◌, ◌+◌, ◌*◌, ◌++◌, take}
use Rattle.std.specs.List.{flat_map}
use Rattle.jobs.specs.Image.{operand_bytes}
use Rattle.jobs.proofs.encode.put_table.Given as goal

-- the operands of the entries below k are written
abbrev pub invariant-loop-k : goal.invariant-loop-k
invariant-loop-k l = take (l.p + 16 * l.k) l.out ≡ take l.p l.initial.out ++ flat_map operand_bytes (take l.k l.table)
