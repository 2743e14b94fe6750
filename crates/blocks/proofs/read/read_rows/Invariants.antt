use Rattle.std.proofs.Common.{◌≡◌, ◌-◌, ◌*◌, ◌≤◌, ◌++◌, length, replicate}
use Rattle.blocks.specs.Format.{words}
use Rattle.blocks.proofs.read.read_rows.Given as goal

abbrev pub invariant-loop-i : goal.invariant-loop-i
invariant-loop-i l = (l.row-items ≡ words l.i l.bytes ++ replicate (l.count - l.i) 0) × (8 * l.i ≤ length l.bytes) × (l.i ≤ l.count) × (length l.row-items ≡ l.count)
