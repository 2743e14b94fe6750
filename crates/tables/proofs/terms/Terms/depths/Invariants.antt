use Rattle.std.proofs.Common.{◌≡◌, length}
use Rattle.std.specs.Iterator.Adapters.{rev_source, enumerate_source, enumerate_count}
use Rattle.std.specs.Slice.Iter.{iter_rest}
use Rattle.tables.proofs.Handed.{HandedTo}
use Rattle.tables.proofs.terms.Terms.depths.Given as goal

-- the terms that are gone through, the last first, have handed their depths down to those that are left
abbrev pub invariant-loop-i : goal.invariant-loop-i
invariant-loop-i l =
    (goal.iterator-loop-i).can_next l.i-iterator × (goal.iterator-loop-i).is_finite l.i-iterator
    × (enumerate_count (rev_source l.i-iterator) ≡ 0) × (length l.depths ≡ 1024)
    × HandedTo l.self.entries.now (iter_rest (enumerate_source (rev_source l.i-iterator))) l.depths
