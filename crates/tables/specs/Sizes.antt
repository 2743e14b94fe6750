-- How large a type is when it is written out. Assumes nothing.
use Rattle.std.specs.Prelude.{ℕ, ◌+◌, cond, List, ◌==◌, slice_index}
use Rattle.tables.specs.declared.entry.Entry.{Entry}
use Rattle.tables.specs.Entries.{at}
use Rattle.tables.specs.Ladder.{ladder, rung}

-- One more than the sizes of the types that the entry names.
abbrev pub size_by : Entry → List ℕ → ℕ
size_by e sizes =
    cond (e.tag == 1) 1
    (cond (e.tag == 2) (1 + (slice_index sizes e.first + slice_index sizes e.second)) (1 + slice_index sizes e.first))

-- The size of type k by the sizes of the types below it.
abbrev pub size_step : List Entry → ℕ → List ℕ → ℕ
size_step types k sizes = size_by (at types k) sizes

-- The sizes of the first k types.
abbrev pub sizes : List Entry → ℕ → List ℕ
sizes types k = ladder (size_step types) k

-- The size of type k.
abbrev pub size : List Entry → ℕ → ℕ
size types k = rung (size_step types) k
