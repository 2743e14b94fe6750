-- How often a term is named. Assumes nothing.
use Rattle.std.specs.Prelude.{ℕ, ◌+◌, cond, ◌&&◌, List, [], ◌∷◌, ◌==◌, nat_lt}
use Rattle.tables.specs.declared.entry.Entry.{Entry}
use Rattle.tables.specs.Entries.{names}

-- How often one entry names term i: once or twice, or not at all.
abbrev pub hits : Entry → ℕ → ℕ
hits e i =
    cond (nat_lt 0 (names e.tag) && i == e.first) 1 0 + cond (nat_lt 1 (names e.tag) && i == e.second) 1 0

-- How often the terms name term i.
abbrev pub uses : List Entry → ℕ → ℕ
uses [] i = 0
uses (e ∷ es) i = hits e i + uses es i
