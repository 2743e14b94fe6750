-- Terms that name lower terms. Assumes nothing.
use Rattle.std.specs.Prelude.{ℕ, ◌<◌, List, length}
use Rattle.tables.specs.declared.entry.Entry.{Entry}
use Rattle.tables.specs.Entries.{at, names}

-- What the entry names lies below i.
pub record Lower (e : Entry) (i : ℕ) : Type 0 where
  pub first : 0 < names e.tag → e.first < i
  pub second : 1 < names e.tag → e.second < i

-- Each term names lower terms.
abbrev pub Rooted : List Entry → Type 0
Rooted terms = (i : ℕ) → i < length terms → Lower (at terms i) i
