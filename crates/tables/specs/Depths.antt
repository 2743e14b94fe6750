-- Under how many binders each term stands. Assumes nothing.
use Rattle.std.specs.Prelude.{ℕ, ◌+◌, Bool, cond, not, ◌||◌, List, [], ◌∷◌, replicate, ◌==◌, nat_lt, slice_index, slice_set}
use Rattle.tables.specs.declared.entry.Entry.{Entry}
use Rattle.tables.specs.Entries.{binds, names, operand_of}

-- How many binders an entry adds in the term of number j that it names.
abbrev pub binders : ℕ → ℕ → ℕ
binders k j = cond (binds k j) 1 0

-- An abstraction binds in its body, its first operand.
abbrev pub binds_first : ℕ → ℕ
binds_first k = binders k 0

-- Let binds in its second operand.
abbrev pub binds_second : ℕ → ℕ
binds_second k = binders k 1

-- The term of number j that an entry at depth d names, if any, stands at depth d, one deeper if it is bound there.
abbrev pub hand_down : Entry → ℕ → ℕ → List ℕ → List ℕ
hand_down e j d ds = cond (nat_lt j (names e.tag)) (slice_set ds (operand_of e j) (d + binders e.tag j)) ds

-- So stands the first,
abbrev pub hand_first : Entry → ℕ → List ℕ → List ℕ
hand_first e d ds = hand_down e 0 d ds

-- and so the second.
abbrev pub hand_second : Entry → ℕ → List ℕ → List ℕ
hand_second e d ds = hand_down e 1 d ds

-- An entry at depth d hands its depth down to the terms that it names.
abbrev pub hand : Entry → ℕ → List ℕ → List ℕ
hand e d ds = hand_second e d (hand_first e d ds)

-- The depths when the terms from i on have handed theirs down, the last first; the last stands at depth 0.
abbrev pub depths_from : ℕ → List Entry → List ℕ
depths_from i [] = replicate 1024 0
depths_from i (e ∷ es) = hand e (slice_index (depths_from (i + 1) es) i) (depths_from (i + 1) es)

-- The depths of all terms.
abbrev pub depths : List Entry → List ℕ
depths terms = depths_from 0 terms

-- If the entry is a variable, it passes over fewer binders than the d that it stands under.
abbrev pub bound_at : Entry → ℕ → Bool
bound_at e d = not (e.tag == 17) || nat_lt e.first d
