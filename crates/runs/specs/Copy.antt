-- A copy at the table. Assumes nothing.
use Rattle.std.specs.Prelude.{◌≡◌, ℕ, suc, ◌+◌, ◌<◌, true, cond, ◌||◌, List, [], ◌∷◌, ◌++◌, length, take, drop, ◌==◌}
use Rattle.tables.specs.declared.entry.Entry.{Entry}
pub use Rattle.tables.specs.Entries.{names}
use Rattle.tables.specs.Entries.{binds}
use Rattle.runs.specs.declared.room.Room.{Room}
use Rattle.machine.specs.Labelled.{tree, closed}
use Rattle.machine.specs.Plans.{Plan, old, new_one, new_two, Written, write, replace}

-- A table with the entries of new from place u on.
abbrev pub laid : List Entry → ℕ → List Entry → List Entry
laid es u new = take u es ++ (new ++ drop (u + length new) es)

-- What copying entry i writes from place b on, with entry w for the variable that d binders stand before.
abbrev pub copied : List Entry → ℕ → ℕ → ℕ → ℕ → Written
copied us b d w i = write b (replace d (tree us w) (tree us i))

-- How many entries a plan writes.
abbrev pub places : Plan → ℕ
places (old t) = 0
places (new_one h p) = suc (places p)
places (new_two h p q) = suc (places p + places q)

-- How many entries the copy takes.
abbrev pub count_of : List Entry → ℕ → ℕ → ℕ → ℕ
count_of us d w i = places (replace d (tree us w) (tree us i))

-- Entry i can be copied at depth d: no variable is free in it but those of d + 1 binders.
pub record Copiable (us : List Entry) (d i : ℕ) : Type 0 where
  pub here : i < length us
  pub scoped : closed (suc d) (tree us i) ≡ true

-- One entry, written to place b.
abbrev pub fresh : ℕ → Entry → Written
fresh b e = record { entries = e ∷ []; place = b }

-- The room x became y: the entries of w were laid into its free places, behind those that were filled, and k is where the whole stands.
pub record Wrote (x y : Room) (w : Written) (k : ℕ) : Type 0 where
  pub table : y.free.now ≡ laid x.free.now x.filled w.entries
  pub place : k ≡ w.place
  pub filled : y.filled ≡ x.filled + length w.entries
  -- it is a room in the same table
  pub base : y.base ≡ x.base
  pub same : y.free.ghost_name ≡ x.free.ghost_name

-- The depth within the term of number j, by the tag.
abbrev pub within : ℕ → ℕ → ℕ → ℕ
within t j d = cond (binds t j) (d + 1) d

-- The depth within the first operand.
abbrev pub first_within : ℕ → ℕ → ℕ
first_within t d = within t 0 d

-- The depth within the second.
abbrev pub second_within : ℕ → ℕ → ℕ
second_within t d = within t 1 d

-- The second operand of a new entry: an abstraction keeps its claim, application and let name j, and else it is 0.
abbrev pub second_of : Entry → ℕ → ℕ
second_of e j = cond (e.tag == 18) e.second (cond (e.tag == 19 || e.tag == 24) j 0)

-- The third operand: an abstraction's claim and a role stay.
abbrev pub third_of : Entry → ℕ
third_of e = cond ((e.tag == 18 || e.tag == 21) || (e.tag == 25 || e.tag == 26)) e.third 0

-- The entry over other operands.
abbrev pub renewal : Entry → ℕ → ℕ → Entry
renewal e i j = record { tag = e.tag; first = i; second = second_of e j; third = third_of e }
