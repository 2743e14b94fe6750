-- The questions of form, and the answer to all of them in their order. Assumes nothing.
use Rattle.std.specs.Prelude.{ℕ, ◌+◌, ◌-◌, Bool, ◌&&◌, List, length, take, ◌==◌, nat_le, slice_index}
use Rattle.roles.specs.Meaning.{Meaning}
use Rattle.roles.specs.declared.scheme.SchemeFault.TheVariants.{Unsound}
use Rattle.tables.specs.declared.entry.Entry.{Entry}
use Rattle.tables.specs.declared.fault.FormFault.TheVariants.{Scheme, Counts, Room, Tag, Operands, Role, Size, Named, Unbound}
use Rattle.tables.specs.Asking.{Answer, asks, and_then, of_each}
use Rattle.tables.specs.Entries.{at, type_tag, type_operands, term_tag, term_operands, role_fits}
use Rattle.tables.specs.Sizes.{size}
use Rattle.tables.specs.Uses.{uses}
use Rattle.tables.specs.Depths.{depths, bound_at}

-- Tag, operands and role code of an entry at place p: is the tag one of its table's, and are the operands as it asks?
abbrev pub entry_asked : (ℕ → Bool) → Entry → ℕ → Bool → Bool → Answer
entry_asked role e p tagged fits =
    and_then (asks tagged (Tag p e.tag)) (and_then (asks fits (Operands p)) (asks (role_fits role e) (Role p e.third)))

-- Tag, operands and role code of type i.
abbrev pub type_asked : (ℕ → Bool) → Entry → ℕ → Answer
type_asked role e i = entry_asked role e i (type_tag e.tag) (type_operands e i)

-- Tag, operands and role code of term i, which stands at place p, in a job of t types.
abbrev pub term_asked : (ℕ → Bool) → Entry → ℕ → ℕ → ℕ → Answer
term_asked role e i t p = entry_asked role e p (term_tag e.tag) (term_operands e i t)

-- All that is asked of type i: itself, and that written out it has at most 4,096 parts.
abbrev pub ask_type : (ℕ → Bool) → List Entry → ℕ → Answer
ask_type role types i = and_then (type_asked role (at types i) i) (asks (nat_le (size types i) 4096) (Size i (size types i)))

-- All that is asked of term i, in a job of t types, by itself.
abbrev pub ask_term : (ℕ → Bool) → ℕ → List Entry → ℕ → Answer
ask_term role t terms i = term_asked role (at terms i) i t (t + i)

-- Is term i named exactly once?
abbrev pub ask_use : ℕ → List Entry → ℕ → Answer
ask_use t terms i = asks (uses terms i == 1) (Named (t + i) (uses terms i))

-- If term i is a variable, does it pass over fewer binders than it stands under?
abbrev pub ask_bound : ℕ → List Entry → ℕ → Answer
ask_bound t terms i = asks (bound_at (at terms i) (slice_index (depths terms) i)) (Unbound (t + i))

-- The questions to the entries: each type, each term, each use but of the last term, each variable.
abbrev pub entries_asked : (ℕ → Bool) → List Entry → List Entry → Answer
entries_asked role types terms =
    and_then (of_each (ask_type role types) (length types) 0)
    (and_then (of_each (ask_term role (length types) terms) (length terms) 0)
    (and_then (of_each (ask_use (length types) terms) (length terms - 1) 0)
    (of_each (ask_bound (length types) terms) (length terms) 0)))

-- Is the scheme sound?
abbrev pub sound_asked : Meaning → Answer
sound_asked m = asks m.sound (Scheme Unsound)

-- Are there at most 512 types, and 1 to 1,024 terms?
abbrev pub counts_asked : ℕ → ℕ → Answer
counts_asked t n = asks (nat_le t 512 && nat_le 1 n && nat_le n 1024) (Counts t n)

-- Have tables of a and b places at least t + n places for types and n for terms, and at most 16,384 of each?
abbrev pub room_asked : ℕ → ℕ → ℕ → ℕ → Answer
room_asked t n a b = asks (nat_le (t + n) a && nat_le n b && nat_le a 16384 && nat_le b 16384) (Room a b)

-- The answer to all questions of form about a job of t types and n terms in two tables.
abbrev pub form : Meaning → ℕ → ℕ → List Entry → List Entry → Answer
form m t n types terms =
    and_then (sound_asked m)
    (and_then (counts_asked t n)
    (and_then (room_asked t n (length types) (length terms)) (entries_asked m.role (take t types) (take n terms))))
