-- What the reading of an image answers and leaves. Assumes nothing.
use Rattle.std.specs.Prelude.{◌≡◌, ℕ, ◌≤◌, true, List, ◌++◌, length, drop, Result, ◌==◌, nat_le}
use Rattle.roles.specs.Meaning.{Meaning}
use Rattle.tables.specs.declared.entry.Entry.{Entry}
use Rattle.tables.specs.declared.entry.Counts.{Counts}
use Rattle.tables.specs.Asking.{asks, and_then, told}
use Rattle.tables.specs.Form.{sound_asked, counts_asked, room_asked, entries_asked}
use Rattle.jobs.specs.declared.fault.ImageFault.{ImageFault}
use Rattle.jobs.specs.declared.fault.ImageFault.TheVariants.{Short, Length}
use Rattle.jobs.specs.Asking.{Answer, formed, left}
use Rattle.jobs.specs.Image.{types_told, terms_told, image_length, types_in, terms_in}

-- The counts that an image tells.
abbrev pub counts_told : List ℕ → Counts
counts_told bs = record { types = types_told bs; terms = terms_told bs }

-- Has the image four bytes at least?
abbrev pub short_asked : List ℕ → Answer
short_asked bs = asks (nat_le 4 (length bs)) (Short (length bs))

-- Has the image just the bytes of t types and n terms?
abbrev pub length_asked : List ℕ → ℕ → ℕ → Answer
length_asked bs t n = asks (length bs == image_length t n) (Length (length bs))

-- The questions that a reading puts before it looks at an entry, where the tables have a and b places.
abbrev pub outline_asked : Meaning → List ℕ → ℕ → ℕ → ℕ → ℕ → Answer
outline_asked m bs t n a b =
    and_then (formed (sound_asked m))
    (and_then (short_asked bs)
    (and_then (formed (counts_asked t n)) (and_then (length_asked bs t n) (formed (room_asked t n a b)))))

-- An image of t types and n terms about which these were answered with yes, whatever the room.
pub record Outlined (m : Meaning) (bs : List ℕ) (t n : ℕ) : Type 0 where
  pub sound : m.sound ≡ true
  pub types_few : t ≤ 512
  pub terms_some : 1 ≤ n
  pub terms_few : n ≤ 1024
  pub long : length bs ≡ image_length t n

-- All questions that a reading puts, in their order, about an image that says t types and n terms.
abbrev pub asked_of : Meaning → List ℕ → ℕ → ℕ → ℕ → ℕ → Answer
asked_of m bs t n a b =
    and_then (outline_asked m bs t n a b) (formed (entries_asked m.role (types_in bs t n) (terms_in bs t n)))

-- All questions that a reading puts.
abbrev pub read_asked : Meaning → List ℕ → ℕ → ℕ → Answer
read_asked m bs a b = asked_of m bs (types_told bs) (terms_told bs) a b

-- A table whose first places are filled with entries, and no other place changed.
abbrev pub filled : List Entry → List Entry → List Entry
filled es table = es ++ drop (length es) table

-- What a reading returns: the counts, or the first fault.
abbrev pub read_told : Meaning → List ℕ → ℕ → ℕ → Result Counts ImageFault
read_told m bs a b = told (read_asked m bs a b) (counts_told bs)

-- What a reading leaves of the types: filled if it accepts, else as they were.
abbrev pub types_left : Meaning → List ℕ → List Entry → List Entry → List Entry
types_left m bs types terms =
    left (read_asked m bs (length types) (length terms)) (filled (types_in bs (types_told bs) (terms_told bs)) types) types

-- What a reading leaves of the terms.
abbrev pub terms_left : Meaning → List ℕ → List Entry → List Entry → List Entry
terms_left m bs types terms =
    left (read_asked m bs (length types) (length terms)) (filled (terms_in bs (types_told bs) (terms_told bs)) terms) terms
