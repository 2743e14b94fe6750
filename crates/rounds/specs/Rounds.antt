-- What reading and writing do one after the other, for every scheme. Assumes nothing.
use Rattle.std.specs.Prelude.{◌≡◌, ℕ, ◌^◌, ◌<◌, List, length, take, Ok, slice_index}
use Rattle.roles.specs.Meaning.{Meaning}
use Rattle.tables.specs.declared.entry.Entry.{Entry}
use Rattle.tables.specs.Entries.{at}
use Rattle.tables.specs.Form.{room_asked}
use Rattle.jobs.specs.Image.{types_told, terms_told}
use Rattle.jobs.specs.Reading.{read_asked, read_told, types_left, terms_left, filled}
use Rattle.jobs.specs.Writing.{write_asked, out_left}

-- Every number is a byte.
abbrev pub Bytes : List ℕ → Type 0
Bytes bs = (k : ℕ) → slice_index bs k < 256

-- The operands of an entry fit their widths.
pub record Fits (e : Entry) : Type 0 where
  pub tag : e.tag < 256
  pub first : e.first < 2 ^ 32
  pub second : e.second < 2 ^ 32
  pub third : e.third < 2 ^ 64

-- So do those of every entry of a table.
abbrev pub Fit : List Entry → Type 0
Fit es = (k : ℕ) → Fits (at es k)

-- A writing of what the reading of bs left in two tables accepts, and leaves bs in the output.
pub record Rewritten (m : Meaning) (bs out : List ℕ) (types terms : List Entry) : Type 0 where
  pub answer : write_asked m (types_told bs) (terms_told bs) (types_left m bs types terms) (terms_left m bs types terms) (length out) ≡ Ok tt
  pub bytes : out_left m (types_told bs) (terms_told bs) (types_left m bs types terms) (terms_left m bs types terms) out ≡ bs

-- Whatever image is accepted, and whatever stood in the tables and in an output of its length.
abbrev pub Rewriting : Type 0
Rewriting =
    (m : Meaning) (bs out : List ℕ) (types terms : List Entry) → Bytes bs → length out ≡ length bs → read_asked m bs (length types) (length terms) ≡ Ok tt → Rewritten m bs out types terms

-- A reading of bs into two other tables accepts, and leaves in them the first t types and n terms of the first two.
pub record Reread (m : Meaning) (t n : ℕ) (bs : List ℕ) (types terms types' terms' : List Entry) : Type 0 where
  pub answer : read_told m bs (length types') (length terms') ≡ Ok (record { types = t; terms = n })
  pub types_same : types_left m bs types' terms' ≡ filled (take t types) types'
  pub terms_same : terms_left m bs types' terms' ≡ filled (take n terms) terms'

-- Whatever job is accepted for writing, and whatever stood in the output and in tables with room.
abbrev pub Rereading : Type 0
Rereading =
    (m : Meaning) (t n : ℕ) (types terms types' terms' : List Entry) (out : List ℕ) → Fit types → Fit terms → write_asked m t n types terms (length out) ≡ Ok tt → room_asked t n (length types') (length terms') ≡ Ok tt → Reread m t n (out_left m t n types terms out) types terms types' terms'
