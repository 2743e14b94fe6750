-- What an accepted reading leaves has the form of a job.
use Rattle.std.proofs.Common.{◌≡◌, ℕ, ◌≤◌, List, length, take, drop, Ok, ap, ◌∙◌, ap₂, arith}
use Rattle.roles.specs.Meaning.{Meaning}
use Rattle.std.proofs.lemmas.List.FromFn.{length-map-range_with_len}
use Rattle.std.proofs.lemmas.List.{take_at, length-append, length-drop}
use Rattle.tables.specs.declared.entry.Entry.{Entry}
use Rattle.tables.specs.Asking.{and_then}
use Rattle.tables.specs.Form.{sound_asked, counts_asked, room_asked, entries_asked, form}
use Rattle.tables.proofs.Asked.{and_first, and_second}
use Rattle.jobs.specs.Asking.{formed, left}
use Rattle.jobs.specs.Image.{types_told, terms_told, types_in, terms_in}
use Rattle.jobs.specs.Reading.{short_asked, length_asked, outline_asked, read_asked, types_left, terms_left, filled}
use Rattle.jobs.proofs.Asked.{formed_ok}
use Rattle.jobs.proofs.Outlines.{wide}

-- a table that was filled with t entries begins with them, and is as long as it was
front : (es table : List Entry) (t : ℕ) → length es ≡ t → take t (filled es table) ≡ es
front es table t e = take_at es (drop (length es) table) t e

length_filled : (es table : List Entry) → length es ≤ length table → length (filled es table) ≡ length table
length_filled es table h = length-append es (drop (length es) table) ∙ omega (arith, length-drop (length es) table)

module _ (m : Meaning) (bs : List ℕ) (T M : List Entry) (h : read_asked m bs (length T) (length M) ≡ Ok tt) where
  abbrev t : ℕ
  t = types_told bs

  abbrev n : ℕ
  n = terms_told bs

  abbrev T₁ : List Entry
  T₁ = types_left m bs T M

  abbrev M₁ : List Entry
  M₁ = terms_left m bs T M

  types_are : T₁ ≡ filled (types_in bs t n) T
  types_are = ap (λ z. left z (filled (types_in bs t n) T) T) h

  terms_are : M₁ ≡ filled (terms_in bs t n) M
  terms_are = ap (λ z. left z (filled (terms_in bs t n) M) M) h

  -- the first places hold the entries of the image
  pub types_front : take t T₁ ≡ types_in bs t n
  types_front = ap (take t) types_are ∙ front (types_in bs t n) T t (length-map-range_with_len _ 0 t)

  pub terms_front : take n M₁ ≡ terms_in bs t n
  terms_front = ap (take n) terms_are ∙ front (terms_in bs t n) M n (length-map-range_with_len _ 0 n)

  -- so all questions of form are answered with yes
  pub form_ok : form m t n T₁ M₁ ≡ Ok tt
  form_ok =
      let outline = and_first (outline_asked m bs t n (length T) (length M)) _ h in
      let after_sound = and_second (formed (sound_asked m)) _ outline in
      let after_short = and_second (short_asked bs) _ after_sound in
      let sound = formed_ok (sound_asked m) (and_first (formed (sound_asked m)) _ outline) in
      let counts = formed_ok (counts_asked t n) (and_first (formed (counts_asked t n)) _ after_short) in
      let room = formed_ok (room_asked t n (length T) (length M)) (and_second (length_asked bs t n) _ (and_second (formed (counts_asked t n)) _ after_short)) in
      let entries = formed_ok (entries_asked m.role (types_in bs t n) (terms_in bs t n)) (and_second (outline_asked m bs t n (length T) (length M)) _ h) in
      let w = wide t n (length T) (length M) room in
      let lt : length (types_in bs t n) ≡ t = length-map-range_with_len _ 0 t in
      let ln : length (terms_in bs t n) ≡ n = length-map-range_with_len _ 0 n in
      let a : length T₁ ≡ length T = ap length types_are ∙ length_filled (types_in bs t n) T (omega (arith, w.types)) in
      let b : length M₁ ≡ length M = ap length terms_are ∙ length_filled (terms_in bs t n) M (omega (arith, w.terms)) in
      ap₂ and_then sound (ap₂ and_then counts (ap₂ and_then (ap₂ (room_asked t n) a b ∙ room) (ap₂ (entries_asked m.role) types_front terms_front ∙ entries)))
