-- The two round trips.
use Rattle.std.proofs.Common.{◌≡◌, ℕ, ◌≤◌, List, length, take, drop, Ok, sym, refl, ap, ◌∙◌, subst, ap₂, arith}
use Rattle.roles.specs.Meaning.{Meaning}
use Rattle.std.proofs.lemmas.List.FromFn.{length-map-range_with_len}
use Rattle.std.proofs.lemmas.List.{take_at, length-append, length-drop, length-take-le}
use Rattle.std.proofs.lemmas.Bool.{le-leb, eqb-true, eq-eqb}
use Rattle.tables.specs.declared.entry.Entry.{Entry}
use Rattle.tables.specs.Asking.{asks, and_then, told}
use Rattle.tables.specs.Form.{sound_asked, counts_asked, room_asked, entries_asked, form}
use Rattle.tables.proofs.Asked.{and_first, and_second, asks_yes}
use Rattle.jobs.specs.declared.fault.ImageFault.TheVariants.{Short, Length, Output}
use Rattle.jobs.specs.Asking.{formed, left}
use Rattle.jobs.specs.Image.{types_told, terms_told, image_length, types_in, terms_in, image}
use Rattle.jobs.specs.Reading.{short_asked, length_asked, outline_asked, asked_of, read_asked, types_left, terms_left, filled, counts_told}
use Rattle.jobs.specs.Writing.{output_asked, write_asked}
use Rattle.jobs.proofs.Asked.{formed_ok}
use Rattle.jobs.proofs.Outlines.{few, wide}
use Rattle.rounds.specs.Rounds.{Bytes, Fit, Rewritten, Rewriting, Reread, Rereading}
use Rattle.rounds.proofs.Decoded.{image_same}
use Rattle.rounds.proofs.Encoded.{types_back, terms_back, types_told_back, terms_told_back, length_image, fit_take}

-- a table that was filled with t entries begins with them, and is as long as it was
front : (es table : List Entry) (t : ℕ) → length es ≡ t → take t (filled es table) ≡ es
front es table t e = take_at es (drop (length es) table) t e

length_filled : (es table : List Entry) → length es ≤ length table → length (filled es table) ≡ length table
length_filled es table h = length-append es (drop (length es) table) ∙ omega (arith, length-drop (length es) table)

-- answers to the four parts of form make up the answer
form_all : (m : Meaning) (t n : ℕ) (T M T' M' : List Entry) → sound_asked m ≡ Ok tt → counts_asked t n ≡ Ok tt → room_asked t n (length T) (length M) ≡ Ok tt → take t T ≡ T' → take n M ≡ M' → entries_asked m.role T' M' ≡ Ok tt → form m t n T M ≡ Ok tt
form_all m t n T M T' M' s k r et en e =
    ap (λ x. and_then x (and_then (counts_asked t n) (and_then (room_asked t n (length T) (length M)) (entries_asked m.role (take t T) (take n M))))) s
    ∙ (ap (λ x. and_then x (and_then (room_asked t n (length T) (length M)) (entries_asked m.role (take t T) (take n M)))) k
    ∙ (ap (λ x. and_then x (entries_asked m.role (take t T) (take n M))) r
    ∙ (ap₂ (λ (x y : List Entry). entries_asked m.role x y) et en ∙ e)))

-- the parts of an outline that was answered with yes
module _ (m : Meaning) (bs : List ℕ) (t n a b : ℕ) where
  outline_parts : outline_asked m bs t n a b ≡ Ok tt → (sound_asked m ≡ Ok tt) × (counts_asked t n ≡ Ok tt) × (length_asked bs t n ≡ Ok tt) × (room_asked t n a b ≡ Ok tt)
  outline_parts h =
      let p = and_second (formed (sound_asked m)) _ h in
      let q = and_second (short_asked bs) _ p in
      let r = and_second (formed (counts_asked t n)) _ q in
      (formed_ok _ (and_first (formed (sound_asked m)) _ h), formed_ok _ (and_first (formed (counts_asked t n)) _ q), and_first (length_asked bs t n) _ r, formed_ok _ (and_second (length_asked bs t n) _ r))

  outline_all : sound_asked m ≡ Ok tt → 4 ≤ length bs → counts_asked t n ≡ Ok tt → length bs ≡ image_length t n → room_asked t n a b ≡ Ok tt → outline_asked m bs t n a b ≡ Ok tt
  outline_all s f k l r =
      let short : short_asked bs ≡ Ok tt = ap (λ z. asks z (Short (length bs))) (le-leb 4 (length bs) f) in
      let long : length_asked bs t n ≡ Ok tt = ap (λ z. asks z (Length (length bs))) (eq-eqb (length bs) (image_length t n) l) in
      ap₂ and_then (ap formed s) (ap₂ and_then short (ap₂ and_then (ap formed k) (ap₂ and_then long (ap formed r))))

module _ (m : Meaning) (bs out : List ℕ) (T M : List Entry) (b : Bytes bs) (lo : length out ≡ length bs) (h : read_asked m bs (length T) (length M) ≡ Ok tt) where
  abbrev t : ℕ
  t = types_told bs

  abbrev n : ℕ
  n = terms_told bs

  outline_ok : outline_asked m bs t n (length T) (length M) ≡ Ok tt
  outline_ok = and_first (outline_asked m bs t n (length T) (length M)) _ h

  long : length bs ≡ image_length t n
  long = eqb-true (length bs) (image_length t n) (asks_yes _ (Length (length bs)) (outline_parts m bs t n (length T) (length M) outline_ok).2)

  types_are : types_left m bs T M ≡ filled (types_in bs t n) T
  types_are = ap (λ z. left z (filled (types_in bs t n) T) T) h

  terms_are : terms_left m bs T M ≡ filled (terms_in bs t n) M
  terms_are = ap (λ z. left z (filled (terms_in bs t n) M) M) h

  types_front : take t (types_left m bs T M) ≡ types_in bs t n
  types_front = ap (take t) types_are ∙ front (types_in bs t n) T t (length-map-range_with_len _ 0 t)

  terms_front : take n (terms_left m bs T M) ≡ terms_in bs t n
  terms_front = ap (take n) terms_are ∙ front (terms_in bs t n) M n (length-map-range_with_len _ 0 n)

  room_ok : room_asked t n (length (types_left m bs T M)) (length (terms_left m bs T M)) ≡ Ok tt
  room_ok =
      let r = (outline_parts m bs t n (length T) (length M) outline_ok).3 in
      let w = wide t n (length T) (length M) r in
      let lt : length (types_in bs t n) ≡ t = length-map-range_with_len _ 0 t in
      let ln : length (terms_in bs t n) ≡ n = length-map-range_with_len _ 0 n in
      let a : length (types_left m bs T M) ≡ length T = ap length types_are ∙ length_filled (types_in bs t n) T (omega (arith, w.types)) in
      let z : length (terms_left m bs T M) ≡ length M = ap length terms_are ∙ length_filled (terms_in bs t n) M (omega (arith, w.terms)) in
      ap₂ (λ (x y : ℕ). room_asked t n x y) a z ∙ r

  write_ok : write_asked m t n (types_left m bs T M) (terms_left m bs T M) (length out) ≡ Ok tt
  write_ok =
      let p = outline_parts m bs t n (length T) (length M) outline_ok in
      let e = formed_ok _ (and_second (outline_asked m bs t n (length T) (length M)) _ h) in
      let f = form_all m t n (types_left m bs T M) (terms_left m bs T M) (types_in bs t n) (terms_in bs t n) p.0 p.1 room_ok types_front terms_front e in
      ap₂ and_then (ap formed f) (ap (λ z. asks z (Output (length out))) (eq-eqb (length out) (image_length t n) (lo ∙ long)))

  rewritten_here : Rewritten m bs out T M
  rewritten_here =
      record {
        answer = write_ok;
        bytes = ap (λ z. left z (image (take t (types_left m bs T M)) (take n (terms_left m bs T M))) out) write_ok ∙ (ap₂ image types_front terms_front ∙ image_same bs t n b refl refl long);
      }

pub rewritten : Rewriting
rewritten m bs out T M b lo h = rewritten_here m bs out T M b lo h

module _ (m : Meaning) (t n : ℕ) (T M T' M' : List Entry) (fT : Fit T) (fM : Fit M) (f : form m t n T M ≡ Ok tt) (r : room_asked t n (length T') (length M') ≡ Ok tt) where
  abbrev TT : List Entry
  TT = take t T

  abbrev MM : List Entry
  MM = take n M

  abbrev img : List ℕ
  img = image TT MM

  after_sound : and_then (counts_asked t n) (and_then (room_asked t n (length T) (length M)) (entries_asked m.role TT MM)) ≡ Ok tt
  after_sound = and_second (sound_asked m) _ f

  counts_ok : counts_asked t n ≡ Ok tt
  counts_ok = and_first (counts_asked t n) _ after_sound

  after_counts : and_then (room_asked t n (length T) (length M)) (entries_asked m.role TT MM) ≡ Ok tt
  after_counts = and_second (counts_asked t n) _ after_sound

  long_types : length TT ≡ t
  long_types =
      let w = wide t n (length T) (length M) (and_first (room_asked t n (length T) (length M)) _ after_counts) in
      length-take-le t T (omega (arith, w.types))

  long_terms : length MM ≡ n
  long_terms =
      let w = wide t n (length T) (length M) (and_first (room_asked t n (length T) (length M)) _ after_counts) in
      length-take-le n M w.terms

  told_types : types_told img ≡ t
  told_types =
      let l = long_types in
      types_told_back TT MM (omega (arith, (few t n counts_ok).types)) ∙ l

  told_terms : terms_told img ≡ n
  told_terms =
      let l = long_terms in
      terms_told_back TT MM (omega (arith, (few t n counts_ok).terms)) ∙ l

  long_image : length img ≡ image_length t n
  long_image = length_image TT MM ∙ ap₂ image_length long_types long_terms

  types_same : types_in img t n ≡ TT
  types_same =
      ap₂ (λ (x y : ℕ). types_in img x y) (sym long_types) (sym long_terms) ∙ types_back TT MM (fit_take T t fT)

  terms_same : terms_in img t n ≡ MM
  terms_same =
      ap₂ (λ (x y : ℕ). terms_in img x y) (sym long_types) (sym long_terms) ∙ terms_back TT MM (fit_take M n fM)

  read_ok : read_asked m img (length T') (length M') ≡ Ok tt
  read_ok =
      let l = long_image in
      ap₂ (λ (x y : ℕ). asked_of m img x y (length T') (length M')) told_types told_terms
      ∙ ap₂ and_then (outline_all m img t n (length T') (length M') (and_first (sound_asked m) _ f) (omega arith) counts_ok long_image r) (ap formed (ap₂ (λ (x y : List Entry). entries_asked m.role x y) types_same terms_same ∙ and_second (room_asked t n (length T) (length M)) _ after_counts))

  counts_same : counts_told img ≡ record { types = t; terms = n }
  counts_same = λ i. record { types = told_types i; terms = told_terms i }

  reread_image : Reread m t n img T M T' M'
  reread_image =
      record {
        answer = ap (λ z. told z (counts_told img)) read_ok ∙ ap Ok counts_same;
        types_same = ap (λ z. left z (filled (types_in img (types_told img) (terms_told img)) T') T') read_ok ∙ ap (λ es. filled es T') (ap₂ (λ (x y : ℕ). types_in img x y) told_types told_terms ∙ types_same);
        terms_same = ap (λ z. left z (filled (terms_in img (types_told img) (terms_told img)) M') M') read_ok ∙ ap (λ es. filled es M') (ap₂ (λ (x y : ℕ). terms_in img x y) told_types told_terms ∙ terms_same);
      }

pub reread : Rereading
reread m t n T M T' M' out fT fM h r =
    let f = formed_ok (form m t n T M) (and_first (formed (form m t n T M)) (output_asked t n (length out)) h) in
    subst (λ (bs : List ℕ). Reread m t n bs T M T' M') (sym (ap (λ z. left z (image (take t T) (take n M)) out) h)) (reread_image m t n T M T' M' fT fM f r)
