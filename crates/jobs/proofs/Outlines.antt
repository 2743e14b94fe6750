-- What the questions before the entries have shown when they are answered with yes.
use Rattle.std.proofs.Common.{◌≡◌, ℕ, ◌+◌, ◌≤◌, ◌&&◌, eqb, leb, List, length, take, Ok, ap, ◌∙◌, arith}
use Rattle.roles.specs.Meaning.{Meaning}
use Rattle.roles.specs.declared.scheme.SchemeFault.TheVariants.{Unsound}
use Rattle.std.proofs.lemmas.Bool.{and_parts, and_from, le-leb, leb-true, eqb-true}
use Rattle.tables.specs.declared.entry.Entry.{Entry}
use Rattle.tables.specs.declared.fault.FormFault.TheVariants.{Scheme, Counts, Room}
use Rattle.tables.specs.Asking.{asks, and_then}
use Rattle.tables.specs.Form.{sound_asked, counts_asked, room_asked, entries_asked, form}
use Rattle.jobs.specs.declared.fault.ImageFault.TheVariants.{Length}
use Rattle.jobs.specs.Asking.{formed}
use Rattle.jobs.specs.Image.{image_length}
use Rattle.jobs.specs.Reading.{Outlined, short_asked, length_asked, outline_asked}
use Rattle.tables.proofs.Asked.{and_first, and_second, asks_yes}
use Rattle.jobs.proofs.Asked.{formed_ok}

pub record Few (t n : ℕ) : Type 0 where
  pub types : t ≤ 512
  pub some : 1 ≤ n
  pub terms : n ≤ 1024

pub record Roomy (t n a b : ℕ) : Type 0 where
  pub types : t + n ≤ a
  pub terms : n ≤ b

-- what a yes to the counts says, and one to the room
pub few : (t n : ℕ) → counts_asked t n ≡ Ok tt → Few t n
few t n h =
    let all = and_parts (leb t 512 && leb 1 n) (leb n 1024) (asks_yes _ (Counts t n) h) in
    let low = and_parts (leb t 512) (leb 1 n) all.0 in
    record { types = leb-true t 512 low.0; some = leb-true 1 n low.1; terms = leb-true n 1024 all.1 }

pub wide : (t n a b : ℕ) → room_asked t n a b ≡ Ok tt → Roomy t n a b
wide t n a b h =
    let three = (and_parts (leb (t + n) a && leb n b && leb a 16384) (leb b 16384) (asks_yes _ (Room a b) h)).0 in
    let two = (and_parts (leb (t + n) a && leb n b) (leb a 16384) three).0 in
    let one = and_parts (leb (t + n) a) (leb n b) two in
    record { types = leb-true (t + n) a one.0; terms = leb-true n b one.1 }

module _ (m : Meaning) (bs : List ℕ) (t n a b : ℕ) (h : outline_asked m bs t n a b ≡ Ok tt) where
  after_sound : and_then (short_asked bs) (and_then (formed (counts_asked t n)) (and_then (length_asked bs t n) (formed (room_asked t n a b)))) ≡ Ok tt
  after_sound = and_second (formed (sound_asked m)) _ h

  after_short : and_then (formed (counts_asked t n)) (and_then (length_asked bs t n) (formed (room_asked t n a b))) ≡ Ok tt
  after_short = and_second (short_asked bs) _ after_sound

  after_counts : and_then (length_asked bs t n) (formed (room_asked t n a b)) ≡ Ok tt
  after_counts = and_second (formed (counts_asked t n)) _ after_short

  pub outlined : Outlined m bs t n
  outlined =
      let f = few t n (formed_ok _ (and_first (formed (counts_asked t n)) _ after_short)) in
      record {
        sound = asks_yes m.sound (Scheme Unsound) (formed_ok _ (and_first (formed (sound_asked m)) _ h));
        types_few = f.types;
        terms_some = f.some;
        terms_few = f.terms;
        long = eqb-true (length bs) (image_length t n) (asks_yes (eqb (length bs) (image_length t n)) (Length (length bs)) (and_first (length_asked bs t n) _ after_counts));
      }

  pub roomy : Roomy t n a b
  roomy = wide t n a b (formed_ok _ (and_second (length_asked bs t n) _ after_counts))

-- in tables that are large enough the form of a job is that of its entries
pub form_is : (m : Meaning) (bs : List ℕ) (t n : ℕ) (T M : List Entry) → Outlined m bs t n → length T ≡ 1536 → length M ≡ 1024 → form m t n T M ≡ entries_asked m.role (take t T) (take n M)
form_is m bs t n T M o p q =
    let s : sound_asked m ≡ Ok tt = ap (λ x. asks x (Scheme Unsound)) o.sound in
    let c : counts_asked t n ≡ Ok tt = ap (λ x. asks x (Counts t n)) (and_from _ _ (and_from _ _ (le-leb t 512 o.types_few) (le-leb 1 n o.terms_some)) (le-leb n 1024 o.terms_few)) in
    let r : room_asked t n (length T) (length M) ≡ Ok tt = ap (λ x. asks x (Room (length T) (length M))) (and_from _ _ (and_from _ _ (and_from _ _ (le-leb (t + n) (length T) (omega (arith, o.types_few, o.terms_few))) (le-leb n (length M) (omega (arith, o.terms_few)))) (le-leb (length T) 16384 (omega arith))) (le-leb (length M) 16384 (omega arith))) in
    ap (λ x. and_then x (and_then (counts_asked t n) (and_then (room_asked t n (length T) (length M)) (entries_asked m.role (take t T) (take n M))))) s
    ∙ (ap (λ x. and_then x (and_then (room_asked t n (length T) (length M)) (entries_asked m.role (take t T) (take n M)))) c
    ∙ ap (λ x. and_then x (entries_asked m.role (take t T) (take n M))) r)
