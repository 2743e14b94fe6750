-- The facts about accepted jobs, from those about formed tables.
use Rattle.std.proofs.Common.{◌≡◌, ℕ, ◌+◌, ◌-◌, ◌<◌, true, ◌&&◌, leb, List, ◌++◌, length, take, drop, Ok, sym, ap, ◌∙◌, ap₂, arith}
use Rattle.roles.specs.Meaning.{Meaning}
use Rattle.roles.specs.declared.scheme.SchemeFault.TheVariants.{Unsound}
use Rattle.std.proofs.lemmas.List.{take-append-drop, length-take-le, get_or-take}
use Rattle.std.proofs.lemmas.Bool.{and_parts, and_from, leb-true, le-leb}
use Rattle.calculus.specs.Substitution.{closed}
use Rattle.calculus.specs.Subtyping.{well_coded}
use Rattle.tables.specs.declared.entry.Entry.{Entry}
use Rattle.tables.specs.declared.fault.FormFault.TheVariants.{Scheme, Counts, Room}
use Rattle.tables.specs.Entries.{at, no_entry}
use Rattle.tables.specs.Form.{sound_asked, counts_asked, room_asked, form}
use Rattle.tables.proofs.Asked.{and_first, and_second, asks_yes}
use Rattle.trees.specs.Facts.{FormDecides, TreesUnfold, AcceptedClosed, AcceptedCoded, Coded}
use Rattle.trees.specs.Formed.{Accepted}
use Rattle.trees.specs.Trees.{type_by, type_of, term_by, term_of, coded}
use Rattle.trees.proofs.Closing.{closed_last}
use Rattle.trees.proofs.Coding.{types_coded, terms_coded}
use Rattle.trees.proofs.Forming.{formed_here, accepted_here, yes, both}
use Rattle.trees.proofs.Keeping.{types_kept, terms_kept, claims_kept, claims_same}
use Rattle.trees.proofs.Unfolding.{type_same, term_same, lower, type_unfold, term_unfold}

module _ (m : Meaning) (t n : ℕ) (types terms : List Entry) where
  accept : form m t n types terms ≡ Ok tt → Accepted m t n types terms
  accept h =
      let p = and_second (sound_asked m) _ h in
      let q = and_second (counts_asked t n) _ p in
      let few = and_parts (leb t 512 && leb 1 n) (leb n 1024) (asks_yes _ (Counts t n) (and_first (counts_asked t n) _ p)) in
      let low = and_parts (leb t 512) (leb 1 n) few.0 in
      let a : ℕ = length types in
      let b : ℕ = length terms in
      let four = and_parts (leb (t + n) a && leb n b && leb a 16384) (leb b 16384) (asks_yes _ (Room a b) (and_first (room_asked t n a b) _ q)) in
      let three = and_parts (leb (t + n) a && leb n b) (leb a 16384) four.0 in
      let two = and_parts (leb (t + n) a) (leb n b) three.0 in
      record {
        sound = asks_yes m.sound (Scheme Unsound) (and_first (sound_asked m) _ h);
        types_few = leb-true t 512 low.0;
        terms_some = leb-true 1 n low.1;
        terms_few = leb-true n 1024 few.1;
        types_room = leb-true (t + n) a two.0;
        terms_room = leb-true n b two.1;
        types_small = leb-true a 16384 three.1;
        terms_small = leb-true b 16384 four.1;
        formed = formed_here m.role (take t types) (take n terms) (and_second (room_asked t n a b) _ q);
      }

  accepted : Accepted m t n types terms → form m t n types terms ≡ Ok tt
  accepted ok =
      both _ _ (yes _ _ ok.sound)
      (both _ _ (yes _ _ (and_from _ _ (and_from _ _ (le-leb t 512 ok.types_few) (le-leb 1 n ok.terms_some)) (le-leb n 1024 ok.terms_few)))
      (both _ _ (yes _ _ (and_from _ _ (and_from _ _ (and_from _ _ (le-leb (t + n) (length types) ok.types_room) (le-leb n (length terms) ok.terms_room)) (le-leb (length types) 16384 ok.types_small)) (le-leb (length terms) 16384 ok.terms_small)))
      (accepted_here m.role (take t types) (take n terms) ok.formed)))

pub form_decides_lem : FormDecides
form_decides_lem m t n types terms = (accept m t n types terms, accepted m t n types terms)

module _ (m : Meaning) (t n : ℕ) (types terms : List Entry) (ok : Accepted m t n types terms) where
  abbrev T : List Entry
  T = take t types

  abbrev M : List Entry
  M = take n terms

  long_types : length (take t types) ≡ t
  long_types = let r = ok.types_room in length-take-le t types (omega arith)

  long_terms : length (take n terms) ≡ n
  long_terms = length-take-le n terms ok.terms_room

  -- the trees of the job's entries are those of the tables
  type_front : (k : ℕ) → k < t → type_of types k ≡ type_of T k
  type_front k l =
      let e = long_types in
      ap (λ es. type_of es k) (sym (take-append-drop t types)) ∙ types_kept T (drop t types) k (omega arith)

  term_front : (k : ℕ) → k < n → term_of types terms k ≡ term_of T M k
  term_front k l =
      let e = long_terms in
      ap₂ (λ (x y : List Entry). term_of x y k) (sym (take-append-drop t types)) (sym (take-append-drop n terms))
      ∙ (terms_kept (T ++ drop t types) M (drop n terms) k (omega arith) ∙ claims_kept T M (drop t types) m.role ok.formed k (omega arith))

  type_is : (k : ℕ) → k < t → type_of types k ≡ type_by (at types k) (type_of types)
  type_is k l =
      let e = long_types in
      let fit = ok.formed.types_fit k (omega arith) in
      type_front k l
      ∙ (type_unfold m.role T ok.formed.types_fit k (omega arith)
      ∙ (type_same k (type_of T) (type_of types) (λ i h. sym (type_front i (omega arith))) (at T k) fit.tag fit.operands ∙ ap (λ x. type_by x (type_of types)) (get_or-take t types k no_entry l)))

  term_is : (k : ℕ) → k < n → term_of types terms k ≡ term_by (type_of types) (at terms k) (term_of types terms)
  term_is k l =
      let d = long_types in
      let e = long_terms in
      let fit = ok.formed.threaded.fit k (omega arith) in
      term_front k l
      ∙ (term_unfold m.role T M ok.formed.threaded k (omega arith)
      ∙ (term_same (type_of T) k (term_of T M) (term_of types terms) (λ i h. sym (term_front i (omega arith))) (at M k) fit.tag (lower m.role T M ok.formed.threaded k (omega arith))
      ∙ (claims_same (length T) k (type_of T) (type_of types) (term_of types terms) (λ i h. sym (type_front i (omega arith))) (at M k) fit.tag fit.operands ∙ ap (λ x. term_by (type_of types) x (term_of types terms)) (get_or-take n terms k no_entry l))))

  closed_job : closed 0 (term_of types terms (n - 1)) ≡ true
  closed_job =
      let e = long_terms in
      let s = ok.terms_some in
      let f = ok.terms_few in
      let last : n - 1 ≡ length M - 1 = omega arith in
      ap (closed 0) (term_front (n - 1) (omega arith) ∙ ap (term_of T M) last) ∙ closed_last m.role T M ok.formed.threaded (omega arith) ok.formed.bound (omega arith)

  coded_job : Coded m t n types terms
  coded_job =
      let e = long_types in
      let f = long_terms in
      record {
        types_coded = λ k l. ap (well_coded m) (type_front k l) ∙ types_coded m T M ok.formed k (omega arith);
        terms_coded = λ k l. ap (coded m) (term_front k l) ∙ terms_coded m T M ok.formed k (omega arith);
      }

pub unfolds : TreesUnfold
unfolds m t n types terms ok = record { type_is = type_is m t n types terms ok; term_is = term_is m t n types terms ok }

pub closes : AcceptedClosed
closes m t n types terms ok = closed_job m t n types terms ok

pub codes_are_roles : AcceptedCoded
codes_are_roles m t n types terms ok = coded_job m t n types terms ok
