-- How many entries a copy takes. Assumes nothing.
use Rattle.std.proofs.Common.{◌≡◌, ℕ, ◌+◌, ◌<◌, ◌≤◌, List, [], ◌∷◌, ◌++◌, length, get_or, sym, refl, ap, ◌∙◌, arith, length-append}
use Rattle.tables.specs.declared.entry.Entry.{Entry}
use Rattle.machine.specs.Labelled.{entry_one, entry_two}
use Rattle.machine.specs.Plans.{Plan, old, new_one, new_two, Written, write}
use Rattle.runs.specs.Reach.{no_entry}
use Rattle.runs.specs.Copy.{copied, places, count_of, Copiable, names, first_within, second_within, renewal}
use Rattle.runs.specs.declared.copy.Putting.{Putting}
use Rattle.runs.proofs.Copying.{shared, leafy, single, double}

pub length_places : (b : ℕ) (p : Plan) → length (write b p).entries ≡ places p
length_places b (old t) = refl
length_places b (new_one h p) =
    let i = length_places b p in
    let k = length-append (write b p).entries (entry_one h (write b p).place ∷ []) in
    omega arith
length_places b (new_two h p q) =
    let v : Written = write b p in
    let w : Written = write (b + length v.entries) q in
    let i = length_places b p in
    let j = length_places (b + length v.entries) q in
    let k = length-append v.entries w.entries in
    let l = length-append (v.entries ++ w.entries) (entry_two h v.place w.place ∷ []) in
    omega arith

pub length_copied : (us : List Entry) (b d w i : ℕ) → length (copied us b d w i).entries ≡ count_of us d w i
length_copied us b d w i = length_places b _

module _ (P : Putting) (d i : ℕ) (C : Copiable P.used.now.terms.now d i) where
  abbrev us : List Entry
  us = P.used.now.terms.now

  abbrev rs : List ℕ
  rs = P.used.now.reach.now

  abbrev w : ℕ
  w = P.with

  abbrev e : Entry
  e = get_or us i no_entry

  pub none_shared : get_or rs i 0 ≤ d → count_of us d w i ≡ 0
  none_shared h = sym (length_copied us 0 d w i) ∙ ap (λ v. length v.entries) (shared P d i C 0 h)

  pub none_leaf : d < get_or rs i 0 → names e.tag ≡ 0 → count_of us d w i ≡ 0
  none_leaf h z = sym (length_copied us 0 d w i) ∙ ap (λ v. length v.entries) (leafy P d i C 0 h z)

  pub count_one : (d₁ : ℕ) → d < get_or rs i 0 → names e.tag ≡ 1 → d₁ ≡ first_within e.tag d → count_of us d w i ≡ count_of us d₁ w e.first + 1
  count_one d₁ h z q =
      let v : Written = copied us 0 d₁ w e.first in
      let a = length_copied us 0 d w i in
      let b = length_copied us 0 d₁ w e.first in
      let s = ap (λ v. length v.entries) (single P d i C 0 d₁ h z q) in
      let l = length-append v.entries (renewal e v.place 0 ∷ []) in
      omega arith

  pub count_two : (d₁ d₂ : ℕ) → d < get_or rs i 0 → names e.tag ≡ 2 → d₁ ≡ first_within e.tag d → d₂ ≡ second_within e.tag d →
      count_of us d w i ≡ (count_of us d₁ w e.first + count_of us d₂ w e.second) + 1
  count_two d₁ d₂ h z q₁ q₂ =
      let v : Written = copied us 0 d₁ w e.first in
      let x : Written = copied us (0 + length v.entries) d₂ w e.second in
      let a = length_copied us 0 d w i in
      let b = length_copied us 0 d₁ w e.first in
      let c = length_copied us (0 + length v.entries) d₂ w e.second in
      let s = ap (λ v. length v.entries) (double P d i C 0 d₁ d₂ x h z q₁ q₂ refl) in
      let k = length-append v.entries x.entries in
      let l = length-append (v.entries ++ x.entries) (renewal e v.place x.place ∷ []) in
      omega arith
