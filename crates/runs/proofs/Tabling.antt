-- A copy at the table, step by step. Assumes nothing.
use Rattle.std.proofs.Common.{◌≡◌, ℕ, ◌+◌, ◌<◌, ◌≤◌, List, [], ◌∷◌, ◌++◌, length, get_or, refl, ap, ◌∙◌, ⊎_elim, arith, length-append}
use Rattle.std.proofs.lemmas.Bool.{cases_eq}
use Rattle.tables.specs.declared.entry.Entry.{Entry}
use Rattle.machine.specs.Plans.{Written}
use Rattle.runs.specs.declared.room.Room.{Room}
use Rattle.runs.specs.declared.copy.Putting.{Putting}
use Rattle.runs.specs.Reach.{no_entry}
use Rattle.runs.specs.Copy.{copied, fresh, Wrote, Copiable, names, first_within, second_within, renewal}
use Rattle.runs.proofs.Laying.{still, joined, long, over, over_is}
use Rattle.runs.proofs.Copying.{shared, leafy, operands_two, single, double}

module _ (P : Putting) (d i : ℕ) (C : Copiable P.used.now.terms.now d i) (x : Room) (room : x.filled + length (copied P.used.now.terms.now (x.base + x.filled) d P.with i).entries ≤ length x.free.now) where
  abbrev us : List Entry
  us = P.used.now.terms.now

  abbrev rs : List ℕ
  rs = P.used.now.reach.now

  abbrev w : ℕ
  w = P.with

  abbrev b : ℕ
  b = x.base + x.filled

  abbrev e : Entry
  e = get_or us i no_entry

  abbrev whole_w : Written
  whole_w = copied us b d w i

  pub shares : get_or rs i 0 ≤ d → Wrote x x whole_w i
  shares h = still x i whole_w (shared P d i C b h)

  pub puts : d < get_or rs i 0 → names e.tag ≡ 0 → Wrote x x whole_w w
  puts h z = still x w whole_w (leafy P d i C b h z)

  abbrev one_w : ℕ → Written
  one_w d₁ = copied us b d₁ w e.first

  length_over : (xs : List Entry) (k j : ℕ) → length (over b e xs k j).entries ≡ length xs + 1
  length_over xs k j = length-append xs (renewal e k j ∷ [])

  pub first_room : (d₁ : ℕ) → d < get_or rs i 0 → (names e.tag ≡ 0 → ⊥) → d₁ ≡ first_within e.tag d → x.filled + length (one_w d₁).entries + 1 ≤ length x.free.now
  first_room d₁ h z q =
      ⊎_elim
      (λ o. let s = ap (λ v. length v.entries) (single P d i C b d₁ h o q) in let t = length_over (one_w d₁).entries (one_w d₁).place 0 in omega arith)
      (λ n.
      let v : Written = copied us (b + length (one_w d₁).entries) (second_within e.tag d) w e.second in
      let o = operands_two P d i C z n in
      let s = ap (λ v. length v.entries) (double P d i C b d₁ (second_within e.tag d) v h o q refl refl) in
      let t = length_over ((one_w d₁).entries ++ v.entries) (one_w d₁).place v.place in
      let k = length-append (one_w d₁).entries v.entries in
      omega arith)
      (cases_eq (names e.tag) 1)

  -- after the first operand
  module _ (d₁ : ℕ) (y : Room) (a : ℕ) (h : d < get_or rs i 0) (z : names e.tag ≡ 0 → ⊥) (q₁ : d₁ ≡ first_within e.tag d) (A : Wrote x y (one_w d₁) a) where
    as_long : length y.free.now ≡ length x.free.now
    as_long = let r = first_room d₁ h z q₁ in long x y (one_w d₁) a A (omega arith)

    pub after_first : y.filled < length y.free.now
    after_first = let r = first_room d₁ h z q₁ in let l = as_long in let k = A.filled in omega arith

    pub one_done : (v : Room) (c : ℕ) (n : Entry) → names e.tag ≡ 1 → n ≡ renewal e a 0 → Wrote y v (fresh (y.base + y.filled) n) c → Wrote x v whole_w c
    one_done v c n o r X =
        let k = A.filled in
        let j = A.base in
        joined x y v (one_w d₁) (fresh (y.base + y.filled) n) whole_w a c (omega arith) A X
        (single P d i C b d₁ h o q₁ ∙ over_is b e n (one_w d₁).entries (one_w d₁).place 0 (y.base + y.filled) (r ∙ ap (λ (p : ℕ). renewal e p 0) A.place) (omega arith))

    -- and the second
    module _ (d₂ : ℕ) (o : names e.tag ≡ 2) (q₂ : d₂ ≡ second_within e.tag d) where
      abbrev two_w : Written
      two_w = copied us (y.base + y.filled) d₂ w e.second

      two_is : two_w ≡ copied us (b + length (one_w d₁).entries) d₂ w e.second
      two_is =
          let k = A.filled in
          let j = A.base in
          let n : y.base + y.filled ≡ b + length (one_w d₁).entries = omega arith in
          ap (λ (p : ℕ). copied us p d₂ w e.second) n

      whole : whole_w ≡ over b e ((one_w d₁).entries ++ two_w.entries) (one_w d₁).place two_w.place
      whole = double P d i C b d₁ d₂ two_w h o q₁ q₂ two_is

      pub second_room : y.filled + length two_w.entries + 1 ≤ length y.free.now
      second_room =
          let s = ap (λ v. length v.entries) whole in
          let l = length_over ((one_w d₁).entries ++ two_w.entries) (one_w d₁).place two_w.place in
          let j = length-append (one_w d₁).entries two_w.entries in
          let k = A.filled in
          let m = as_long in
          omega arith

      pub after_second : (v : Room) (c : ℕ) → Wrote y v two_w c → v.filled < length v.free.now
      after_second v c B = let r = second_room in let l = long y v two_w c B (omega arith) in let k = B.filled in omega arith

      pub two_done : (v u : Room) (c k : ℕ) (n : Entry) → Wrote y v two_w c → n ≡ renewal e a c → Wrote v u (fresh (v.base + v.filled) n) k → Wrote x u whole_w k
      two_done v u c k n B r X =
          let xs : List Entry = (one_w d₁).entries ++ two_w.entries in
          let t : Written = record { entries = xs; place = two_w.place } in
          let V : Wrote x v t c = joined x y v (one_w d₁) two_w t a c (omega arith) A B refl in
          let m = V.filled in
          let j = V.base in
          joined x v u t (fresh (v.base + v.filled) n) whole_w c k (omega arith) V X
          (whole
          ∙ over_is b e n xs (one_w d₁).place two_w.place (v.base + v.filled)
          (r ∙ (ap (λ (p : ℕ). renewal e p c) A.place ∙ ap (λ (p : ℕ). renewal e (one_w d₁).place p) B.place)) (omega arith))
