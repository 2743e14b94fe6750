-- What a step writes along its path. Assumes nothing.
use Rattle.std.proofs.Common.{◌≡◌, ℕ, zero, suc, ◌+◌, ◌<◌, ◌≤◌, List, [], ◌∷◌, ◌++◌, length, get_or, sym, refl, ap, ◌∙◌, subst, add-zero, arith, length-append}
use Rattle.tables.specs.declared.entry.Entry.{Entry}
use Rattle.machine.specs.Labelled.{Head, none, leafs, ones, twos, head, entry_two, Tree, tree, label}
use Rattle.machine.specs.Plans.{Plan, old, Written, write}
use Rattle.machine.proofs.Growing.{append-nil}
use Rattle.runs.specs.declared.find.Act.{Act}
use Rattle.runs.specs.declared.find.Act.TheVariants.{Unit, Share}
use Rattle.runs.specs.declared.room.Room.{Room}
use Rattle.runs.specs.Reach.{no_entry, Ground}
use Rattle.runs.specs.Copy.{places, names, renewal, fresh, Wrote}
use Rattle.runs.specs.Find.{act_plan, wrap, along, ActFits, PathFits}
use Rattle.runs.proofs.Tags.{lower_at, tagged_at}
use Rattle.runs.proofs.Laying.{over, over_is, joined, long, still}
use Rattle.runs.proofs.Copying.{arity, arity_is, renewed, renewed_is, lower_second, label_at}

wrap_write : (H : Head) (b : ℕ) (p : Plan) (u : Tree) (k : ℕ) → (arity H ≡ 0 → ⊥) → (arity H ≡ 2 → label u ≡ k) →
    write b (wrap H p (old u)) ≡ record { entries = (write b p).entries ++ (renewed H (write b p).place k ∷ []); place = b + length (write b p).entries }
wrap_write none b p u k a l = absurd (a refl)
wrap_write (leafs h) b p u k a l = absurd (a refl)
wrap_write (ones h) b p u k a l = refl
wrap_write (twos h) b p u k a l =
    ap (λ (xs : List Entry). record { entries = xs ++ (entry_two h (write b p).place (label u) ∷ []); place = b + length xs }) (append-nil (write b p).entries)
    ∙ ap (λ (j : ℕ). record { entries = (write b p).entries ++ (entry_two h (write b p).place j ∷ []); place = b + length (write b p).entries }) (l refl)

wrap_places : (H : Head) (p : Plan) (u : Tree) → (arity H ≡ 0 → ⊥) → places (wrap H p (old u)) ≡ places p + 1
wrap_places none p u a = absurd (a refl)
wrap_places (leafs h) p u a = absurd (a refl)
wrap_places (ones h) p u a = omega arith
wrap_places (twos h) p u a = omega arith

module _ (us : List Entry) (G : Ground us) where
  -- one entry outward
  pub along_more : (b n k i : ℕ) (a : Act) (e : Entry) → n ≡ suc k → get_or us i no_entry ≡ e → i < length us → (names e.tag ≡ 0 → ⊥) →
      write b (along us n i a) ≡ over b e (write b (along us k e.first a)).entries (write b (along us k e.first a)).place e.second
  along_more b n k i a e q p l z =
      let t = tagged_at us i e G l p in
      let ar = arity_is e t in
      let low = lower_at us i e G l p in
      let v : Written = write b (along us k e.first a) in
      ap (λ (y : ℕ). write b (along us y i a)) q
      ∙ (ap (λ (x : Entry). write b (wrap (head x) (along us k x.first a) (old (tree us x.second)))) p
      ∙ (wrap_write (head e) b (along us k e.first a) (tree us e.second) e.second (λ y. z (ar ∙ y))
      (λ y. let s = lower_second (head e) i e y low in label_at us e.second G (omega arith))
      ∙ ap (λ (x : Entry). record { entries = v.entries ++ (x ∷ []); place = b + length v.entries }) (sym (renewed_is e v.place e.second t))))

  pub path_more : (n k i : ℕ) (a : Act) (e : Entry) → n ≡ suc k → get_or us i no_entry ≡ e → PathFits us n i a → (i < length us) × (names e.tag ≡ 0 → ⊥) × PathFits us k e.first a
  path_more n k i a e q p f =
      let F : ℕ → Type 0 = λ y. PathFits us y i a in
      let E : Entry → Type 0 = λ x. (i < length us) × (names x.tag ≡ 0 → ⊥) × PathFits us k x.first a in
      subst E p (subst F q f)

  pub path_places : (n i : ℕ) (a : Act) → PathFits us n i a → (places (along us n i a) ≡ places (act_plan us a) + n) × ActFits us a
  path_places zero i a f = (omega arith, f)
  path_places (suc n) i a f =
      let e : Entry = get_or us i no_entry in
      let ih = path_places n e.first a f.2 in
      let ar = arity_is e (G.tagged i f.0) in
      let w = wrap_places (head e) (along us n e.first a) (tree us e.second) (λ y. f.1 (ar ∙ y)) in
      (omega (arith, ih.0), ih.1)

-- into the room
module _ (us : List Entry) (G : Ground us) (x : Room) (n k i : ℕ) (a : Act) (q : n ≡ suc k) (F : PathFits us n i a)
    (room : x.filled + length (write (x.base + x.filled) (along us n i a)).entries ≤ length x.free.now) where
  abbrev e : Entry
  e = get_or us i no_entry

  abbrev b : ℕ
  b = x.base + x.filled

  fits : (i < length us) × (names e.tag ≡ 0 → ⊥) × PathFits us k e.first a
  fits = path_more us G n k i a e q refl F

  pub way_fits : PathFits us k e.first a
  way_fits = fits.2

  abbrev inner : Written
  inner = write b (along us k e.first a)

  whole : write b (along us n i a) ≡ over b e inner.entries inner.place e.second
  whole = along_more us G b n k i a e q refl fits.0 fits.1

  pub way_room : x.filled + length inner.entries + 1 ≤ length x.free.now
  way_room =
      let s = ap (λ v. length v.entries) whole in
      let l = length-append inner.entries (renewal e inner.place e.second ∷ []) in
      omega arith

  pub after_inner : (y : Room) (c : ℕ) → Wrote x y inner c → y.filled < length y.free.now
  after_inner y c A = let r = way_room in let l = long x y inner c A (omega arith) in let m = A.filled in omega arith

  pub way_done : (y z : Room) (c p : ℕ) (v : Entry) → Wrote x y inner c → v ≡ renewal e c e.second → Wrote y z (fresh (y.base + y.filled) v) p → Wrote x z (write b (along us n i a)) p
  way_done y z c p v A r X =
      let m = A.filled in
      let j = A.base in
      let l = way_room in
      joined x y z inner (fresh (y.base + y.filled) v) (write b (along us n i a)) c p (omega arith) A X
      (whole ∙ over_is b e v inner.entries inner.place e.second (y.base + y.filled) (r ∙ ap (λ (t : ℕ). renewal e t e.second) A.place) (omega arith))

-- a unit, and what is shared
module _ (us : List Entry) (G : Ground us) (x : Room) (k : ℕ) (a : Act) (fit : ActFits us a) where
  abbrev at : ℕ
  at = x.base + x.filled

  unit_write : a ≡ Unit k → write at (act_plan us a) ≡ fresh at (record { tag = 23; first = k; second = 0; third = 0 })
  unit_write q =
      let l : k < length us = subst (ActFits us) q fit in
      ap (λ (y : Act). write at (act_plan us y)) q
      ∙ (ap (λ (j : ℕ). record { entries = record { tag = 23; first = j; second = 0; third = 0 } ∷ []; place = at + 0 }) (label_at us k G l)
      ∙ ap (λ (p : ℕ). record { entries = record { tag = 23; first = k; second = 0; third = 0 } ∷ []; place = p }) (add-zero at))

  pub unit_room : a ≡ Unit k → x.filled + length (write at (act_plan us a)).entries ≤ length x.free.now → x.filled < length x.free.now
  unit_room q room = let s : length (write at (act_plan us a)).entries ≡ 1 = ap (λ v. length v.entries) (unit_write q) in omega arith

  pub unit_done : (y : Room) (c : ℕ) → a ≡ Unit k → Wrote x y (fresh at (record { tag = 23; first = k; second = 0; third = 0 })) c → Wrote x y (write at (act_plan us a)) c
  unit_done y c q W = subst (λ (w : Written). Wrote x y w c) (sym (unit_write q)) W

  pub share_done : a ≡ Share k → Wrote x x (write at (act_plan us a)) k
  share_done q =
      let l : k < length us = subst (ActFits us) q fit in
      still x k (write at (act_plan us a)) (ap (λ (y : Act). write at (act_plan us y)) q ∙ ap (λ (j : ℕ). record { entries = []; place = j }) (label_at us k G l))
