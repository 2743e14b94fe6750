-- What a copy writes, by the entry's tag. Assumes nothing.
use Rattle.std.proofs.Common.{◌≡◌, ℕ, suc, ◌+◌, ◌<◌, ◌≤◌, Bool, true, false, cond, List, [], ◌∷◌, ◌++◌, length, get_or, sym, refl, ap, ◌∙◌, subst, add-one, arith, lt-ltb}
use mathlib.Core.Bool.{false≢true}
use Rattle.std.proofs.lemmas.Bool.{le-ltb, and_parts}
use Rattle.tables.specs.declared.entry.Entry.{Entry}
use Rattle.tables.specs.Entries.{binds}
use Rattle.machine.specs.Labelled.{constants, variables, Head, none, leafs, ones, twos, head, entry_one, entry_two, Tree, stray, leaf, one, two, label, tree, inside, beside, closed}
use Rattle.machine.specs.Plans.{old, new_one, new_two, Written, write, free, replace}
use Rattle.machine.specs.Theorems.{rooted, Lower}
use Rattle.machine.proofs.Closing.{inside_suc, beside_suc}
use Rattle.runs.specs.declared.copy.Putting.{Putting}
use Rattle.runs.specs.Reach.{no_entry, reach_of, Tagged, Ground}
use Rattle.runs.specs.Copy.{copied, Copiable, names, within, first_within, second_within, renewal}
use Rattle.runs.proofs.Tags.{made, by_tag, tree_at, lower_at, tagged_at}
use Rattle.runs.proofs.Reaching.{free_is}
use Rattle.runs.proofs.Laying.{over}

-- by the head
abbrev pub arity : Head → ℕ
arity none = 0
arity (leafs h) = 0
arity (ones h) = 1
arity (twos h) = 2

abbrev within₁ : Head → ℕ → ℕ
within₁ none d = d
within₁ (leafs h) d = d
within₁ (ones h) d = inside h d
within₁ (twos h) d = d

abbrev within₂ : Head → ℕ → ℕ
within₂ none d = d
within₂ (leafs h) d = d
within₂ (ones h) d = d
within₂ (twos h) d = beside h d

abbrev pub renewed : Head → ℕ → ℕ → Entry
renewed none i j = no_entry
renewed (leafs (constants k p)) i j = made 16 i 0 0
renewed (leafs (variables k)) i j = made 17 i 0 0
renewed (ones h) i j = entry_one h i
renewed (twos h) i j = entry_two h i j

pub arity_is : (e : Entry) → Tagged e → names e.tag ≡ arity (head e)
arity_is e t =
    by_tag (λ x. names x.tag ≡ arity (head x))
    (λ f s t. refl) (λ f s t. refl) (λ f s t. refl) (λ f s t. refl) (λ f s t. refl) (λ f s t. refl) (λ f s t. refl) (λ f s t. refl) (λ f s t. refl) (λ f s t. refl) (λ f s t. refl) e t

within₁_is : (e : Entry) (d : ℕ) → Tagged e → first_within e.tag d ≡ within₁ (head e) d
within₁_is e d t =
    by_tag (λ x. first_within x.tag d ≡ within₁ (head x) d)
    (λ f s t. refl) (λ f s t. refl) (λ f s t. add-one d) (λ f s t. refl) (λ f s t. refl) (λ f s t. refl) (λ f s t. refl) (λ f s t. refl) (λ f s t. refl) (λ f s t. refl) (λ f s t. refl) e t

within₂_is : (e : Entry) (d : ℕ) → Tagged e → second_within e.tag d ≡ within₂ (head e) d
within₂_is e d t =
    by_tag (λ x. second_within x.tag d ≡ within₂ (head x) d)
    (λ f s t. refl) (λ f s t. refl) (λ f s t. refl) (λ f s t. refl) (λ f s t. refl) (λ f s t. refl) (λ f s t. refl) (λ f s t. refl) (λ f s t. add-one d) (λ f s t. refl) (λ f s t. refl) e t

pub renewed_is : (e : Entry) (i j : ℕ) → Tagged e → renewal e i j ≡ renewed (head e) i j
renewed_is e i j t =
    by_tag (λ x. renewal x i j ≡ renewed (head x) i j)
    (λ f s t. refl) (λ f s t. refl) (λ f s t. refl) (λ f s t. refl) (λ f s t. refl) (λ f s t. refl) (λ f s t. refl) (λ f s t. refl) (λ f s t. refl) (λ f s t. refl) (λ f s t. refl) e t

label_rooted : (e : Entry) (i : ℕ) (t u : Tree) → Tagged e → label (rooted i t u (head e)) ≡ i
label_rooted e i t u g =
    by_tag (λ x. label (rooted i t u (head x)) ≡ i)
    (λ f s t. refl) (λ f s t. refl) (λ f s t. refl) (λ f s t. refl) (λ f s t. refl) (λ f s t. refl) (λ f s t. refl) (λ f s t. refl) (λ f s t. refl) (λ f s t. refl) (λ f s t. refl) e g

-- one binder deeper at most
pub within_le : (t j d : ℕ) → within t j d ≤ d + 1
within_le t j d = at_most (binds t j)
  where
    at_most : (b : Bool) → cond b (d + 1) d ≤ d + 1
    at_most true = omega arith
    at_most false = omega arith

pub label_at : (us : List Entry) (i : ℕ) → Ground us → i < length us → label (tree us i) ≡ i
label_at us i g l =
    let e : Entry = get_or us i no_entry in
    ap label (tree_at us i e g l refl) ∙ label_rooted e i (tree us e.first) (tree us e.second) (g.tagged i l)

-- where the variable is not free, the tree is shared
pub replace_unfree : (d : ℕ) (n t : Tree) → free d t ≡ false → replace d n t ≡ old t
replace_unfree d n stray h = refl
replace_unfree d n (leaf i (constants k p)) h = refl
replace_unfree d n (leaf i (variables k)) h = ap (λ b. cond b (old n) (old (leaf i (variables k)))) h
replace_unfree d n (one i x t) h = ap (λ b. cond b (new_one x (replace (inside x d) n t)) (old (one i x t))) h
replace_unfree d n (two i x t u) h = ap (λ b. cond b (new_two x (replace d n t) (replace (beside x d) n u)) (old (two i x t u))) h

-- where it is, by the head
pub leaf_plan : (H : Head) (i : ℕ) (t u : Tree) (d : ℕ) (n : Tree) → arity H ≡ 0 → free d (rooted i t u H) ≡ true → replace d n (rooted i t u H) ≡ old n
leaf_plan none i t u d n a f = absurd (false≢true f)
leaf_plan (leafs (constants k p)) i t u d n a f = absurd (false≢true f)
leaf_plan (leafs (variables k)) i t u d n a f = ap (λ b. cond b (old n) (old (leaf i (variables k)))) f
leaf_plan (ones h) i t u d n a f = let z : ⊥ = omega arith in absurd z
leaf_plan (twos h) i t u d n a f = let z : ⊥ = omega arith in absurd z

abbrev over_one : ℕ → Head → Written → Written
over_one b H v = record { entries = v.entries ++ (renewed H v.place 0 ∷ []); place = b + length v.entries }

abbrev over_two : ℕ → Head → Written → Written → Written
over_two b H v w = record { entries = (v.entries ++ w.entries) ++ (renewed H v.place w.place ∷ []); place = b + length (v.entries ++ w.entries) }

one_copy : (H : Head) (i : ℕ) (t u : Tree) (d b : ℕ) (n : Tree) → arity H ≡ 1 → free d (rooted i t u H) ≡ true →
    write b (replace d n (rooted i t u H)) ≡ over_one b H (write b (replace (within₁ H d) n t))
one_copy none i t u d b n a f = absurd (false≢true f)
one_copy (leafs h) i t u d b n a f = let z : ⊥ = omega arith in absurd z
one_copy (ones h) i t u d b n a f = ap (λ c. write b (cond c (new_one h (replace (inside h d) n t)) (old (one i h t)))) f
one_copy (twos h) i t u d b n a f = let z : ⊥ = omega arith in absurd z

two_copy : (H : Head) (i : ℕ) (t u : Tree) (d b : ℕ) (n : Tree) → arity H ≡ 2 → free d (rooted i t u H) ≡ true →
    write b (replace d n (rooted i t u H))
    ≡ over_two b H (write b (replace (within₁ H d) n t)) (write (b + length (write b (replace (within₁ H d) n t)).entries) (replace (within₂ H d) n u))
two_copy none i t u d b n a f = absurd (false≢true f)
two_copy (leafs h) i t u d b n a f = let z : ⊥ = omega arith in absurd z
two_copy (ones h) i t u d b n a f = let z : ⊥ = omega arith in absurd z
two_copy (twos h) i t u d b n a f = ap (λ c. write b (cond c (new_two h (replace d n t) (replace (beside h d) n u)) (old (two i h t u)))) f

scoped_first : (H : Head) (i : ℕ) (t u : Tree) (d : ℕ) → (arity H ≡ 0 → ⊥) → closed (suc d) (rooted i t u H) ≡ true → closed (suc (within₁ H d)) t ≡ true
scoped_first none i t u d a c = absurd (a refl)
scoped_first (leafs h) i t u d a c = absurd (a refl)
scoped_first (ones h) i t u d a c = subst (λ (k : ℕ). closed k t ≡ true) (inside_suc h d) c
scoped_first (twos h) i t u d a c = (and_parts (closed (suc d) t) (closed (beside h (suc d)) u) c).0

scoped_second : (H : Head) (i : ℕ) (t u : Tree) (d : ℕ) → arity H ≡ 2 → closed (suc d) (rooted i t u H) ≡ true → closed (suc (within₂ H d)) u ≡ true
scoped_second none i t u d a c = let z : ⊥ = omega arith in absurd z
scoped_second (leafs h) i t u d a c = let z : ⊥ = omega arith in absurd z
scoped_second (ones h) i t u d a c = let z : ⊥ = omega arith in absurd z
scoped_second (twos h) i t u d a c = subst (λ (k : ℕ). closed k u ≡ true) (beside_suc h d) (and_parts (closed (suc d) t) (closed (beside h (suc d)) u) c).1

pub lower_first : (H : Head) (i : ℕ) (e : Entry) → (arity H ≡ 0 → ⊥) → Lower i e H → e.first < i
lower_first none i e a l = absurd (a refl)
lower_first (leafs h) i e a l = absurd (a refl)
lower_first (ones h) i e a l = l
lower_first (twos h) i e a l = l.0

pub lower_second : (H : Head) (i : ℕ) (e : Entry) → arity H ≡ 2 → Lower i e H → e.second < i
lower_second none i e a l = let z : ⊥ = omega arith in absurd z
lower_second (leafs h) i e a l = let z : ⊥ = omega arith in absurd z
lower_second (ones h) i e a l = let z : ⊥ = omega arith in absurd z
lower_second (twos h) i e a l = l.1

arity_two : (H : Head) → (arity H ≡ 0 → ⊥) → (arity H ≡ 1 → ⊥) → arity H ≡ 2
arity_two none a b = absurd (a refl)
arity_two (leafs h) a b = absurd (a refl)
arity_two (ones h) a b = absurd (b refl)
arity_two (twos h) a b = refl

module _ (P : Putting) (d i : ℕ) (C : Copiable P.used.now.terms.now d i) where
  abbrev us : List Entry
  us = P.used.now.terms.now

  abbrev rs : List ℕ
  rs = P.used.now.reach.now

  abbrev w : ℕ
  w = P.with

  abbrev G : Ground us
  G = P.used.now.ground

  abbrev e : Entry
  e = get_or us i no_entry

  tagged : Tagged e
  tagged = tagged_at us i e G C.here refl

  root : tree us i ≡ rooted i (tree us e.first) (tree us e.second) (head e)
  root = tree_at us i e G C.here refl

  arity_e : names e.tag ≡ arity (head e)
  arity_e = arity_is e tagged

  pub free_no : get_or rs i 0 ≤ d → free d (tree us i) ≡ false
  free_no h = let k = P.used.now.known i C.here in free_is d (tree us i) C.scoped ∙ le-ltb d (reach_of (tree us i)) (omega arith)

  free_root : d < get_or rs i 0 → free d (rooted i (tree us e.first) (tree us e.second) (head e)) ≡ true
  free_root h =
      let k = P.used.now.known i C.here in
      sym (ap (free d) root) ∙ (free_is d (tree us i) C.scoped ∙ lt-ltb d (reach_of (tree us i)) (omega arith))

  closed_root : closed (suc d) (rooted i (tree us e.first) (tree us e.second) (head e)) ≡ true
  closed_root = sym (ap (closed (suc d)) root) ∙ C.scoped

  pub shared : (b : ℕ) → get_or rs i 0 ≤ d → copied us b d w i ≡ record { entries = []; place = i }
  shared b h =
      ap (write b) (replace_unfree d (tree us w) (tree us i) (free_no h)) ∙ ap (λ k. record { entries = []; place = k }) (label_at us i G C.here)

  pub leafy : (b : ℕ) → d < get_or rs i 0 → names e.tag ≡ 0 → copied us b d w i ≡ record { entries = []; place = w }
  leafy b h z =
      ap (λ t. write b (replace d (tree us w) t)) root
      ∙ (ap (write b) (leaf_plan (head e) i (tree us e.first) (tree us e.second) d (tree us w) (sym arity_e ∙ z) (free_root h))
      ∙ ap (λ k. record { entries = []; place = k }) (label_at us w G P.there))

  pub first_lower : (names e.tag ≡ 0 → ⊥) → e.first < i
  first_lower z = lower_first (head e) i e (λ q. z (arity_e ∙ q)) (lower_at us i e G C.here refl)

  pub operands_two : (names e.tag ≡ 0 → ⊥) → (names e.tag ≡ 1 → ⊥) → names e.tag ≡ 2
  operands_two y z = arity_e ∙ arity_two (head e) (λ q. y (arity_e ∙ q)) (λ q. z (arity_e ∙ q))

  -- by a count of the operands
  pub some_named : (n : ℕ) → n ≡ names e.tag → (n ≡ 0 → ⊥) → names e.tag ≡ 0 → ⊥
  some_named n q z h = z (q ∙ h)

  pub two_named : (n : ℕ) → n ≡ names e.tag → (n ≡ 0 → ⊥) → (n ≡ 1 → ⊥) → names e.tag ≡ 2
  two_named n q y z = operands_two (λ h. y (q ∙ h)) (λ h. z (q ∙ h))

  pub second_lower : names e.tag ≡ 2 → e.second < i
  second_lower z = lower_second (head e) i e (sym arity_e ∙ z) (lower_at us i e G C.here refl)

  depth₁ : (d₁ : ℕ) → d₁ ≡ first_within e.tag d → within₁ (head e) d ≡ d₁
  depth₁ d₁ q = sym (q ∙ within₁_is e d tagged)

  depth₂ : (d₂ : ℕ) → d₂ ≡ second_within e.tag d → within₂ (head e) d ≡ d₂
  depth₂ d₂ q = sym (q ∙ within₂_is e d tagged)

  pub first_copiable : (d₁ : ℕ) → d₁ ≡ first_within e.tag d → (names e.tag ≡ 0 → ⊥) → Copiable us d₁ e.first
  first_copiable d₁ q z =
      let l = first_lower z in
      let h = C.here in
      record {
        here = omega arith;
        scoped = subst (λ (k : ℕ). closed (suc k) (tree us e.first) ≡ true) (depth₁ d₁ q)
            (scoped_first (head e) i (tree us e.first) (tree us e.second) d (λ q. z (arity_e ∙ q)) closed_root);
      }

  pub second_copiable : (d₂ : ℕ) → d₂ ≡ second_within e.tag d → names e.tag ≡ 2 → Copiable us d₂ e.second
  second_copiable d₂ q z =
      let l = second_lower z in
      let h = C.here in
      record {
        here = omega arith;
        scoped = subst (λ (k : ℕ). closed (suc k) (tree us e.second) ≡ true) (depth₂ d₂ q)
            (scoped_second (head e) i (tree us e.first) (tree us e.second) d (sym arity_e ∙ z) closed_root);
      }

  pub single : (b d₁ : ℕ) → d < get_or rs i 0 → names e.tag ≡ 1 → d₁ ≡ first_within e.tag d →
      copied us b d w i ≡ over b e (copied us b d₁ w e.first).entries (copied us b d₁ w e.first).place 0
  single b d₁ h z q =
      let n : Tree = tree us w in
      let t : Tree = tree us e.first in
      let u : Tree = tree us e.second in
      let v : Written = copied us b d₁ w e.first in
      ap (λ x. write b (replace d n x)) root
      ∙ (one_copy (head e) i t u d b n (sym arity_e ∙ z) (free_root h)
      ∙ (ap (λ k. over_one b (head e) (write b (replace k n t))) (depth₁ d₁ q)
      ∙ ap (λ x. record { entries = v.entries ++ (x ∷ []); place = b + length v.entries }) (sym (renewed_is e v.place 0 tagged))))

  pub double : (b d₁ d₂ : ℕ) (v : Written) → d < get_or rs i 0 → names e.tag ≡ 2 → d₁ ≡ first_within e.tag d → d₂ ≡ second_within e.tag d →
      v ≡ copied us (b + length (copied us b d₁ w e.first).entries) d₂ w e.second →
      copied us b d w i ≡ over b e ((copied us b d₁ w e.first).entries ++ v.entries) (copied us b d₁ w e.first).place v.place
  double b d₁ d₂ v h z q₁ q₂ same =
      let n : Tree = tree us w in
      let t : Tree = tree us e.first in
      let u : Tree = tree us e.second in
      let x : Written = copied us b d₁ w e.first in
      ap (λ y. write b (replace d n y)) root
      ∙ (two_copy (head e) i t u d b n (sym arity_e ∙ z) (free_root h)
      ∙ (ap (λ k. over_two b (head e) (write b (replace k n t)) (write (b + length (write b (replace k n t)).entries) (replace (within₂ (head e) d) n u))) (depth₁ d₁ q₁)
      ∙ (ap (λ k. over_two b (head e) x (write (b + length x.entries) (replace k n u))) (depth₂ d₂ q₂)
      ∙ (ap (λ y. over_two b (head e) x y) (sym same)
      ∙ ap (λ y. record { entries = (x.entries ++ v.entries) ++ (y ∷ []); place = b + length (x.entries ++ v.entries) }) (sym (renewed_is e x.place v.place tagged))))))
