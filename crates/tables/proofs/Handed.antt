-- Depths handed down by one term more, and how large they are at most.
use Rattle.std.proofs.Common.{◌≡◌, ℕ, ◌+◌, ◌<◌, ◌≤◌, ltb, ◌⊎◌, List, [], ◌∷◌, ◌++◌, length, get_or, drop, set, replicate, sym, refl, ap, ◌∙◌, subst, inl, inr, append_assoc, arith, length-append}
use Rattle.std.proofs.Math.Seq.{get_or-append_seam}
use Rattle.std.specs.List.{push}
use Rattle.std.proofs.lemmas.List.{drop_more, get_or-set_same, get_or-set_other, length-set, set_past, length_push, nil_from_length, append-nil}
use Rattle.std.proofs.lemmas.Bool.{cases_eq, cases_lt, cond_both}
use Rattle.tables.specs.declared.entry.Entry.{Entry}
use Rattle.tables.specs.Entries.{at, no_entry, names, operand_of, binds}
use Rattle.tables.specs.Depths.{binders, hand_down, hand, depths_from, depths}
use Rattle.tables.specs.Lower.{Lower, Rooted}
use Rattle.tables.proofs.Used.{uses-none}

-- a value put into a list is read there, or what stood there before
set_most : (xs : List ℕ) (i j v b : ℕ) → get_or xs j 0 ≤ b → v ≤ b → get_or (set xs i v) j 0 ≤ b
set_most xs i j v b h l = go (cases_eq j i) (cases_lt i (length xs))
  where
    go : (j ≡ i) ⊎ (j ≡ i → ⊥) → (i < length xs) ⊎ (length xs ≤ i) → get_or (set xs i v) j 0 ≤ b
    go (inl e) (inl s) = rw (e, get_or-set_same xs i v 0 s) l
    go (inl e) (inr p) = rw (set_past xs i v p) h
    go (inr ne) s = rw (get_or-set_other xs i j v 0 ne) h

binders_most : (k i : ℕ) → binders k i ≤ 1
binders_most k i = cond_both (binds k i) 1 0 (λ x. x ≤ 1) (λ _. omega arith) (λ _. omega arith)

down_most : (e : Entry) (i d j b : ℕ) (ds : List ℕ) → get_or ds j 0 ≤ b → d + 1 ≤ b → get_or (hand_down e i d ds) j 0 ≤ b
down_most e i d j b ds h l =
    cond_both (ltb i (names e.tag)) (set ds (operand_of e i) (d + binders e.tag i)) ds (λ x. get_or x j 0 ≤ b)
    (λ _. set_most ds (operand_of e i) j (d + binders e.tag i) b h (omega (arith, binders_most e.tag i))) (λ _. h)

-- a term stands under no more binders than there are terms above it
pub depth_most : (i : ℕ) (es : List Entry) (j : ℕ) → get_or (depths_from i es) j 0 ≤ length es
depth_most i [] j = omega (arith, uses-none 1024 j)
depth_most i (e ∷ es) j =
    let ds : List ℕ = depths_from (i + 1) es in
    let d : ℕ = get_or ds i 0 in
    let low : d ≤ length es = depth_most (i + 1) es i in
    let here : get_or ds j 0 ≤ length es = depth_most (i + 1) es j in
    down_most e 1 d j (length (e ∷ es)) (hand_down e 0 d ds) (down_most e 0 d j (length (e ∷ es)) ds (omega arith) (omega arith)) (omega arith)

pub length_down : (e : Entry) (i d : ℕ) (ds : List ℕ) → length (hand_down e i d ds) ≡ length ds
length_down e i d ds =
    cond_both (ltb i (names e.tag)) (set ds (operand_of e i) (d + binders e.tag i)) ds (λ x. length x ≡ length ds)
    (λ _. length-set ds (operand_of e i) (d + binders e.tag i)) (λ _. refl)

pub length_depths : (i : ℕ) (es : List Entry) → length (depths_from i es) ≡ 1024
length_depths i [] = refl
length_depths i (e ∷ es) =
    let ds : List ℕ = depths_from (i + 1) es in
    let d : ℕ = get_or ds i 0 in
    length_down e 1 d (hand_down e 0 d ds) ∙ (length_down e 0 d ds ∙ length_depths (i + 1) es)

-- the term at i hands its depth down
pub depths_more : (es : List Entry) (i : ℕ) → i < length es → hand (at es i) (get_or (depths_from (i + 1) (drop (i + 1) es)) i 0) (depths_from (i + 1) (drop (i + 1) es)) ≡ depths_from i (drop i es)
depths_more es i h = ap (depths_from i) (sym (drop_more es i no_entry h))

-- the terms from left on have handed their depths down to ds
pub record HandedTo (terms left : List Entry) (ds : List ℕ) : Type 0 where
  pub done : List Entry
  pub parts : terms ≡ left ++ done
  pub handed : ds ≡ depths_from (length left) done

-- before any term has handed its depth down
pub handed_none : (terms : List Entry) → HandedTo terms terms (replicate 1024 0)
handed_none terms = record { done = []; parts = sym (append-nil terms); handed = refl }

-- when all have
pub handed_all : (terms left : List Entry) (ds : List ℕ) → HandedTo terms left ds → length left ≡ 0 → ds ≡ depths terms
handed_all terms left ds h n =
    let e : left ≡ [] = nil_from_length left n in
    h.handed ∙ (ap (λ k. depths_from k h.done) n ∙ ap (depths_from 0) (sym (h.parts ∙ ap (λ l. l ++ h.done) e)))

-- the last that is left, e at place i
module _ (terms left left' : List Entry) (ds : List ℕ) (e : Entry) (i : ℕ) (h : HandedTo terms left ds) (l : left ≡ push left' e) (p : i ≡ length left') where
  all : terms ≡ left' ++ (e ∷ h.done)
  all = h.parts ∙ (ap (λ x. x ++ h.done) l ∙ append_assoc left' (e ∷ []) h.done)

  above : ds ≡ depths_from (i + 1) h.done
  above = h.handed ∙ ap (λ k. depths_from k h.done) (ap length l ∙ (length_push left' e ∙ ap (λ k. k + 1) (sym p)))

  long : length terms ≡ i + 1 + length h.done
  long = let q = length-append left' (e ∷ h.done) in let r = ap length all in omega arith

  pub within : i < length terms
  within = let q = long in omega arith

  pub here : at terms i ≡ e
  here = ap (λ k. at terms k) p ∙ (ap (λ x. at x (length left')) all ∙ get_or-append_seam left' e h.done no_entry)

  pub lower : Rooted terms → Lower e i
  lower r = subst (λ x. Lower x i) here (r i within)

  pub low : length terms ≤ 1024 → get_or ds i 0 ≤ 1024
  low few = let q = long in rw above (omega (arith, depth_most (i + 1) h.done i))

  pub handed_more : HandedTo terms left' (hand e (get_or ds i 0) ds)
  handed_more =
      record {
        done = e ∷ h.done;
        parts = all;
        handed = ap (λ x. hand e (get_or x i 0) x) above ∙ ap (λ k. depths_from k (e ∷ h.done)) p;
      }
