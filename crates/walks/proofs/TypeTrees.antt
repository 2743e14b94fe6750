-- The type of an entry goes by the types of those that it names.
use Rattle.std.proofs.Common.{◌≡◌, ℕ, ◌+◌, ◌<◌, ◌≤◌, Bool, ◌⊎◌, List, length, get_or, set, sym, ap, ◌∙◌, ap₂, inl, inr, arith}
use Rattle.std.proofs.lemmas.List.{get_or-set_same, get_or-set_other}
use Rattle.std.proofs.lemmas.Bool.{cases_eq}
use Rattle.calculus.specs.Syntax.{Ty, base, function, guarded, computation, unit_kind}
use Rattle.tables.specs.declared.entry.Entry.{Entry}
use Rattle.tables.specs.Entries.{at, no_entry}
use Rattle.tables.specs.Ladder.{ladder}
use Rattle.tables.proofs.Ladders.{get_or_ladder, rung_same}
use Rattle.trees.specs.Trees.{kind, type_by, type_step, type_of}
use Rattle.walks.specs.Places.{Low, Grounded}

-- the four tags
pub data Four (t : ℕ) : Type 0 where
  is1 : t ≡ 1 → Four t
  is2 : t ≡ 2 → Four t
  is3 : t ≡ 3 → Four t
  is4 : t ≡ 4 → Four t

four : (t : ℕ) → 1 ≤ t → t ≤ 4 → Four t
four t a b = go (cases_eq t 1) (cases_eq t 2) (cases_eq t 3)
  where
    go : (t ≡ 1) ⊎ (t ≡ 1 → ⊥) → (t ≡ 2) ⊎ (t ≡ 2 → ⊥) → (t ≡ 3) ⊎ (t ≡ 3 → ⊥) → Four t
    go (inl e) q r = is1 e
    go (inr n) (inl e) r = is2 e
    go (inr n) (inr o) (inl e) = is3 e
    go (inr n) (inr o) (inr p) = is4 (omega arith)

pub tag_of : (role : ℕ → Bool) (k : ℕ) (e : Entry) → Low role k e → Four e.tag
tag_of role k e l = four e.tag l.some l.most

pub node_1 : (e : Entry) (w : ℕ → Ty) → e.tag ≡ 1 → type_by e w ≡ base (kind e.first)
node_1 e w h = rw h

pub node_2 : (e : Entry) (w : ℕ → Ty) → e.tag ≡ 2 → type_by e w ≡ function (w e.first) (w e.second)
node_2 e w h = rw h

pub node_3 : (e : Entry) (w : ℕ → Ty) → e.tag ≡ 3 → type_by e w ≡ guarded e.third (w e.first)
node_3 e w h = rw h

pub node_4 : (e : Entry) (w : ℕ → Ty) → e.tag ≡ 4 → type_by e w ≡ computation e.third (w e.first)
node_4 e w h = rw h

pub node_same : (role : ℕ → Bool) (k : ℕ) (e : Entry) (w v : ℕ → Ty) → Low role k e → ((i : ℕ) → i < k → w i ≡ v i) → type_by e w ≡ type_by e v
node_same role k e w v l same = go (tag_of role k e l)
  where
    go : Four e.tag → type_by e w ≡ type_by e v
    go (is1 h) = node_1 e w h ∙ sym (node_1 e v h)
    go (is2 h) = node_2 e w h ∙ (ap₂ function (same e.first (l.one (omega arith))) (same e.second (l.two h)) ∙ sym (node_2 e v h))
    go (is3 h) = node_3 e w h ∙ (ap (guarded e.third) (same e.first (l.one (omega arith))) ∙ sym (node_3 e v h))
    go (is4 h) = node_4 e w h ∙ (ap (computation e.third) (same e.first (l.one (omega arith))) ∙ sym (node_4 e v h))

pub tree_is : (role : ℕ → Bool) (T : List Entry) (n k : ℕ) → Grounded role T n → k < n → type_of T k ≡ type_by (at T k) (type_of T)
unfolding type_of
tree_is role T n k g h =
    node_same role k (at T k) (λ i. get_or (ladder (type_step T) k) i (base unit_kind)) (type_of T) (g k h) (λ i l. get_or_ladder (type_step T) k i (base unit_kind) l)

abbrev in_list : Entry → List Ty → Ty
in_list x ts = type_by x (λ q. get_or ts q (base unit_kind))

-- tables that agree up to i have the same type there
pub tree_same : (T T' : List Entry) (i : ℕ) → ((k : ℕ) → k < i + 1 → at T' k ≡ at T k) → type_of T' i ≡ type_of T i
unfolding type_of
tree_same T T' i h = rung_same (type_step T') (type_step T) i (λ k l. ap in_list (h k l))

-- one more type
pub ground_more : (role : ℕ → Bool) (T : List Entry) (u : ℕ) (e : Entry) → u < length T → Low role u e → Grounded role T u → Grounded role (set T u e) (u + 1)
ground_more role T u e l w g k h = go (cases_eq k u)
  where
    go : (k ≡ u) ⊎ (k ≡ u → ⊥) → Low role k (at (set T u e) k)
    go (inl z) = rw (z, get_or-set_same T u e no_entry l) w
    go (inr z) = rw (get_or-set_other T u k e no_entry z) (g k (omega arith))
