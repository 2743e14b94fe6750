-- The trees of a table stay as entries are appended, and what a plan writes grows into what it means. Assumes nothing.
use Rattle.std.proofs.Common.{◌≡◌, ℕ, zero, suc, ◌+◌, true, ◌⊎◌, List, [], ◌∷◌, ◌++◌, length, get_or, sym, refl, ap, ◌∙◌, subst, inl, inr, append_assoc, zero-add, length-append}
use mathlib.Core.Bool.{false≢true}
use lib.Seq.{get_or-append_seam}
use Rattle.calculus.specs.Syntax.{Ty, Term}
use Rattle.std.proofs.lemmas.Bool.{and_parts}
use Rattle.tables.specs.declared.entry.Entry.{Entry}
use Rattle.machine.specs.Labelled.{One, abstracts, fixes, guards, checks, units, raises, restricts, Two, applies, lets, Head, none, leafs, ones, twos, head, entry_one, entry_two, Tree, stray, leaf, one, two, label, planted, node, grow, trees, tree, inside, beside, closed, erase, erase_one, erase_two}
use Rattle.machine.specs.Plans.{Plan, old, new_one, new_two, Written, add_one, add_two, write}

-- the entries of two lists, one after the other
pub grow_append : (acc : List Tree) (es fs : List Entry) → grow acc (es ++ fs) ≡ grow (grow acc es) fs
grow_append acc [] fs = refl
grow_append acc (e ∷ es) fs = grow_append (acc ++ (node acc e ∷ [])) es fs

pub append-nil : {A : Type 0} (xs : List A) → xs ++ [] ≡ xs
append-nil [] = refl
append-nil (x ∷ xs) = ap (λ r. x ∷ r) (append-nil xs)

-- prefix stability: the trees that there were stay, at their places
pub grow_extends : (acc : List Tree) (es : List Entry) → (more : List Tree) × (grow acc es ≡ acc ++ more) × (length more ≡ length es)
grow_extends acc [] = ([], sym (append-nil acc), refl)
grow_extends acc (e ∷ es) =
    let i = grow_extends (acc ++ (node acc e ∷ [])) es in
    (node acc e ∷ i.0, i.1 ∙ append_assoc acc (node acc e ∷ []) i.0, ap suc i.2)

pub length_grow : (acc : List Tree) (es : List Entry) → length (grow acc es) ≡ length acc + length es
length_grow acc es = let i = grow_extends acc es in ap length i.1 ∙ length-append acc i.0 ∙ ap (λ n. length acc + n) i.2

pub length_trees : (es : List Entry) → length (trees es) ≡ length es
length_trees es = length_grow [] es ∙ zero-add (length es)

-- the tree and all its parts stand in the list at their numbers, none of them a stray
abbrev pub Held : List Tree → Tree → Type 0
Held acc stray = ⊥
Held acc (leaf i h) = get_or acc i stray ≡ leaf i h
Held acc (one i h t) = (get_or acc i stray ≡ one i h t) × Held acc t
Held acc (two i h t u) = (get_or acc i stray ≡ two i h t u) × Held acc t × Held acc u

abbrev pub there : Tree → Type 0
there stray = ⊥
there (leaf i h) = Unit {0}
there (one i h t) = Unit {0}
there (two i h t u) = Unit {0}

get_or_keep : (acc more : List Tree) (i : ℕ) (t : Tree) → there t → get_or acc i stray ≡ t → get_or (acc ++ more) i stray ≡ t
get_or_keep [] more i t p e = absurd (subst there (sym e) p)
get_or_keep (x ∷ acc) more zero t p e = e
get_or_keep (x ∷ acc) more (suc i) t p e = get_or_keep acc more i t p e

pub held_more : (acc more : List Tree) (t : Tree) → Held acc t → Held (acc ++ more) t
held_more acc more stray h = h
held_more acc more (leaf i x) h = get_or_keep acc more i (leaf i x) tt h
held_more acc more (one i x t) h = (get_or_keep acc more i (one i x t) tt h.0, held_more acc more t h.1)
held_more acc more (two i x t u) h = (get_or_keep acc more i (two i x t u) tt h.0, held_more acc more t h.1, held_more acc more u h.2)

pub held_at : (acc : List Tree) (t : Tree) → Held acc t → get_or acc (label t) stray ≡ t
held_at acc stray h = absurd h
held_at acc (leaf i x) h = h
held_at acc (one i x t) h = h.0
held_at acc (two i x t u) h = h.0

abbrev pub HeldPlan : List Tree → Plan → Type 0
HeldPlan acc (old t) = Held acc t
HeldPlan acc (new_one h p) = HeldPlan acc p
HeldPlan acc (new_two h p q) = HeldPlan acc p × HeldPlan acc q

pub held_plan_more : (acc more : List Tree) (p : Plan) → HeldPlan acc p → HeldPlan (acc ++ more) p
held_plan_more acc more (old t) h = held_more acc more t h
held_plan_more acc more (new_one x p) h = held_plan_more acc more p h
held_plan_more acc more (new_two x p q) h = (held_plan_more acc more p h.0, held_plan_more acc more q h.1)

-- what a plan's entries grow into, above b trees: the trees that come new, and that of the whole
pub record Laid : Type 0 where
  pub fresh : List Tree
  pub whole : Tree

abbrev lay_one : ℕ → One → Laid → Laid
lay_one b h l = let t = one (b + length l.fresh) h l.whole in record { fresh = l.fresh ++ (t ∷ []); whole = t }

abbrev lay_two : ℕ → Two → Laid → Laid → Laid
lay_two b h k l =
    let t = two (b + length (k.fresh ++ l.fresh)) h k.whole l.whole in
    record { fresh = (k.fresh ++ l.fresh) ++ (t ∷ []); whole = t }

abbrev pub lay : ℕ → Plan → Laid
lay b (old t) = record { fresh = []; whole = t }
lay b (new_one h p) = lay_one b h (lay b p)
lay b (new_two h p q) = lay_two b h (lay b p) (lay (b + length (lay b p).fresh) q)

-- the term of a plan
abbrev pub meant : (ℕ → Ty) → Plan → Term
meant claim (old t) = erase claim t
meant claim (new_one h p) = erase_one claim h (meant claim p)
meant claim (new_two h p q) = erase_two h (meant claim p) (meant claim q)

pub lay_meant : (claim : ℕ → Ty) (b : ℕ) (p : Plan) → erase claim (lay b p).whole ≡ meant claim p
lay_meant claim b (old t) = refl
lay_meant claim b (new_one h p) = ap (erase_one claim h) (lay_meant claim b p)
lay_meant claim b (new_two h p q) =
    let i = lay_meant claim b p in
    let j = lay_meant claim (b + length (lay b p).fresh) q in
    ap (λ e. erase_two h e (erase claim (lay (b + length (lay b p).fresh) q).whole)) i ∙ ap (λ e. erase_two h (meant claim p) e) j

head_one : (h : One) (j : ℕ) → head (entry_one h j) ≡ ones h
head_one (abstracts c₁ c₂) j = refl
head_one fixes j = refl
head_one (guards a) j = refl
head_one checks j = refl
head_one units j = refl
head_one (raises a) j = refl
head_one (restricts a) j = refl

first_one : (h : One) (j : ℕ) → (entry_one h j).first ≡ j
first_one (abstracts c₁ c₂) j = refl
first_one fixes j = refl
first_one (guards a) j = refl
first_one checks j = refl
first_one units j = refl
first_one (raises a) j = refl
first_one (restricts a) j = refl

node_one : (acc : List Tree) (h : One) (t : Tree) → get_or acc (label t) stray ≡ t → node acc (entry_one h (label t)) ≡ one (length acc) h t
node_one acc h t e =
    ap (planted acc (entry_one h (label t)).first (entry_one h (label t)).second) (head_one h (label t))
    ∙ ap (λ j. one (length acc) h (get_or acc j stray)) (first_one h (label t))
    ∙ ap (one (length acc) h) e

node_two : (acc : List Tree) (h : Two) (t u : Tree) → get_or acc (label t) stray ≡ t → get_or acc (label u) stray ≡ u →
    node acc (entry_two h (label t) (label u)) ≡ two (length acc) h t u
node_two acc applies t u e f = ap (λ x. two (length acc) applies x (get_or acc (label u) stray)) e ∙ ap (two (length acc) applies t) f
node_two acc lets t u e f = ap (λ x. two (length acc) lets x (get_or acc (label u) stray)) e ∙ ap (two (length acc) lets t) f

-- what is written grows, above the trees acc, into what is laid; and the whole is held
pub record Fits (acc : List Tree) (w : Written) (l : Laid) : Type 0 where
  pub grown : grow acc w.entries ≡ acc ++ l.fresh
  pub placed : w.place ≡ label l.whole
  pub counted : length l.fresh ≡ length w.entries
  pub held : Held (acc ++ l.fresh) l.whole

pub length_snoc : {A : Type 0} (xs : List A) (x : A) → length (xs ++ (x ∷ [])) ≡ suc (length xs)
length_snoc [] x = refl
length_snoc (y ∷ xs) x = ap suc (length_snoc xs x)

-- one more entry, e, whose tree is t
fits_more : (acc fresh : List Tree) (es : List Entry) (e : Entry) (t : Tree) → grow acc es ≡ acc ++ fresh → node (acc ++ fresh) e ≡ t →
    grow acc (es ++ (e ∷ [])) ≡ acc ++ (fresh ++ (t ∷ []))
fits_more acc fresh es e t g n =
    grow_append acc es (e ∷ [])
    ∙ ap (λ x. x ++ (node x e ∷ [])) g
    ∙ ap (λ x. (acc ++ fresh) ++ (x ∷ [])) n
    ∙ append_assoc acc fresh (t ∷ [])

held_last : (acc fresh : List Tree) (t : Tree) → get_or (acc ++ (fresh ++ (t ∷ []))) (length acc + length fresh) stray ≡ t
held_last acc fresh t =
    ap (λ (x : List Tree). get_or x (length acc + length fresh) stray) (sym (append_assoc acc fresh (t ∷ [])))
    ∙ ap (λ (n : ℕ). get_or ((acc ++ fresh) ++ (t ∷ [])) n stray) (sym (length-append acc fresh))
    ∙ get_or-append_seam (acc ++ fresh) t [] stray

held_under : (acc fresh : List Tree) (t u : Tree) → Held (acc ++ fresh) u → Held (acc ++ (fresh ++ (t ∷ []))) u
held_under acc fresh t u h = subst (λ (x : List Tree). Held x u) (append_assoc acc fresh (t ∷ [])) (held_more (acc ++ fresh) (t ∷ []) u h)

fits_one : (acc : List Tree) (h : One) (w : Written) (l : Laid) → Fits acc w l → Fits acc (add_one (length acc) h w) (lay_one (length acc) h l)
fits_one acc h w l f =
    let t = one (length acc + length l.fresh) h l.whole in
    let n : node (acc ++ l.fresh) (entry_one h w.place) ≡ t =
    ap (λ j. node (acc ++ l.fresh) (entry_one h j)) f.placed
    ∙ node_one (acc ++ l.fresh) h l.whole (held_at (acc ++ l.fresh) l.whole f.held)
    ∙ ap (λ n. one n h l.whole) (length-append acc l.fresh) in
    record {
      grown = fits_more acc l.fresh w.entries (entry_one h w.place) t f.grown n;
      placed = ap (λ n. length acc + n) (sym f.counted);
      counted = length_snoc l.fresh t ∙ ap suc f.counted ∙ sym (length_snoc w.entries (entry_one h w.place));
      held = (held_last acc l.fresh t, held_under acc l.fresh t l.whole f.held);
    }

fits_two : (acc : List Tree) (h : Two) (w v : Written) (k l : Laid) → Fits acc w k → Fits (acc ++ k.fresh) v l →
    Fits acc (add_two (length acc) h w v) (lay_two (length acc) h k l)
fits_two acc h w v k l f g =
    let both = k.fresh ++ l.fresh in
    let t = two (length acc + length both) h k.whole l.whole in
    let hk : Held (acc ++ both) k.whole = subst (λ (x : List Tree). Held x k.whole) (append_assoc acc k.fresh l.fresh) (held_more (acc ++ k.fresh) l.fresh k.whole f.held) in
    let hl : Held (acc ++ both) l.whole = subst (λ (x : List Tree). Held x l.whole) (append_assoc acc k.fresh l.fresh) g.held in
    let c : length both ≡ length (w.entries ++ v.entries) =
    length-append k.fresh l.fresh ∙ ap (λ n. n + length l.fresh) f.counted ∙ ap (λ n. length w.entries + n) g.counted
    ∙ sym (length-append w.entries v.entries) in
    let e = entry_two h w.place v.place in
    let n : node (acc ++ both) e ≡ t =
    ap (λ j. node (acc ++ both) (entry_two h j v.place)) f.placed
    ∙ ap (λ j. node (acc ++ both) (entry_two h (label k.whole) j)) g.placed
    ∙ node_two (acc ++ both) h k.whole l.whole (held_at (acc ++ both) k.whole hk) (held_at (acc ++ both) l.whole hl)
    ∙ ap (λ n. two n h k.whole l.whole) (length-append acc both) in
    record {
      grown = fits_more acc both (w.entries ++ v.entries) e t
          (grow_append acc w.entries v.entries ∙ ap (λ x. grow x v.entries) f.grown ∙ g.grown ∙ append_assoc acc k.fresh l.fresh) n;
      placed = ap (λ n. length acc + n) (sym c);
      counted = length_snoc both t ∙ ap suc c ∙ sym (length_snoc (w.entries ++ v.entries) e);
      held = (held_last acc both t, held_under acc both t k.whole hk, held_under acc both t l.whole hl);
    }

-- a plan over trees that are held
pub grows : (acc : List Tree) (p : Plan) → HeldPlan acc p → Fits acc (write (length acc) p) (lay (length acc) p)
grows acc (old t) h = record { grown = sym (append-nil acc); placed = refl; counted = refl; held = held_more acc [] t h }
grows acc (new_one x p) h = fits_one acc x (write (length acc) p) (lay (length acc) p) (grows acc p h)
grows acc (new_two x p q) h =
    let i = grows acc p h.0 in
    let k = lay (length acc) p in
    let j = grows (acc ++ k.fresh) q (held_plan_more acc k.fresh q h.1) in
    let a : length (acc ++ k.fresh) ≡ length acc + length k.fresh = length-append acc k.fresh in
    let b : length (acc ++ k.fresh) ≡ length acc + length (write (length acc) p).entries = a ∙ ap (λ n. length acc + n) i.counted in
    fits_two acc x (write (length acc) p) (write (length acc + length (write (length acc) p).entries) q) k (lay (length acc + length k.fresh) q) i
    (subst (λ (n : ℕ). Fits (acc ++ k.fresh) (write (length acc + length (write (length acc) p).entries) q) (lay n q)) a
    (subst (λ (n : ℕ). Fits (acc ++ k.fresh) (write n q) (lay (length (acc ++ k.fresh)) q)) b j))

-- every tree that grows is a stray or holds one, or is held
abbrev pub Whole : Tree → Type 0
Whole stray = ⊥
Whole (leaf i h) = Unit {0}
Whole (one i h t) = Whole t
Whole (two i h t u) = Whole t × Whole u

pub closed_whole : (d : ℕ) (t : Tree) → closed d t ≡ true → Whole t
closed_whole d stray h = absurd (false≢true h)
closed_whole d (leaf i x) h = tt
closed_whole d (one i x t) h = closed_whole (inside x d) t h
closed_whole d (two i x t u) h = let b = and_parts (closed d t) (closed (beside x d) u) h in (closed_whole d t b.0, closed_whole (beside x d) u b.1)

-- a list in which what is whole is held
abbrev Good : List Tree → Type 0
Good acc = (i : ℕ) → Whole (get_or acc i stray) → Held acc (get_or acc i stray)

abbrev pub Picked : List Tree → Tree → ℕ → Tree → Type 0
Picked acc x i t = (t ≡ get_or acc i stray) ⊎ ((t ≡ x) ⊎ (t ≡ stray))

pub picked : (acc : List Tree) (x : Tree) (i : ℕ) → Picked acc x i (get_or (acc ++ (x ∷ [])) i stray)
picked [] x zero = inr (inl refl)
picked [] x (suc i) = inl refl
picked (y ∷ acc) x zero = inl refl
picked (y ∷ acc) x (suc i) = picked acc x i

held_planted : (acc : List Tree) (f s : ℕ) (h : Head) → Good acc → Whole (planted acc f s h) → Held (acc ++ (planted acc f s h ∷ [])) (planted acc f s h)
held_planted acc f s none g w = absurd w
held_planted acc f s (leafs h) g w = get_or-append_seam acc (planted acc f s (leafs h)) [] stray
held_planted acc f s (ones h) g w =
    let t = planted acc f s (ones h) in
    (get_or-append_seam acc t [] stray, held_more acc (t ∷ []) (get_or acc f stray) (g f w))
held_planted acc f s (twos h) g w =
    let t = planted acc f s (twos h) in
    (get_or-append_seam acc t [] stray, held_more acc (t ∷ []) (get_or acc f stray) (g f w.0), held_more acc (t ∷ []) (get_or acc s stray) (g s w.1))

good_picked : (acc : List Tree) (x t : Tree) (i : ℕ) → Good acc → (Whole x → Held (acc ++ (x ∷ [])) x) → Picked acc x i t → Whole t → Held (acc ++ (x ∷ [])) t
good_picked acc x t i g k (inl e) w = subst (Held (acc ++ (x ∷ []))) (sym e) (held_more acc (x ∷ []) (get_or acc i stray) (g i (subst Whole e w)))
good_picked acc x t i g k (inr (inl e)) w = subst (Held (acc ++ (x ∷ []))) (sym e) (k (subst Whole e w))
good_picked acc x t i g k (inr (inr e)) w = absurd (subst Whole e w)

good_node : (acc : List Tree) (e : Entry) → Good acc → Good (acc ++ (node acc e ∷ []))
good_node acc e g i w =
    good_picked acc (node acc e) (get_or (acc ++ (node acc e ∷ [])) i stray) i g (held_planted acc e.first e.second (head e) g) (picked acc (node acc e) i) w

pub good_grow : (acc : List Tree) (es : List Entry) → Good acc → Good (grow acc es)
good_grow acc [] g = g
good_grow acc (e ∷ es) g = good_grow (acc ++ (node acc e ∷ [])) es (good_node acc e g)

pub trees_held : (es : List Entry) (i : ℕ) → Whole (tree es i) → Held (trees es) (tree es i)
trees_held es i w = good_grow [] es (λ j v. absurd v) i w
