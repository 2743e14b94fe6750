-- The pairs that are left to compare.
use Rattle.std.proofs.Common.{◌≡◌, ℕ, ◌+◌, ◌<◌, ◌≤◌, Bool, true, false, cond, not, ◌&&◌, eqb, ◌⊎◌, List, [], ◌∷◌, ◌++◌, length, get_or, Some, subst, subst₂, sym, refl, ap, ◌∙◌, ap₂, inl, inr, arith}
use mathlib.Core.Bool.{false≢true}
use Rattle.std.proofs.lemmas.Bool.{cases_eq, ne_eqb}
use Rattle.std.specs.Option.{option_to_list}
use Rattle.roles.specs.Meaning.{Meaning}
use Rattle.calculus.specs.Syntax.{Ty, base, function, guarded, computation, kind_number}
use Rattle.calculus.specs.Subtyping.{System}
use Rattle.calculus.specs.Inference.{related}
use Rattle.tables.specs.declared.entry.Entry.{Entry}
use Rattle.tables.specs.Entries.{no_entry}
use Rattle.trees.specs.Trees.{kind, type_by, type_of}
use Rattle.walks.specs.Places.{Low, Grounded}
use Rattle.walks.specs.Rules.{below}
use Rattle.walks.proofs.TypeTrees.{Four, is1, is2, is3, is4, tag_of, node_1, node_2, node_3, node_4, tree_is}
use Rattle.checks.specs.declared.compare.Pair.{Pair}
use Rattle.checks.specs.Compare.{alike_of, operands_of}
use Rattle.checks.proofs.Stacks.{onto, stack, pushed, popped}

-- a number is kept by the kind that it stands for
kind_kept : (k : ℕ) → k ≤ 2 → kind_number (kind k) ≡ k
kind_kept k h = go (cases_eq k 0) (cases_eq k 1)
  where
    go : (k ≡ 0) ⊎ (k ≡ 0 → ⊥) → (k ≡ 1) ⊎ (k ≡ 1 → ⊥) → kind_number (kind k) ≡ k
    go (inl z) q = rw z
    go (inr n) (inl z) = rw z
    go (inr n) (inr o) = let z : k ≡ 2 = omega arith in rw z

-- what is left to compare of two entries that are alike
abbrev pub rest_of : Meaning → System → Bool → Entry → Entry → (ℕ → Ty) → (ℕ → Ty) → Bool
rest_of m α d x y w v =
    cond (eqb x.tag 1) true
    (cond (eqb x.tag 2) (related m α (not d) (w x.first) (v y.first) && related m α d (w x.second) (v y.second))
    (related m α d (w x.first) (v y.first)))

and_true : (b : Bool) → b ≡ b && true
and_true true = refl
and_true false = refl

pub related_node : (m : Meaning) (α : System) (d : Bool) (j k : ℕ) (x y : Entry) (w v : ℕ → Ty) → Low m.role j x → Low m.role k y → related m α d (type_by x w) (type_by y v) ≡ alike_of m α d x y && rest_of m α d x y w v
related_node m α d j k x y w v l r = go (tag_of m.role j x l) (tag_of m.role k y r)
  where
    go : Four x.tag → Four y.tag → related m α d (type_by x w) (type_by y v) ≡ alike_of m α d x y && rest_of m α d x y w v
    go (is1 h) (is1 i) =
        let q : eqb (kind_number (kind x.first)) (kind_number (kind y.first)) ≡ eqb x.first y.first = ap₂ eqb (kind_kept x.first (l.kind h)) (kind_kept y.first (r.kind i)) in
        rw (h, i) (q ∙ and_true _)
    go (is1 h) (is2 i) = rw (h, i)
    go (is1 h) (is3 i) = rw (h, i)
    go (is1 h) (is4 i) = rw (h, i)
    go (is2 h) (is1 i) = rw (h, i)
    go (is2 h) (is2 i) = rw (h, i)
    go (is2 h) (is3 i) = rw (h, i)
    go (is2 h) (is4 i) = rw (h, i)
    go (is3 h) (is1 i) = rw (h, i)
    go (is3 h) (is2 i) = rw (h, i)
    go (is3 h) (is3 i) = rw (h, i)
    go (is3 h) (is4 i) = rw (h, i)
    go (is4 h) (is1 i) = rw (h, i)
    go (is4 h) (is2 i) = rw (h, i)
    go (is4 h) (is3 i) = rw (h, i)
    go (is4 h) (is4 i) = rw (h, i)

abbrev pub relates : Meaning → System → List Entry → Pair → Bool
relates m α es p = related m α p.forward (type_of es p.left) (type_of es p.right)

-- whether all pairs of a stack are in order
abbrev pub pend : Meaning → System → List Entry → List Pair → Bool
pend m α es [] = true
pend m α es (p ∷ ps) = relates m α es p && pend m α es ps

unfoldable pub size : Ty → ℕ
size (base k) = 1
size (function t s) = 1 + (size t + size s)
size (guarded a t) = 1 + size t
size (computation a t) = 1 + size t

-- the turns that they take
abbrev pub cost : List Entry → List Pair → ℕ
cost es [] = 0
cost es (p ∷ ps) = size (type_of es p.left) + cost es ps

-- each pair lies lower than the one below it in the stack, and inside the table
abbrev pub Fits : ℕ → ℕ → List Pair → Type 0
Fits used a [] = Unit {0}
Fits used a (p ∷ ps) = (p.left + length ps ≤ a) × (p.right < used) × Fits used a ps

and_assoc : (a b c : Bool) → (a && b) && c ≡ a && (b && c)
and_assoc true b c = refl
and_assoc false b c = refl

-- what is known of the pair on top
module _ (m : Meaning) (α : System) (es : List Entry) (used a : ℕ) (P : Pair) (ps : List Pair) (f : Fits used a (P ∷ ps)) (au : a < used) (um : used ≤ 2048) (g : Grounded m.role es used) where
  abbrev pub X : Entry
  X = get_or es P.left no_entry

  abbrev pub Y : Entry
  Y = get_or es P.right no_entry

  abbrev pub next : List Pair
  next = onto ps (operands_of P.forward X Y)

  left_low : P.left < used
  left_low = omega (arith, f.0)

  x_low : Low m.role P.left X
  x_low = g P.left left_low

  y_low : Low m.role P.right Y
  y_low = g P.right f.1

  x_tag : Four X.tag
  x_tag = tag_of m.role P.left X x_low

  top_is : relates m α es P ≡ alike_of m α P.forward X Y && rest_of m α P.forward X Y (type_of es) (type_of es)
  top_is =
      ap₂ (related m α P.forward) (tree_is m.role es used P.left g left_low) (tree_is m.role es used P.right g f.1)
      ∙ related_node m α P.forward P.left P.right X Y (type_of es) (type_of es) x_low y_low

  -- they are not alike
  stop : alike_of m α P.forward X Y ≡ false → pend m α es (P ∷ ps) ≡ false
  stop h = ap (λ b. b && pend m α es ps) (top_is ∙ ap (λ b. b && rest_of m α P.forward X Y (type_of es) (type_of es)) h)

  -- they are alike: what they leave to compare is as well in order
  next_pend : alike_of m α P.forward X Y ≡ true → pend m α es next ≡ pend m α es (P ∷ ps)
  next_pend h =
      sym (ap (λ b. b && pend m α es ps) (top_is ∙ ap (λ b. b && rest_of m α P.forward X Y (type_of es) (type_of es)) h) ∙ rest x_tag)
    where
      rest : Four X.tag → rest_of m α P.forward X Y (type_of es) (type_of es) && pend m α es ps ≡ pend m α es next
      rest (is1 i) = rw i refl
      rest (is2 i) = rw i (and_assoc (related m α (not P.forward) (type_of es X.first) (type_of es Y.first)) (related m α P.forward (type_of es X.second) (type_of es Y.second)) (pend m α es ps))
      rest (is3 i) = rw i refl
      rest (is4 i) = rw i refl

  -- it takes fewer turns
  next_cost : cost es next < cost es (P ∷ ps)
  unfolding size
  next_cost = go x_tag
    where
      tree : type_of es P.left ≡ type_by X (type_of es)
      tree = tree_is m.role es used P.left g left_low

      go : Four X.tag → cost es next < size (type_of es P.left) + cost es ps
      go (is1 i) = let s : size (type_of es P.left) ≡ 1 = ap size (tree ∙ node_1 X (type_of es) i) in rw i (omega arith)
      go (is2 i) = let s : size (type_of es P.left) ≡ 1 + (size (type_of es X.first) + size (type_of es X.second)) = ap size (tree ∙ node_2 X (type_of es) i) in rw i (omega arith)
      go (is3 i) = let s : size (type_of es P.left) ≡ 1 + size (type_of es X.first) = ap size (tree ∙ node_3 X (type_of es) i) in rw i (omega arith)
      go (is4 i) = let s : size (type_of es P.left) ≡ 1 + size (type_of es X.first) = ap size (tree ∙ node_4 X (type_of es) i) in rw i (omega arith)

  -- there is room for it
  next_room : length ps + length (operands_of P.forward X Y) ≤ 2048
  next_room = go x_tag
    where
      go : Four X.tag → length ps + length (operands_of P.forward X Y) ≤ 2048
      go (is1 i) = rw i (omega (arith, f.0))
      go (is2 i) = let l = x_low.one (omega arith) in rw i (omega (arith, f.0))
      go (is3 i) = rw i (omega (arith, f.0))
      go (is4 i) = rw i (omega (arith, f.0))

  -- equal tags, where they are alike
  tags : alike_of m α P.forward X Y ≡ true → X.tag ≡ Y.tag
  tags h = go (cases_eq X.tag Y.tag)
    where
      go : (X.tag ≡ Y.tag) ⊎ (X.tag ≡ Y.tag → ⊥) → X.tag ≡ Y.tag
      go (inl z) = z
      go (inr z) = let b = ne_eqb X.tag Y.tag z in absurd (false≢true (rw b at h))

  next_fits : alike_of m α P.forward X Y ≡ true → Fits used a next
  next_fits h = go x_tag
    where
      s : X.tag ≡ Y.tag
      s = tags h

      first_x : 2 ≤ X.tag → X.first < P.left
      first_x l = x_low.one l

      first_y : 2 ≤ X.tag → Y.first < used
      first_y l = omega (arith, y_low.one (omega (arith, s)), f.1)

      inner : 2 ≤ X.tag → (X.first + length ps ≤ a) × (Y.first < used) × Fits used a ps
      inner l = (omega (arith, f.0, first_x l), first_y l, f.2)

      go : Four X.tag → Fits used a next
      go (is1 i) = rw i f.2
      go (is2 i) = rw i (omega (arith, f.0, first_x (omega arith)), first_y (omega arith), (omega (arith, f.0, x_low.two i), omega (arith, y_low.two (omega (arith, s)), f.1), f.2))
      go (is3 i) = rw i (inner (omega arith))
      go (is4 i) = rw i (inner (omega arith))

-- a stack that is in order exactly if a is below b
pub record Leads (m : Meaning) (α : System) (es : List Entry) (used a b : ℕ) (ps : List Pair) : Type 0 where
  pub fits : Fits used a ps
  pub leads : pend m α es ps ≡ below m α es a b

pub begins : (m : Meaning) (α : System) (es : List Entry) (used a b : ℕ) (xs zs : List Pair) → b < used → xs ≡ [] → zs ≡ xs ++ record { left = a; right = b; forward = true } ∷ [] → Leads m α es used a b (stack zs)
begins m α es used a b xs zs bu e q =
    subst (Leads m α es used a b) (sym (ap stack (q ∙ ap (λ z. z ++ P ∷ []) e)))
    (record { fits = (omega arith, bu, tt); leads = sym (and_true (relates m α es P)) })
  where
    P : Pair
    P = record { left = a; right = b; forward = true }

pub popped_leads : {m : Meaning} {α : System} {es : List Entry} {used a b : ℕ} (P : Pair) (xs zs : List Pair) → zs ≡ xs ++ option_to_list (Some P) → Leads m α es used a b (stack zs) → Leads m α es used a b (P ∷ stack xs)
popped_leads {m} {α} {es} {used} {a} {b} P xs zs q w = subst (Leads m α es used a b) (popped P xs zs q) w

module _ {m : Meaning} {α : System} {es : List Entry} {used a b : ℕ} {P : Pair} {ps : List Pair} (au : a < used) (um : used ≤ 2048) (g : Grounded m.role es used) (w : Leads m α es used a b (P ∷ ps)) where
  pub left_there : P.left < used
  left_there = left_low m α es used a P ps w.fits au um g

  pub right_there : P.right < used
  right_there = w.fits.1

  pub apart : false ≡ alike_of m α P.forward (get_or es P.left no_entry) (get_or es P.right no_entry) → false ≡ below m α es a b
  apart h = sym (stop m α es used a P ps w.fits au um g (sym h)) ∙ w.leads

  abbrev more : List Pair
  more = operands_of P.forward (get_or es P.left no_entry) (get_or es P.right no_entry)

  pub room : (n : ℕ) → length ps ≡ n → n + length more ≤ 2048
  room n q = subst (λ (k : ℕ). k + length more ≤ 2048) q (next_room m α es used a P ps w.fits au um g)

  pub goes_on : true ≡ alike_of m α P.forward (get_or es P.left no_entry) (get_or es P.right no_entry) → (xs zs : List Pair) → ps ≡ stack xs → zs ≡ xs ++ more → Leads m α es used a b (stack zs)
  goes_on h xs zs o q =
      subst (Leads m α es used a b) (sym (pushed xs more zs q ∙ ap (λ z. onto z more) (sym o)))
      (record { fits = next_fits m α es used a P ps w.fits au um g (sym h); leads = next_pend m α es used a P ps w.fits au um g (sym h) ∙ w.leads })

  pub shorter : (xs zs ws : List Pair) → ps ≡ stack xs → zs ≡ xs ++ more → stack ws ≡ P ∷ ps → cost es (stack zs) < cost es (stack ws)
  shorter xs zs ws o q r =
      subst₂ (λ (a b : List Pair). cost es a < cost es b) (sym (pushed xs more zs q ∙ ap (λ z. onto z more) (sym o))) (sym r)
      (next_cost m α es used a P ps w.fits au um g)
