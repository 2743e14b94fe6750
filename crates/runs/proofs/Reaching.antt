-- Reaches, closed trees and free variables. Assumes nothing.
use Rattle.std.proofs.Common.{◌≡◌, ℕ, suc, ◌-◌, ◌<◌, ◌≤◌, max, Bool, true, false, ◌||◌, ltb, ◌⊎◌, List, length, get_or, sym, refl, ap, ◌∙◌, inl, inr, ⊎_elim, add-one, arith, ltb-true, lt-ltb, eqb-true}
use mathlib.Core.Bool.{false≢true}
use Rattle.std.proofs.lemmas.Bool.{cases_Bool, le-ltb, and_parts, and_from}
use Rattle.tables.specs.declared.entry.Entry.{Entry}
use Rattle.machine.specs.Labelled.{constants, variables, One, abstracts, fixes, guards, checks, units, raises, restricts, Two, applies, lets, head, Tree, stray, leaf, one, two, tree, inside, beside, closed}
use Rattle.machine.specs.Plans.{free}
use Rattle.machine.specs.Theorems.{rooted, Lower}
use Rattle.machine.proofs.Closing.{closed_down}
use Rattle.runs.specs.Reach.{no_entry, outside, outside_two, reach_of, Tagged, Ground, lower, step_of}
use Rattle.runs.proofs.Tags.{by_tag, tree_at, lower_at, tagged_at}

-- inside a head and outside it again: one binder, or none
pub by_outside : (h : One) (P : (ℕ → ℕ) → (ℕ → ℕ) → Type 0) → P (λ d. suc d) (λ r. r - 1) → P (λ d. d) (λ r. r) → P (λ d. inside h d) (λ r. outside h r)
by_outside (abstracts c₁ c₂) P p q = p
by_outside fixes P p q = q
by_outside (guards a) P p q = q
by_outside checks P p q = q
by_outside units P p q = q
by_outside (raises a) P p q = q
by_outside (restricts a) P p q = q

pub by_outside_two : (h : Two) (P : (ℕ → ℕ) → (ℕ → ℕ) → Type 0) → P (λ d. suc d) (λ r. r - 1) → P (λ d. d) (λ r. r) → P (λ d. beside h d) (λ r. outside_two h r)
by_outside_two applies P p q = q
by_outside_two lets P p q = p

outside_low : (h : One) (r d : ℕ) → r ≤ inside h d → outside h r ≤ d
outside_low h r d = by_outside h (λ f g. r ≤ f d → g r ≤ d) (λ k. omega arith) (λ k. k)

outside_high : (h : One) (r d : ℕ) → inside h d < r → d < outside h r
outside_high h r d = by_outside h (λ f g. f d < r → d < g r) (λ k. omega arith) (λ k. k)

outside_two_low : (h : Two) (r d : ℕ) → r ≤ beside h d → outside_two h r ≤ d
outside_two_low h r d = by_outside_two h (λ f g. r ≤ f d → g r ≤ d) (λ k. omega arith) (λ k. k)

outside_two_high : (h : Two) (r d : ℕ) → beside h d < r → d < outside_two h r
outside_two_high h r d = by_outside_two h (λ f g. f d < r → d < g r) (λ k. omega arith) (λ k. k)

or_either : (a b : Bool) → (a || b) ≡ true → (a ≡ true) ⊎ (b ≡ true)
or_either true b h = inl refl
or_either false b h = inr h

pub closed_reach : (d : ℕ) (t : Tree) → closed d t ≡ true → reach_of t ≤ d
closed_reach d stray h = omega arith
closed_reach d (leaf i (constants k p)) h = omega arith
closed_reach d (leaf i (variables k)) h = let l = ltb-true k d h in omega arith
closed_reach d (one i x t) h = outside_low x (reach_of t) d (closed_reach (inside x d) t h)
closed_reach d (two i x t u) h =
    let b = and_parts (closed d t) (closed (beside x d) u) h in
    let l = closed_reach d t b.0 in
    let r = outside_two_low x (reach_of u) d (closed_reach (beside x d) u b.1) in
    omega arith

pub free_reach : (d : ℕ) (t : Tree) → free d t ≡ true → d < reach_of t
free_reach d stray h = absurd (false≢true h)
free_reach d (leaf i (constants k p)) h = absurd (false≢true h)
free_reach d (leaf i (variables k)) h = let l = eqb-true k d h in omega arith
free_reach d (one i x t) h = outside_high x (reach_of t) d (free_reach (inside x d) t h)
free_reach d (two i x t u) h =
    ⊎_elim (λ a. let l = free_reach d t a in omega arith)
    (λ b. let r = outside_two_high x (reach_of u) d (free_reach (beside x d) u b) in omega arith)
    (or_either (free d t) (free (beside x d) u) h)

-- at the outermost depth, a variable is free just where the reach passes it
pub free_is : (d : ℕ) (t : Tree) → closed (suc d) t ≡ true → free d t ≡ ltb d (reach_of t)
free_is d t h =
    ⊎_elim (λ p. p ∙ sym (lt-ltb d (reach_of t) (free_reach d t p)))
    (λ p. p ∙ sym (le-ltb d (reach_of t) (closed_reach d t (closed_down d t h p))))
    (cases_Bool (free d t))

-- what an entry names, as the code tests it
pub lower_is : (e : Entry) (i : ℕ) → Tagged e → Lower i e (head e) → (e.tag ≡ 17 → e.first < 1024) → lower e i ≡ true
lower_is e i t low small =
    by_tag (λ x. Lower i x (head x) → (x.tag ≡ 17 → x.first < 1024) → lower x i ≡ true)
    (λ f s t l m. refl) (λ f s t l m. lt-ltb f 1024 (m refl)) (λ f s t l m. lt-ltb f i l) (λ f s t l m. and_from (ltb f i) (ltb s i) (lt-ltb f i l.0) (lt-ltb s i l.1))
    (λ f s t l m. lt-ltb f i l) (λ f s t l m. lt-ltb f i l) (λ f s t l m. lt-ltb f i l) (λ f s t l m. lt-ltb f i l)
    (λ f s t l m. and_from (ltb f i) (ltb s i) (lt-ltb f i l.0) (lt-ltb s i l.1))
    (λ f s t l m. lt-ltb f i l) (λ f s t l m. lt-ltb f i l) e t low small

-- one step gives the reach of the tree
rooted_reach : (us : List Entry) (rs : List ℕ) (i : ℕ) (e : Entry) → Tagged e → Lower i e (head e) → ((k : ℕ) → k < i → get_or rs k 0 ≡ reach_of (tree us k)) →
    step_of e rs ≡ reach_of (rooted i (tree us e.first) (tree us e.second) (head e))
rooted_reach us rs i e t low known =
    by_tag (λ x. Lower i x (head x) → step_of x rs ≡ reach_of (rooted i (tree us x.first) (tree us x.second) (head x)))
    (λ f s t l. refl) (λ f s t l. add-one f) (λ f s t l. ap (λ r. r - 1) (known f l))
    (λ f s t l. ap (λ r. max r (get_or rs s 0)) (known f l.0) ∙ ap (λ r. max (reach_of (tree us f)) r) (known s l.1))
    (λ f s t l. known f l) (λ f s t l. known f l) (λ f s t l. known f l) (λ f s t l. known f l)
    (λ f s t l. ap (λ r. max r (get_or rs s 0 - 1)) (known f l.0) ∙ ap (λ r. max (reach_of (tree us f)) (r - 1)) (known s l.1))
    (λ f s t l. known f l) (λ f s t l. known f l) e t low

pub step_reach : (us : List Entry) (rs : List ℕ) (i : ℕ) (e : Entry) → Ground us → i < length us → get_or us i no_entry ≡ e → ((k : ℕ) → k < i → get_or rs k 0 ≡ reach_of (tree us k)) →
    step_of e rs ≡ reach_of (tree us i)
step_reach us rs i e g l p known = rooted_reach us rs i e (tagged_at us i e g l p) (lower_at us i e g l p) known ∙ sym (ap reach_of (tree_at us i e g l p))
