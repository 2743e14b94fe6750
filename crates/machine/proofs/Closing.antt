-- A step of a closed tree plans a closed one. Assumes nothing.
use Rattle.std.proofs.Common.{◌≡◌, ℕ, suc, ◌+◌, ◌≤◌, Bool, true, false, cond, ◌||◌, eqb, length, refl, subst, arith, ltb-true, lt-ltb}
use borrow.Author.Tests.{eqb-false}
use Rattle.roles.specs.Meaning.{Meaning}
use Rattle.std.proofs.lemmas.Bool.{and_parts, and_from}
use Rattle.machine.specs.Labelled.{constants, variables, One, abstracts, fixes, guards, checks, units, raises, restricts, Two, applies, lets, Tree, stray, leaf, one, two, inside, beside, closed}
use Rattle.machine.specs.Plans.{Plan, old, new_one, new_two, free, replace, step}
use Rattle.machine.proofs.Growing.{lay}
use Rattle.machine.proofs.Erasing.{or_neither}
use Rattle.machine.proofs.Stable.{Plain, Stable, MetBy, step_stable}

-- inside a head is one binder deeper, or none
pub by_inside : (h : One) (P : (ℕ → ℕ) → Type 0) → P (λ d. suc d) → P (λ d. d) → P (λ d. inside h d)
by_inside (abstracts c₁ c₂) P p q = p
by_inside fixes P p q = q
by_inside (guards a) P p q = q
by_inside checks P p q = q
by_inside units P p q = q
by_inside (raises a) P p q = q
by_inside (restricts a) P p q = q

pub by_beside : (h : Two) (P : (ℕ → ℕ) → Type 0) → P (λ d. suc d) → P (λ d. d) → P (λ d. beside h d)
by_beside applies P p q = q
by_beside lets P p q = p

inside_up : (h : One) (d e : ℕ) → d ≤ e → inside h d ≤ inside h e
inside_up h d e k = by_inside h (λ f. f d ≤ f e) (omega arith) k

beside_up : (h : Two) (d e : ℕ) → d ≤ e → beside h d ≤ beside h e
beside_up h d e k = by_beside h (λ f. f d ≤ f e) (omega arith) k

pub inside_suc : (h : One) (d : ℕ) → inside h (suc d) ≡ suc (inside h d)
inside_suc h d = by_inside h (λ f. f (suc d) ≡ suc (f d)) refl refl

pub beside_suc : (h : Two) (d : ℕ) → beside h (suc d) ≡ suc (beside h d)
beside_suc h d = by_beside h (λ f. f (suc d) ≡ suc (f d)) refl refl

closed_up : (d e : ℕ) (t : Tree) → d ≤ e → closed d t ≡ true → closed e t ≡ true
closed_up d e stray k h = h
closed_up d e (leaf i (constants a p)) k h = refl
closed_up d e (leaf i (variables a)) k h = lt-ltb a e (let l = ltb-true a d h in omega arith)
closed_up d e (one i x t) k h = closed_up (inside x d) (inside x e) t (inside_up x d e k) h
closed_up d e (two i x t u) k h =
    let b = and_parts (closed d t) (closed (beside x d) u) h in
    and_from (closed e t) (closed (beside x e) u) (closed_up d e t k b.0) (closed_up (beside x d) (beside x e) u (beside_up x d e k) b.1)

pub closed_down : (d : ℕ) (t : Tree) → closed (suc d) t ≡ true → free d t ≡ false → closed d t ≡ true
closed_down d stray h f = h
closed_down d (leaf i (constants a p)) h f = refl
closed_down d (leaf i (variables a)) h f = lt-ltb a d (let l = ltb-true a (suc d) h in let n = eqb-false a d f in omega arith)
closed_down d (one i x t) h f = closed_down (inside x d) t (subst (λ (n : ℕ). closed n t ≡ true) (inside_suc x d) h) f
closed_down d (two i x t u) h f =
    let b = and_parts (closed (suc d) t) (closed (beside x (suc d)) u) h in
    let g = or_neither (free d t) (free (beside x d) u) f in
    and_from (closed d t) (closed (beside x d) u) (closed_down d t b.0 g.0) (closed_down (beside x d) u (subst (λ (n : ℕ). closed n u ≡ true) (beside_suc x d) b.1) g.1)

abbrev pub ClosedPlan : ℕ → Plan → Type 0
ClosedPlan d (old t) = closed d t ≡ true
ClosedPlan d (new_one h p) = ClosedPlan (inside h d) p
ClosedPlan d (new_two h p q) = ClosedPlan d p × ClosedPlan (beside h d) q

cond_closed : (d : ℕ) (b : Bool) (p q : Plan) → (b ≡ true → ClosedPlan d p) → (b ≡ false → ClosedPlan d q) → ClosedPlan d (cond b p q)
cond_closed d true p q h k = h refl
cond_closed d false p q h k = k refl

replace_closed : (d : ℕ) (n t : Tree) → closed 0 n ≡ true → closed (suc d) t ≡ true → ClosedPlan d (replace d n t)
replace_closed d n stray c h = h
replace_closed d n (leaf i (constants a p)) c h = refl
replace_closed d n (leaf i (variables a)) c h =
    cond_closed d (eqb a d) (old n) (old (leaf i (variables a))) (λ e. closed_up 0 d n (omega arith) c) (λ e. closed_down d (leaf i (variables a)) h e)
replace_closed d n (one i x t) c h =
    cond_closed d (free (inside x d) t) (new_one x (replace (inside x d) n t)) (old (one i x t))
    (λ e. replace_closed (inside x d) n t c (subst (λ (k : ℕ). closed k t ≡ true) (inside_suc x d) h)) (λ e. closed_down d (one i x t) h e)
replace_closed d n (two i x t u) c h =
    let b = and_parts (closed (suc d) t) (closed (beside x (suc d)) u) h in
    cond_closed d (free d t || free (beside x d) u) (new_two x (replace d n t) (replace (beside x d) n u)) (old (two i x t u))
    (λ e. (replace_closed d n t c b.0, replace_closed (beside x d) n u c (subst (λ (k : ℕ). closed k u ≡ true) (beside_suc x d) b.1)))
    (λ e. closed_down d (two i x t u) h e)

pub lay_closed : (d b : ℕ) (p : Plan) → ClosedPlan d p → closed d (lay b p).whole ≡ true
lay_closed d b (old t) h = h
lay_closed d b (new_one x p) h = lay_closed (inside x d) b p h
lay_closed d b (new_two x p q) h =
    let c = b + length (lay b p).fresh in
    and_from (closed d (lay b p).whole) (closed (beside x d) (lay c q).whole) (lay_closed d b p h.0) (lay_closed (beside x d) c q h.1)

inner_closed : (i : ℕ) (h : One) (t : Tree) → Plain h → closed 0 (one i h t) ≡ true → closed 0 t ≡ true
inner_closed i (abstracts c₁ c₂) t w h = absurd w
inner_closed i fixes t w h = h
inner_closed i (guards a) t w h = h
inner_closed i checks t w h = h
inner_closed i units t w h = h
inner_closed i (raises a) t w h = h
inner_closed i (restricts a) t w h = h

plain_plan : (h : One) (p : Plan) → Plain h → ClosedPlan 0 p → ClosedPlan 0 (new_one h p)
plain_plan (abstracts c₁ c₂) p w h = absurd w
plain_plan fixes p w h = h
plain_plan (guards a) p w h = h
plain_plan checks p w h = h
plain_plan units p w h = h
plain_plan (raises a) p w h = h
plain_plan (restricts a) p w h = h

stable : Stable (λ t. closed 0 t ≡ true) (λ t. closed 1 t ≡ true) (ClosedPlan 0)
stable = record {
  whole = λ t h. h;
  body = λ i c₁ c₂ t h. h;
  inner = inner_closed;
  left = λ i x t u h. (and_parts (closed 0 t) (closed (beside x 0) u) h).0;
  right = λ i t u h. (and_parts (closed 0 t) (closed 0 u) h).1;
  scope = λ i t u h. (and_parts (closed 0 t) (closed 1 u) h).1;
  placed = λ n t h k. replace_closed 0 n t h k;
  unit_new = λ t h. h;
  one_new = λ i x t p w h q. plain_plan x p w q;
  two_new = λ i x t u p h q. (q, (and_parts (closed 0 t) (closed (beside x 0) u) h).1);
}

pub step_closed : (m : Meaning) (r : ℕ) (t : Tree) → closed 0 t ≡ true → MetBy (ClosedPlan 0) (step m r t)
step_closed m r t h = step_stable (λ t. closed 0 t ≡ true) (λ t. closed 1 t ≡ true) (ClosedPlan 0) stable m r t h
