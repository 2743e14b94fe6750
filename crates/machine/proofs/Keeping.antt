-- What a step keeps: its trees are held, they are closed, and a greater role makes the same step. Assumes nothing.
use Rattle.std.proofs.Common.{◌≡◌, ℕ, Bool, true, false, cond, ◌||◌, eqb, List, Some, None, Option, sym, refl, ap, subst}
use Rattle.roles.specs.Meaning.{Meaning, Lawful}
use Rattle.machine.specs.Labelled.{constants, variables, abstracts, fixes, guards, checks, units, raises, restricts, applies, lets, Tree, stray, leaf, one, two, inside, beside}
use Rattle.machine.specs.Plans.{Plan, old, new_one, new_two, free, replace, Met, ready, makes, refused, misfit, valued, call, granted, test, hand, inward, under, step}
use Rattle.calculus.proofs.Laws.{left_role, right_role, across, over_left, over_right, over_join, under_left, under_right, under_meet, join_there, meet_there}
use Rattle.machine.proofs.Growing.{Held, HeldPlan}
use Rattle.machine.proofs.Stable.{Stable, MetBy, step_stable}

cond_plan : (P : Plan → Type 0) (b : Bool) (p q : Plan) → P p → P q → P (cond b p q)
cond_plan P true p q h k = h
cond_plan P false p q h k = k

module _ (acc : List Tree) where
  replace_held : (d : ℕ) (n t : Tree) → Held acc n → Held acc t → HeldPlan acc (replace d n t)
  replace_held d n stray k h = h
  replace_held d n (leaf i (constants a p)) k h = h
  replace_held d n (leaf i (variables a)) k h = cond_plan (HeldPlan acc) (eqb a d) (old n) (old (leaf i (variables a))) k h
  replace_held d n (one i x t) k h =
      cond_plan (HeldPlan acc) (free (inside x d) t) (new_one x (replace (inside x d) n t)) (old (one i x t)) (replace_held (inside x d) n t k h.1) h
  replace_held d n (two i x t u) k h =
      cond_plan (HeldPlan acc) (free d t || free (beside x d) u) (new_two x (replace d n t) (replace (beside x d) n u)) (old (two i x t u))
      (replace_held d n t k h.1, replace_held (beside x d) n u k h.2) h

  stable : Stable (Held acc) (Held acc) (HeldPlan acc)
  stable = record {
    whole = λ t h. h;
    body = λ i c₁ c₂ t h. h.1;
    inner = λ i x t w h. h.1;
    left = λ i x t u h. h.1;
    right = λ i t u h. h.2;
    scope = λ i t u h. h.2;
    placed = λ n t h k. replace_held 0 n t h k;
    unit_new = λ t h. h;
    one_new = λ i x t p w h q. q;
    two_new = λ i x t u p h q. (q, h.2);
  }

  pub step_held : (m : Meaning) (r : ℕ) (t : Tree) → Held acc t → MetBy (HeldPlan acc) (step m r t)
  step_held m r t h = step_stable (Held acc) (Held acc) (HeldPlan acc) stable m r t h

-- the second is as the first, if the first is a value or a step
abbrev pub Kept : Met → Met → Type 0
Kept ready v = v ≡ ready
Kept (makes p) v = v ≡ makes p
Kept (refused i a r) v = Unit {0}
Kept (misfit i) v = Unit {0}

kept_refl : (o : Met) → Kept o o
kept_refl ready = refl
kept_refl (makes p) = refl
kept_refl (refused i a r) = tt
kept_refl (misfit i) = tt

inward_kept : (o o' : Met) (f : Plan → Plan) (v v' : Met) → Kept o o' → Kept v v' → Kept (inward o f v) (inward o' f v')
inward_kept ready o' f v v' h k = subst (λ (x : Met). Kept v (inward x f v')) (sym h) k
inward_kept (makes p) o' f v v' h k = ap (λ x. inward x f v') h
inward_kept (refused i a r) o' f v v' h k = tt
inward_kept (misfit i) o' f v v' h k = tt

granted_kept : (b c : Bool) (i a r q : ℕ) (t : Tree) → (b ≡ true → c ≡ true) → Kept (granted b i a r t) (granted c i a q t)
granted_kept true c i a r q t h = ap (λ x. granted x i a q t) (h refl)
granted_kept false c i a r q t h = tt

cond_kept : (b : Bool) (o v w : Met) → Kept o o → Kept v w → Kept (cond b o v) (cond b o w)
cond_kept true o v w h k = h
cond_kept false o v w h k = k

under_kept : (i : ℕ) (x y : Option ℕ) (f : ℕ → Met) (P : ℕ → ℕ → Type 0) → ((j : ℕ) → x ≡ Some j → (k : ℕ) × (y ≡ Some k) × P k j) →
    ((j k : ℕ) → P k j → Kept (f j) (f k)) → Kept (under i x f) (under i y f)
under_kept i None y f P h g = tt
under_kept i (Some j) y f P h g = let k = h j refl in subst (λ (z : Option ℕ). Kept (f j) (under i z f)) (sym k.1) (g j k.0 k.2)

module _ (m : Meaning) (L : Lawful m) where
  test_kept : (i : ℕ) (t : Tree) (r q : ℕ) → m.dom q r ≡ true → Kept (test i t m r) (test i t m q)
  test_kept i stray r q d = tt
  test_kept i (leaf j x) r q d = tt
  test_kept i (one j (abstracts c₁ c₂) t) r q d = tt
  test_kept i (one j fixes t) r q d = tt
  test_kept i (one j (guards a) t) r q d = granted_kept (m.dom r a) (m.dom q a) i a r q t (λ h. L.transitive q r a d h)
  test_kept i (one j checks t) r q d = tt
  test_kept i (one j units t) r q d = tt
  test_kept i (one j (raises a) t) r q d = tt
  test_kept i (one j (restricts a) t) r q d = tt
  test_kept i (two j x t u) r q d = tt

  joins : (a r q j : ℕ) → m.dom q r ≡ true → m.join a r ≡ Some j → (k : ℕ) × (m.join a q ≡ Some k) × (m.dom k j ≡ true)
  joins a r q j d h =
      let k = join_there L a q (right_role L (over_left L h)) (left_role L d) in
      (k.0, k.1, over_join L h (over_left L k.1) (across L (over_right L k.1) d))

  meets : (a r q j : ℕ) → m.dom q r ≡ true → m.meet a r ≡ Some j → (k : ℕ) × (m.meet a q ≡ Some k) × (m.dom k j ≡ true)
  meets a r q j d h =
      let k = meet_there L a q (left_role L (under_left L h)) (left_role L d) in
      (k.0, k.1, under_meet L k.1 (under_left L h) (across L d (under_right L h)))

  -- a greater role makes the same step
  pub step_kept : (r q : ℕ) (t : Tree) → m.dom q r ≡ true → Kept (step m r t) (step m q t)
  unfolding step
  step_kept r q stray d = tt
  step_kept r q (leaf i (constants k p)) d = refl
  step_kept r q (leaf i (variables k)) d = tt
  step_kept r q (one i (abstracts c₁ c₂) t) d = refl
  step_kept r q (one i fixes t) d =
      inward_kept (step m r t) (step m q t) (new_one fixes) (call i t (one i fixes t)) (call i t (one i fixes t)) (step_kept r q t d) (kept_refl (call i t (one i fixes t)))
  step_kept r q (one i (guards a) t) d = refl
  step_kept r q (one i checks t) d = inward_kept (step m r t) (step m q t) (new_one checks) (test i t m r) (test i t m q) (step_kept r q t d) (test_kept i t r q d)
  step_kept r q (one i units t) d = refl
  step_kept r q (one i (raises a) t) d =
      let f = λ (j : ℕ). inward (step m j t) (new_one (raises a)) (misfit i) in
      cond_kept (valued t) (makes (old t)) (under i (m.join a r) f) (under i (m.join a q) f) refl
      (under_kept i (m.join a r) (m.join a q) f (λ k j. m.dom k j ≡ true) (λ j h. joins a r q j d h)
      (λ j k e. inward_kept (step m j t) (step m k t) (new_one (raises a)) (misfit i) (misfit i) (step_kept j k t e) tt))
  step_kept r q (one i (restricts a) t) d =
      let f = λ (j : ℕ). inward (step m j t) (new_one (restricts a)) (misfit i) in
      cond_kept (valued t) (makes (old t)) (under i (m.meet a r) f) (under i (m.meet a q) f) refl
      (under_kept i (m.meet a r) (m.meet a q) f (λ k j. m.dom k j ≡ true) (λ j h. meets a r q j d h)
      (λ j k e. inward_kept (step m j t) (step m k t) (new_one (restricts a)) (misfit i) (misfit i) (step_kept j k t e) tt))
  step_kept r q (two i applies t u) d =
      inward_kept (step m r t) (step m q t) (λ p. new_two applies p (old u)) (call i t u) (call i t u) (step_kept r q t d) (kept_refl (call i t u))
  step_kept r q (two i lets t u) d =
      inward_kept (step m r t) (step m q t) (λ p. new_two lets p (old u)) (hand i t u) (hand i t u) (step_kept r q t d) (kept_refl (hand i t u))
