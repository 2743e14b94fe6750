-- What a step keeps, of any sort: if trees have it and their parts do, then so does what a step plans. Assumes nothing.
use Rattle.std.proofs.Common.{ℕ, Bool, true, false, cond, Some, None, Option}
use Rattle.roles.specs.Meaning.{Meaning}
use Rattle.machine.specs.Labelled.{constants, variables, One, abstracts, fixes, guards, checks, units, raises, restricts, Two, applies, lets, Tree, stray, leaf, one, two}
use Rattle.machine.specs.Plans.{Plan, old, new_one, new_two, replace, Met, ready, makes, refused, misfit, valued, call, granted, test, hand, inward, under, step}

-- heads with no binder
abbrev pub Plain : One → Type 0
Plain (abstracts c₁ c₂) = ⊥
Plain fixes = Unit {0}
Plain (guards a) = Unit {0}
Plain checks = Unit {0}
Plain units = Unit {0}
Plain (raises a) = Unit {0}
Plain (restricts a) = Unit {0}

-- P of trees, B of what stands under one binder, Q of plans
pub record Stable (P B : Tree → Type 0) (Q : Plan → Type 0) : Type 0 where
  pub whole : (t : Tree) → P t → Q (old t)
  pub body : (i c₁ c₂ : ℕ) (t : Tree) → P (one i (abstracts c₁ c₂) t) → B t
  pub inner : (i : ℕ) (h : One) (t : Tree) → Plain h → P (one i h t) → P t
  pub left : (i : ℕ) (h : Two) (t u : Tree) → P (two i h t u) → P t
  pub right : (i : ℕ) (t u : Tree) → P (two i applies t u) → P u
  pub scope : (i : ℕ) (t u : Tree) → P (two i lets t u) → B u
  pub placed : (n t : Tree) → P n → B t → Q (replace 0 n t)
  pub unit_new : (t : Tree) → P t → Q (new_one units (old t))
  pub one_new : (i : ℕ) (h : One) (t : Tree) (p : Plan) → Plain h → P (one i h t) → Q p → Q (new_one h p)
  pub two_new : (i : ℕ) (h : Two) (t u : Tree) (p : Plan) → P (two i h t u) → Q p → Q (new_two h p (old u))

abbrev pub MetBy : (Plan → Type 0) → Met → Type 0
MetBy Q ready = Unit {0}
MetBy Q (makes p) = Q p
MetBy Q (refused i a r) = Unit {0}
MetBy Q (misfit i) = Unit {0}

module _ (P B : Tree → Type 0) (Q : Plan → Type 0) (S : Stable P B Q) where
  call_stable : (i : ℕ) (t n : Tree) → P t → P n → MetBy Q (call i t n)
  call_stable i stray n h k = tt
  call_stable i (leaf j x) n h k = tt
  call_stable i (one j (abstracts c₁ c₂) t) n h k = S.placed n t k (S.body j c₁ c₂ t h)
  call_stable i (one j fixes t) n h k = tt
  call_stable i (one j (guards a) t) n h k = tt
  call_stable i (one j checks t) n h k = tt
  call_stable i (one j units t) n h k = tt
  call_stable i (one j (raises a) t) n h k = tt
  call_stable i (one j (restricts a) t) n h k = tt
  call_stable i (two j x t u) n h k = tt

  granted_stable : (b : Bool) (i a r : ℕ) (t : Tree) → P t → MetBy Q (granted b i a r t)
  granted_stable true i a r t h = S.unit_new t h
  granted_stable false i a r t h = tt

  test_stable : (i : ℕ) (t : Tree) (m : Meaning) (r : ℕ) → P t → MetBy Q (test i t m r)
  test_stable i stray m r h = tt
  test_stable i (leaf j x) m r h = tt
  test_stable i (one j (abstracts c₁ c₂) t) m r h = tt
  test_stable i (one j fixes t) m r h = tt
  test_stable i (one j (guards a) t) m r h = granted_stable (m.dom r a) i a r t (S.inner j (guards a) t tt h)
  test_stable i (one j checks t) m r h = tt
  test_stable i (one j units t) m r h = tt
  test_stable i (one j (raises a) t) m r h = tt
  test_stable i (one j (restricts a) t) m r h = tt
  test_stable i (two j x t u) m r h = tt

  hand_stable : (i : ℕ) (t u : Tree) → P t → B u → MetBy Q (hand i t u)
  hand_stable i stray w h k = tt
  hand_stable i (leaf j x) w h k = tt
  hand_stable i (one j (abstracts c₁ c₂) t) w h k = tt
  hand_stable i (one j fixes t) w h k = tt
  hand_stable i (one j (guards a) t) w h k = tt
  hand_stable i (one j checks t) w h k = tt
  hand_stable i (one j units t) w h k = S.placed t w (S.inner j units t tt h) k
  hand_stable i (one j (raises a) t) w h k = tt
  hand_stable i (one j (restricts a) t) w h k = tt
  hand_stable i (two j x t u) w h k = tt

  inward_stable : (o : Met) (f : Plan → Plan) (v : Met) → ((p : Plan) → Q p → Q (f p)) → MetBy Q o → MetBy Q v → MetBy Q (inward o f v)
  inward_stable ready f v g h k = k
  inward_stable (makes p) f v g h k = g p h
  inward_stable (refused i a r) f v g h k = tt
  inward_stable (misfit i) f v g h k = tt

  under_stable : (i : ℕ) (x : Option ℕ) (f : ℕ → Met) → ((j : ℕ) → MetBy Q (f j)) → MetBy Q (under i x f)
  under_stable i None f h = tt
  under_stable i (Some j) f h = h j

  cond_stable : (b : Bool) (o v : Met) → MetBy Q o → MetBy Q v → MetBy Q (cond b o v)
  cond_stable true o v h k = h
  cond_stable false o v h k = k

  pub step_stable : (m : Meaning) (r : ℕ) (t : Tree) → P t → MetBy Q (step m r t)
  unfolding step
  step_stable m r stray h = tt
  step_stable m r (leaf i (constants k p)) h = tt
  step_stable m r (leaf i (variables k)) h = tt
  step_stable m r (one i (abstracts c₁ c₂) t) h = tt
  step_stable m r (one i fixes t) h =
      let k = S.inner i fixes t tt h in
      inward_stable (step m r t) (new_one fixes) (call i t (one i fixes t)) (λ p q. S.one_new i fixes t p tt h q) (step_stable m r t k) (call_stable i t (one i fixes t) k h)
  step_stable m r (one i (guards a) t) h = tt
  step_stable m r (one i checks t) h =
      let k = S.inner i checks t tt h in
      inward_stable (step m r t) (new_one checks) (test i t m r) (λ p q. S.one_new i checks t p tt h q) (step_stable m r t k) (test_stable i t m r k)
  step_stable m r (one i units t) h = tt
  step_stable m r (one i (raises a) t) h =
      let k = S.inner i (raises a) t tt h in
      let f = λ (j : ℕ). inward (step m j t) (new_one (raises a)) (misfit i) in
      cond_stable (valued t) (makes (old t)) (under i (m.join a r) f) (S.whole t k)
      (under_stable i (m.join a r) f (λ j. inward_stable (step m j t) (new_one (raises a)) (misfit i) (λ p q. S.one_new i (raises a) t p tt h q) (step_stable m j t k) tt))
  step_stable m r (one i (restricts a) t) h =
      let k = S.inner i (restricts a) t tt h in
      let f = λ (j : ℕ). inward (step m j t) (new_one (restricts a)) (misfit i) in
      cond_stable (valued t) (makes (old t)) (under i (m.meet a r) f) (S.whole t k)
      (under_stable i (m.meet a r) f (λ j. inward_stable (step m j t) (new_one (restricts a)) (misfit i) (λ p q. S.one_new i (restricts a) t p tt h q) (step_stable m j t k) tt))
  step_stable m r (two i applies t u) h =
      let k = S.left i applies t u h in
      inward_stable (step m r t) (λ p. new_two applies p (old u)) (call i t u) (λ p q. S.two_new i applies t u p h q) (step_stable m r t k) (call_stable i t u k (S.right i t u h))
  step_stable m r (two i lets t u) h =
      let k = S.left i lets t u h in
      inward_stable (step m r t) (λ p. new_two lets p (old u)) (hand i t u) (λ p q. S.two_new i lets t u p h q) (step_stable m r t k) (hand_stable i t u k (S.scope i t u h))
