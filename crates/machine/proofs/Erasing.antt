-- Replacing is the calculus's substitution, and what a step meets is what `next` tells. Assumes nothing.
use Rattle.std.proofs.Common.{◌≡◌, ℕ, Bool, true, false, cond, ◌||◌, eqb, Some, None, Option, sym, refl, ap, ◌∙◌, true≢false, arith}
use Rattle.roles.specs.Meaning.{Meaning}
use Rattle.calculus.specs.Syntax.{Ty, Term, variable, application, fix, check, let_in, raise, restrict}
use Rattle.calculus.specs.Substitution.{substitute}
use Rattle.calculus.specs.Steps.{Value, constant_value, abstraction_value, guard_value, unit_value}
use Rattle.calculus.specs.Next as calculus
use Rattle.calculus.specs.Next.{Outcome, value, goes_to, role_fault, shape_fault, as_value, by_operand, act_application, act_fix, opened, act_check, act_let, next}
use Rattle.calculus.proofs.Outcomes.{next_decides_lem}
use Rattle.machine.specs.Labelled.{constants, variables, One, abstracts, fixes, guards, checks, units, raises, restricts, Two, applies, lets, Tree, stray, leaf, one, two, inside, beside, erase, erase_one, erase_two}
use Rattle.machine.specs.Plans.{Plan, old, new_one, new_two, free, replace, Met, ready, makes, refused, misfit, valued, call, granted, test, hand, inward, under, step}
use Rattle.machine.proofs.Growing.{meant}

put_one : (claim : ℕ → Ty) (d : ℕ) (n : Term) (h : One) (e : Term) → substitute d n (erase_one claim h e) ≡ erase_one claim h (substitute (inside h d) n e)
put_one claim d n (abstracts c₁ c₂) e = refl
put_one claim d n fixes e = refl
put_one claim d n (guards a) e = refl
put_one claim d n checks e = refl
put_one claim d n units e = refl
put_one claim d n (raises a) e = refl
put_one claim d n (restricts a) e = refl

put_two : (d : ℕ) (n : Term) (h : Two) (e u : Term) → substitute d n (erase_two h e u) ≡ erase_two h (substitute d n e) (substitute (beside h d) n u)
put_two d n applies e u = refl
put_two d n lets e u = refl

pub or_neither : (a b : Bool) → (a || b) ≡ false → (a ≡ false) × (b ≡ false)
or_neither true b h = absurd (true≢false h)
or_neither false b h = (refl, h)

-- where the variable is not free, nothing is put
put_unfree : (claim : ℕ → Ty) (d : ℕ) (n : Term) (t : Tree) → free d t ≡ false → substitute d n (erase claim t) ≡ erase claim t
put_unfree claim d n stray h = refl
put_unfree claim d n (leaf i (constants k p)) h = refl
put_unfree claim d n (leaf i (variables k)) h = ap (λ b. cond b n (variable k)) h
put_unfree claim d n (one i x t) h = put_one claim d n x (erase claim t) ∙ ap (erase_one claim x) (put_unfree claim (inside x d) n t h)
put_unfree claim d n (two i x t u) h =
    let b = or_neither (free d t) (free (beside x d) u) h in
    put_two d n x (erase claim t) (erase claim u)
    ∙ ap (λ e. erase_two x e (substitute (beside x d) n (erase claim u))) (put_unfree claim d n t b.0)
    ∙ ap (erase_two x (erase claim t)) (put_unfree claim (beside x d) n u b.1)

cond_old : (claim : ℕ → Ty) (b : Bool) (p q : Plan) (e : Term) → (b ≡ true → meant claim p ≡ e) → (b ≡ false → meant claim q ≡ e) → meant claim (cond b p q) ≡ e
cond_old claim true p q e h k = h refl
cond_old claim false p q e h k = k refl

-- erasing a replaced tree is the substitution
pub replace_put : (claim : ℕ → Ty) (d : ℕ) (n t : Tree) → meant claim (replace d n t) ≡ substitute d (erase claim n) (erase claim t)
replace_put claim d n stray = refl
replace_put claim d n (leaf i (constants k p)) = refl
replace_put claim d n (leaf i (variables k)) =
    cond_old claim (eqb k d) (old n) (old (leaf i (variables k))) (substitute d (erase claim n) (variable k))
    (λ h. sym (ap (λ b. cond b (erase claim n) (variable k)) h))
    (λ h. sym (ap (λ b. cond b (erase claim n) (variable k)) h))
replace_put claim d n (one i x t) =
    let whole = substitute d (erase claim n) (erase claim (one i x t)) in
    cond_old claim (free (inside x d) t) (new_one x (replace (inside x d) n t)) (old (one i x t)) whole
    (λ h. ap (erase_one claim x) (replace_put claim (inside x d) n t) ∙ sym (put_one claim d (erase claim n) x (erase claim t)))
    (λ h. sym (put_unfree claim d (erase claim n) (one i x t) h))
replace_put claim d n (two i x t u) =
    let whole = substitute d (erase claim n) (erase claim (two i x t u)) in
    cond_old claim (free d t || free (beside x d) u) (new_two x (replace d n t) (replace (beside x d) n u)) (old (two i x t u)) whole
    (λ h. ap (λ e. erase_two x e (meant claim (replace (beside x d) n u))) (replace_put claim d n t)
    ∙ ap (erase_two x (substitute d (erase claim n) (erase claim t))) (replace_put claim (beside x d) n u)
    ∙ sym (put_two d (erase claim n) x (erase claim t) (erase claim u)))
    (λ h. sym (put_unfree claim d (erase claim n) (two i x t u) h))

-- what the calculus says of what the machine meets
abbrev pub said : (ℕ → Ty) → Met → Outcome
said claim ready = value
said claim (makes p) = goes_to (meant claim p)
said claim (refused i a r) = role_fault
said claim (misfit i) = shape_fault

-- what each form does with a value
call_said : (claim : ℕ → Ty) (i : ℕ) (t n : Tree) (w : Value (erase claim t)) → said claim (call i t n) ≡ act_application (erase claim n) w
call_said claim i stray n w = elim w [ ]
call_said claim i (leaf j (constants k p)) n constant_value = refl
call_said claim i (leaf j (variables k)) n w = elim w [ ]
call_said claim i (one j (abstracts c₁ c₂) t) n abstraction_value = ap goes_to (replace_put claim 0 n t)
call_said claim i (one j fixes t) n w = elim w [ ]
call_said claim i (one j (guards a) t) n guard_value = refl
call_said claim i (one j checks t) n w = elim w [ ]
call_said claim i (one j units t) n unit_value = refl
call_said claim i (one j (raises a) t) n w = elim w [ ]
call_said claim i (one j (restricts a) t) n w = elim w [ ]
call_said claim i (two j applies t u) n w = elim w [ ]
call_said claim i (two j lets t u) n w = elim w [ ]

unroll_said : (claim : ℕ → Ty) (i : ℕ) (t : Tree) (w : Value (erase claim t)) → said claim (call i t (one i fixes t)) ≡ act_fix w
unroll_said claim i stray w = elim w [ ]
unroll_said claim i (leaf j (constants k p)) constant_value = refl
unroll_said claim i (leaf j (variables k)) w = elim w [ ]
unroll_said claim i (one j (abstracts c₁ c₂) t) abstraction_value = ap goes_to (replace_put claim 0 (one i fixes (one j (abstracts c₁ c₂) t)) t)
unroll_said claim i (one j fixes t) w = elim w [ ]
unroll_said claim i (one j (guards a) t) guard_value = refl
unroll_said claim i (one j checks t) w = elim w [ ]
unroll_said claim i (one j units t) unit_value = refl
unroll_said claim i (one j (raises a) t) w = elim w [ ]
unroll_said claim i (one j (restricts a) t) w = elim w [ ]
unroll_said claim i (two j applies t u) w = elim w [ ]
unroll_said claim i (two j lets t u) w = elim w [ ]

granted_said : (claim : ℕ → Ty) (b : Bool) (i a r : ℕ) (t : Tree) → said claim (granted b i a r t) ≡ opened b (erase claim t)
granted_said claim true i a r t = refl
granted_said claim false i a r t = refl

test_said : (claim : ℕ → Ty) (i : ℕ) (t : Tree) (m : Meaning) (r : ℕ) (w : Value (erase claim t)) → said claim (test i t m r) ≡ act_check m r w
test_said claim i stray m r w = elim w [ ]
test_said claim i (leaf j (constants k p)) m r constant_value = refl
test_said claim i (leaf j (variables k)) m r w = elim w [ ]
test_said claim i (one j (abstracts c₁ c₂) t) m r abstraction_value = refl
test_said claim i (one j fixes t) m r w = elim w [ ]
test_said claim i (one j (guards a) t) m r guard_value = granted_said claim (m.dom r a) i a r t
test_said claim i (one j checks t) m r w = elim w [ ]
test_said claim i (one j units t) m r unit_value = refl
test_said claim i (one j (raises a) t) m r w = elim w [ ]
test_said claim i (one j (restricts a) t) m r w = elim w [ ]
test_said claim i (two j applies t u) m r w = elim w [ ]
test_said claim i (two j lets t u) m r w = elim w [ ]

hand_said : (claim : ℕ → Ty) (i : ℕ) (t u : Tree) (w : Value (erase claim t)) → said claim (hand i t u) ≡ act_let (erase claim u) w
hand_said claim i stray v w = elim w [ ]
hand_said claim i (leaf j (constants k p)) v constant_value = refl
hand_said claim i (leaf j (variables k)) v w = elim w [ ]
hand_said claim i (one j (abstracts c₁ c₂) t) v abstraction_value = refl
hand_said claim i (one j fixes t) v w = elim w [ ]
hand_said claim i (one j (guards a) t) v guard_value = refl
hand_said claim i (one j checks t) v w = elim w [ ]
hand_said claim i (one j units t) v unit_value = ap goes_to (replace_put claim 0 t v)
hand_said claim i (one j (raises a) t) v w = elim w [ ]
hand_said claim i (one j (restricts a) t) v w = elim w [ ]
hand_said claim i (two j applies t u) v w = elim w [ ]
hand_said claim i (two j lets t u) v w = elim w [ ]

value_there : {e : Term} → Value e → as_value e ≡ None → ⊥
value_there constant_value h = let z : ◌≡◌ {A = ℕ} 0 1 = cc in omega arith
value_there abstraction_value h = let z : ◌≡◌ {A = ℕ} 0 1 = cc in omega arith
value_there guard_value h = let z : ◌≡◌ {A = ℕ} 0 1 = cc in omega arith
value_there unit_value h = let z : ◌≡◌ {A = ℕ} 0 1 = cc in omega arith

only_ready : (claim : ℕ → Ty) (o : Met) (f : Plan → Plan) (v : Met) → said claim o ≡ value → said claim (inward o f v) ≡ said claim v
only_ready claim ready f v h = refl
only_ready claim (makes p) f v h = absurd (let z : ◌≡◌ {A = ℕ} 0 1 = cc in omega arith)
only_ready claim (refused i a r) f v h = absurd (let z : ◌≡◌ {A = ℕ} 0 1 = cc in omega arith)
only_ready claim (misfit i) f v h = absurd (let z : ◌≡◌ {A = ℕ} 0 1 = cc in omega arith)

-- what the operand comes to, where it is no value
inside_said : (claim : ℕ → Ty) (o : Met) (f : Plan → Plan) (v : Met) (g : Term → Term) (x : Outcome) → ((p : Plan) → meant claim (f p) ≡ g (meant claim p)) →
    (x ≡ value → said claim v ≡ shape_fault) → said claim o ≡ x → said claim (inward o f v) ≡ calculus.inside x g
inside_said claim ready f v g x k e h = e (sym h) ∙ ap (λ z. calculus.inside z g) h
inside_said claim (makes p) f v g x k e h = ap goes_to (k p) ∙ ap (λ z. calculus.inside z g) h
inside_said claim (refused i a r) f v g x k e h = ap (λ z. calculus.inside z g) h
inside_said claim (misfit i) f v g x k e h = ap (λ z. calculus.inside z g) h

module _ (claim : ℕ → Ty) (m : Meaning) where
  inward_said : (r : ℕ) (e : Term) (o : Met) (f : Plan → Plan) (v : Met) (g : Term → Term) (act : Value e → Outcome) → ((p : Plan) → meant claim (f p) ≡ g (meant claim p)) →
      ((w : Value e) → said claim v ≡ act w) → said claim o ≡ next m r e → said claim (inward o f v) ≡ by_operand (as_value e) act (calculus.inside (next m r e) g)
  inward_said r e o f v g act k acts h = go (as_value e) refl
    where
      go : (x : Option (Value e)) → as_value e ≡ x → said claim (inward o f v) ≡ by_operand x act (calculus.inside (next m r e) g)
      go (Some w) q = only_ready claim o f v (h ∙ (next_decides_lem m r e value).1 w) ∙ acts w
      go None q = inside_said claim o f v g (next m r e) k (λ n. absurd (value_there ((next_decides_lem m r e value).0 n) q)) h

  valued_said : (t : Tree) (x y : Met) (act z : Outcome) → said claim x ≡ act → said claim y ≡ z → said claim (cond (valued t) x y) ≡ by_operand (as_value (erase claim t)) (λ w. act) z
  valued_said stray x y act z h k = k
  valued_said (leaf i (constants a p)) x y act z h k = h
  valued_said (leaf i (variables a)) x y act z h k = k
  valued_said (one i (abstracts c₁ c₂) t) x y act z h k = h
  valued_said (one i fixes t) x y act z h k = k
  valued_said (one i (guards a) t) x y act z h k = h
  valued_said (one i checks t) x y act z h k = k
  valued_said (one i units t) x y act z h k = h
  valued_said (one i (raises a) t) x y act z h k = k
  valued_said (one i (restricts a) t) x y act z h k = k
  valued_said (two i applies t u) x y act z h k = k
  valued_said (two i lets t u) x y act z h k = k

  under_said : (i : ℕ) (o : Option ℕ) (f : ℕ → Met) (g : ℕ → Outcome) → ((j : ℕ) → said claim (f j) ≡ g j) → said claim (under i o f) ≡ calculus.under o g
  under_said i None f g h = refl
  under_said i (Some j) f g h = h j

  -- the step on numbered trees is the calculus's
  pub step_said : (r : ℕ) (t : Tree) → said claim (step m r t) ≡ next m r (erase claim t)
  unfolding step next
  step_said r stray = refl
  step_said r (leaf i (constants k p)) = refl
  step_said r (leaf i (variables k)) = refl
  step_said r (one i (abstracts c₁ c₂) t) = refl
  step_said r (one i fixes t) = inward_said r (erase claim t) (step m r t) (new_one fixes) (call i t (one i fixes t)) fix act_fix (λ p. refl) (unroll_said claim i t) (step_said r t)
  step_said r (one i (guards a) t) = refl
  step_said r (one i checks t) = inward_said r (erase claim t) (step m r t) (new_one checks) (test i t m r) check (act_check m r) (λ p. refl) (test_said claim i t m r) (step_said r t)
  step_said r (one i units t) = refl
  step_said r (one i (raises a) t) =
      valued_said t (makes (old t)) (under i (m.join a r) (λ j. inward (step m j t) (new_one (raises a)) (misfit i)))
      (goes_to (erase claim t)) (calculus.under (m.join a r) (λ j. calculus.inside (next m j (erase claim t)) (raise a))) refl
      (under_said i (m.join a r) (λ j. inward (step m j t) (new_one (raises a)) (misfit i)) (λ j. calculus.inside (next m j (erase claim t)) (raise a))
      (λ j. inside_said claim (step m j t) (new_one (raises a)) (misfit i) (raise a) (next m j (erase claim t)) (λ p. refl) (λ n. refl) (step_said j t)))
  step_said r (one i (restricts a) t) =
      valued_said t (makes (old t)) (under i (m.meet a r) (λ j. inward (step m j t) (new_one (restricts a)) (misfit i)))
      (goes_to (erase claim t)) (calculus.under (m.meet a r) (λ j. calculus.inside (next m j (erase claim t)) (restrict a))) refl
      (under_said i (m.meet a r) (λ j. inward (step m j t) (new_one (restricts a)) (misfit i)) (λ j. calculus.inside (next m j (erase claim t)) (restrict a))
      (λ j. inside_said claim (step m j t) (new_one (restricts a)) (misfit i) (restrict a) (next m j (erase claim t)) (λ p. refl) (λ n. refl) (step_said j t)))
  step_said r (two i applies t u) =
      inward_said r (erase claim t) (step m r t) (λ p. new_two applies p (old u)) (call i t u) (λ y. application y (erase claim u)) (act_application (erase claim u)) (λ p. refl) (λ w. call_said claim i t u w) (step_said r t)
  step_said r (two i lets t u) =
      inward_said r (erase claim t) (step m r t) (λ p. new_two lets p (old u)) (hand i t u) (λ y. let_in y (erase claim u)) (act_let (erase claim u)) (λ p. refl) (λ w. hand_said claim i t u w) (step_said r t)
