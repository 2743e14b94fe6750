-- Each term has one outcome, and `next` finds it. Assumes nothing.
use Rattle.std.proofs.Common.{◌≡◌, ℕ, suc, Bool, true, false, Some, None, Option, refl, ap, ◌∙◌, subst}
use mathlib.Core.Bool.{false≢true}
use Rattle.roles.specs.Meaning.{Meaning}
use Rattle.calculus.specs.Syntax.{Term, constant, variable, abstraction, application, fix, guard, check, unit, let_in, raise, restrict}
use Rattle.calculus.specs.Steps.{Value, constant_value, abstraction_value, guard_value, unit_value, Step, apply, unroll, pass, hand_over, leave_raise, leave_restrict, in_application, in_fix, in_check, in_let, in_raise, in_restrict, IsRoleFault, refused, fault_in_application, fault_in_fix, fault_in_check, fault_in_let, fault_in_raise, fault_in_restrict, IsShapeFault, Reaches, here, onward, Steps, no_step, one_more}
use Rattle.calculus.specs.Next.{Outcome, value, goes_to, role_fault, shape_fault, Says, as_value, by_operand, inside, under, act_application, act_fix, opened, act_check, act_let, next}
use Rattle.calculus.specs.Theorems.{OutcomeUnique, NextDecides, StepsCounted}

module _ (m : Meaning) where
  value_rests : {r : ℕ} {e e' : Term} → Value e → Step m r e e' → ⊥
  value_rests constant_value s = elim s [ ]
  value_rests abstraction_value s = elim s [ ]
  value_rests guard_value s = elim s [ ]
  value_rests unit_value s = elim s [ ]

  value_faultless : {r : ℕ} {e : Term} → Value e → IsRoleFault m r e → ⊥
  value_faultless constant_value s = elim s [ ]
  value_faultless abstraction_value s = elim s [ ]
  value_faultless guard_value s = elim s [ ]
  value_faultless unit_value s = elim s [ ]

  -- a form acts on a value, and else does what its operand does inside
  at_value : {e : Term} (v : Value e) (act : Value e → Outcome) (o : Outcome) → by_operand (as_value e) act o ≡ act v
  at_value constant_value act o = refl
  at_value abstraction_value act o = refl
  at_value guard_value act o = refl
  at_value unit_value act o = refl

  at_none : {e : Term} {o p : Outcome} (act : Value e → Outcome) → (Value e → ⊥) → o ≡ p → by_operand (as_value e) act o ≡ p
  at_none {e} {o} {p} act f h = go (as_value e)
    where
      go : (x : Option (Value e)) → by_operand x act o ≡ p
      go None = h
      go (Some v) = absurd (f v)

  under_at : {x : Option ℕ} {j : ℕ} (f : ℕ → Outcome) → x ≡ Some j → under x f ≡ f j
  under_at f p = ap (λ y. under y f) p

  -- `next` finds what the rules say
  next_value : (r : ℕ) {e : Term} → Value e → next m r e ≡ value
  unfolding next
  next_value r constant_value = refl
  next_value r abstraction_value = refl
  next_value r guard_value = refl
  next_value r unit_value = refl

  next_step : {r : ℕ} {e e' : Term} → Step m r e e' → next m r e ≡ goes_to e'
  unfolding next
  next_step apply = refl
  next_step unroll = refl
  next_step (pass {e = e} h) = ap (λ b. opened b e) h
  next_step hand_over = refl
  next_step (leave_raise {v = e} v) = at_value v (λ v. goes_to e) _
  next_step (leave_restrict {v = e} v) = at_value v (λ v. goes_to e) _
  next_step (in_application {x = x} s) = at_none (act_application x) (λ v. value_rests v s) (ap (λ o. inside o (λ y. application y x)) (next_step s))
  next_step (in_fix s) = at_none act_fix (λ v. value_rests v s) (ap (λ o. inside o fix) (next_step s))
  next_step (in_check {r} s) = at_none (act_check m r) (λ v. value_rests v s) (ap (λ o. inside o check) (next_step s))
  next_step (in_let {u = u} s) = at_none (act_let u) (λ v. value_rests v s) (ap (λ o. inside o (λ y. let_in y u)) (next_step s))
  next_step (in_raise {a = a} {e = e} p s) = at_none (λ v. goes_to e) (λ v. value_rests v s) (under_at (λ j. inside (next m j e) (raise a)) p ∙ ap (λ o. inside o (raise a)) (next_step s))
  next_step (in_restrict {a = a} {e = e} p s) = at_none (λ v. goes_to e) (λ v. value_rests v s) (under_at (λ j. inside (next m j e) (restrict a)) p ∙ ap (λ o. inside o (restrict a)) (next_step s))

  next_fault : {r : ℕ} {e : Term} → IsRoleFault m r e → next m r e ≡ role_fault
  unfolding next
  next_fault (refused {e = e} h) = ap (λ b. opened b e) h
  next_fault (fault_in_application {x = x} s) = at_none (act_application x) (λ v. value_faultless v s) (ap (λ o. inside o (λ y. application y x)) (next_fault s))
  next_fault (fault_in_fix s) = at_none act_fix (λ v. value_faultless v s) (ap (λ o. inside o fix) (next_fault s))
  next_fault (fault_in_check {r} s) = at_none (act_check m r) (λ v. value_faultless v s) (ap (λ o. inside o check) (next_fault s))
  next_fault (fault_in_let {u = u} s) = at_none (act_let u) (λ v. value_faultless v s) (ap (λ o. inside o (λ y. let_in y u)) (next_fault s))
  next_fault (fault_in_raise {a = a} {e = e} p s) = at_none (λ v. goes_to e) (λ v. value_faultless v s) (under_at (λ j. inside (next m j e) (raise a)) p ∙ ap (λ o. inside o (raise a)) (next_fault s))
  next_fault (fault_in_restrict {a = a} {e = e} p s) = at_none (λ v. goes_to e) (λ v. value_faultless v s) (under_at (λ j. inside (next m j e) (restrict a)) p ∙ ap (λ o. inside o (restrict a)) (next_fault s))

  -- what an outcome says of a term, of a shape fault nothing yet
  abbrev Shows : ℕ → Term → Outcome → Type 0
  Shows r e value = Value e
  Shows r e (goes_to e') = Step m r e e'
  Shows r e role_fault = IsRoleFault m r e
  Shows r e shape_fault = Unit {0}

  application_shows : (r : ℕ) (x : Term) {f : Term} (v : Value f) → Shows r (application f x) (act_application x v)
  application_shows r x constant_value = tt
  application_shows r x abstraction_value = apply
  application_shows r x guard_value = tt
  application_shows r x unit_value = tt

  fix_shows : (r : ℕ) {f : Term} (v : Value f) → Shows r (fix f) (act_fix v)
  fix_shows r constant_value = tt
  fix_shows r abstraction_value = unroll
  fix_shows r guard_value = tt
  fix_shows r unit_value = tt

  opened_shows : (r b : ℕ) (e : Term) (d : Bool) → m.dom r b ≡ d → Shows r (check (guard b e)) (opened d e)
  opened_shows r b e true h = pass h
  opened_shows r b e false h = refused h

  check_shows : (r : ℕ) {e : Term} (v : Value e) → Shows r (check e) (act_check m r v)
  check_shows r constant_value = tt
  check_shows r abstraction_value = tt
  check_shows r (guard_value {a} {e}) = opened_shows r a e (m.dom r a) refl
  check_shows r unit_value = tt

  let_shows : (r : ℕ) (u : Term) {e : Term} (v : Value e) → Shows r (let_in e u) (act_let u v)
  let_shows r u constant_value = tt
  let_shows r u abstraction_value = tt
  let_shows r u guard_value = tt
  let_shows r u unit_value = hand_over

  operand_shows : (r : ℕ) (w : Term) {e : Term} (x : Option (Value e)) (act : Value e → Outcome) (o : Outcome) → ((v : Value e) → Shows r w (act v)) → Shows r w o → Shows r w (by_operand x act o)
  operand_shows r w None act o h k = k
  operand_shows r w (Some v) act o h k = h v

  inside_shows : (r j : ℕ) (w e : Term) (o : Outcome) (f : Term → Term) → ((e' : Term) → Step m j e e' → Step m r w (f e')) → (IsRoleFault m j e → IsRoleFault m r w) → Shows j e o → Shows r w (inside o f)
  inside_shows r j w e value f s k h = tt
  inside_shows r j w e (goes_to e') f s k h = s e' h
  inside_shows r j w e role_fault f s k h = k h
  inside_shows r j w e shape_fault f s k h = tt

  under_shows : (r : ℕ) (w : Term) (x : Option ℕ) (f : ℕ → Outcome) → ((j : ℕ) → x ≡ Some j → Shows r w (f j)) → Shows r w (under x f)
  under_shows r w None f h = tt
  under_shows r w (Some j) f h = h j refl

  next_shows : (r : ℕ) (e : Term) → Shows r e (next m r e)
  unfolding next
  next_shows r (constant k p) = constant_value
  next_shows r (variable i) = tt
  next_shows r (abstraction t u e) = abstraction_value
  next_shows r (application f x) =
      operand_shows r (application f x) (as_value f) (act_application x) _ (application_shows r x)
      (inside_shows r r (application f x) f (next m r f) (λ y. application y x) (λ y s. in_application s) fault_in_application (next_shows r f))
  next_shows r (fix f) =
      operand_shows r (fix f) (as_value f) act_fix _ (fix_shows r)
      (inside_shows r r (fix f) f (next m r f) fix (λ y s. in_fix s) fault_in_fix (next_shows r f))
  next_shows r (guard a e) = guard_value
  next_shows r (check e) =
      operand_shows r (check e) (as_value e) (act_check m r) _ (check_shows r)
      (inside_shows r r (check e) e (next m r e) check (λ y s. in_check s) fault_in_check (next_shows r e))
  next_shows r (unit e) = unit_value
  next_shows r (let_in e u) =
      operand_shows r (let_in e u) (as_value e) (act_let u) _ (let_shows r u)
      (inside_shows r r (let_in e u) e (next m r e) (λ y. let_in y u) (λ y s. in_let s) fault_in_let (next_shows r e))
  next_shows r (raise a e) =
      operand_shows r (raise a e) (as_value e) (λ v. goes_to e) _ leave_raise
      (under_shows r (raise a e) (m.join a r) (λ j. inside (next m j e) (raise a))
      (λ j p. inside_shows r j (raise a e) e (next m j e) (raise a) (λ y s. in_raise p s) (fault_in_raise p) (next_shows j e)))
  next_shows r (restrict a e) =
      operand_shows r (restrict a e) (as_value e) (λ v. goes_to e) _ leave_restrict
      (under_shows r (restrict a e) (m.meet a r) (λ j. inside (next m j e) (restrict a))
      (λ j p. inside_shows r j (restrict a e) e (next m j e) (restrict a) (λ y s. in_restrict p s) (fault_in_restrict p) (next_shows j e)))

  -- a shape fault is what shows as nothing else
  shape_fault_left : {r : ℕ} {e : Term} (o : Outcome) → Shows r e o → IsShapeFault m r e → o ≡ shape_fault
  shape_fault_left value h f = absurd (f.0 h)
  shape_fault_left (goes_to e') h f = absurd (f.1 (e', h))
  shape_fault_left role_fault h f = absurd (f.2 h)
  shape_fault_left shape_fault h f = refl

  next_shape : {r : ℕ} {e : Term} → next m r e ≡ shape_fault → IsShapeFault m r e
  next_shape {r} {e} h = (
    (λ v. let p = next_value r v in let z : ◌≡◌ {A = Bool} false true = cc in false≢true z),
    (λ s. let p = next_step s.1 in let z : ◌≡◌ {A = Bool} false true = cc in false≢true z),
    (λ f. let p = next_fault f in let z : ◌≡◌ {A = Bool} false true = cc in false≢true z),
  )

  says_next : (r : ℕ) (e : Term) (o : Outcome) → Says m r e o → next m r e ≡ o
  says_next r e value h = next_value r h
  says_next r e (goes_to e') h = next_step h
  says_next r e role_fault h = next_fault h
  says_next r e shape_fault h = shape_fault_left (next m r e) (next_shows r e) h

  next_says : (r : ℕ) (e : Term) (o : Outcome) → next m r e ≡ o → Says m r e o
  next_says r e value h = subst (Shows r e) h (next_shows r e)
  next_says r e (goes_to e') h = subst (Shows r e) h (next_shows r e)
  next_says r e role_fault h = subst (Shows r e) h (next_shows r e)
  next_says r e shape_fault h = next_shape h

pub next_decides_lem : NextDecides
next_decides_lem m r e o = (next_says m r e o, says_next m r e o)

pub outcome_unique_lem : OutcomeUnique
outcome_unique_lem m r e = (next m r e, next_says m r e (next m r e) refl, says_next m r e)

module _ {m : Meaning} {r : ℕ} where
  pub step_one : {e e₁ e₂ : Term} → Step m r e e₁ → Step m r e e₂ → e₁ ≡ e₂
  step_one h k = let p = next_step m h in let q = next_step m k in cc

  counted : {e e' : Term} → Reaches m r e e' → (n : ℕ) × Steps m r n e e'
  counted here = (0, no_step)
  counted (onward s k) = let i = counted k in (suc i.0, one_more s i.1)

  uncounted : {n : ℕ} {e e' : Term} → Steps m r n e e' → Reaches m r e e'
  uncounted no_step = here
  uncounted (one_more s k) = onward s (uncounted k)

  steps_one : {n : ℕ} {e e₁ e₂ : Term} → Steps m r n e e₁ → Steps m r n e e₂ → e₁ ≡ e₂
  steps_one no_step no_step = refl
  steps_one {n = suc n} {e₁ = e₁} {e₂ = e₂} (one_more h k) (one_more h' k') =
      steps_one k (subst (λ (x : Term). Steps m r n x e₂) (step_one h' h) k')

pub steps_counted_lem : StepsCounted
steps_counted_lem m r e e' = ((counted, λ i. uncounted i.1), λ n e'' h k. steps_one h k)
