-- Closed terms stay closed, and only closed terms are put in. Assumes nothing.
use Rattle.std.proofs.Common.{◌≡◌, ℕ, zero, suc, ◌<◌, ◌≤◌, true, eqb, List, [], ◌∷◌, length, Some, refl, subst, suc-le-suc, zero-le, arith}
use Rattle.std.proofs.lemmas.Bool.{and_parts, and_from, cond_both, ltb-true, lt-ltb, eqb-false}
use Rattle.roles.specs.Meaning.{Meaning}
use Rattle.calculus.specs.Syntax.{Ty, Term, constant, variable, abstraction, application, fix, guard, check, unit, let_in, raise, restrict}
use Rattle.calculus.specs.Substitution.{closed, substitute}
use Rattle.calculus.specs.Subtyping.{System}
use Rattle.calculus.specs.Typing.{lookup, Has, has_constant, has_variable, has_abstraction, has_application, has_fix, has_guard, has_check, has_unit, has_let, has_raise, has_restrict, subsumption}
use Rattle.calculus.specs.Steps.{Step, apply, unroll, pass, hand_over, leave_raise, leave_restrict, in_application, in_fix, in_check, in_let, in_raise, in_restrict, put_in}
use Rattle.calculus.specs.Theorems.{StepsKeepClosed, TypedClosed}
use Rattle.calculus.proofs.Options.{none_some, some_same}

-- a term that needs no more than d binders is at home under more
pub closed_more : (e : Term) (d c : ℕ) → d ≤ c → closed d e ≡ true → closed c e ≡ true
closed_more (constant k p) d c l h = refl
closed_more (variable i) d c l h = let k = ltb-true i d h in lt-ltb i c (omega arith)
closed_more (abstraction t u e) d c l h = closed_more e (suc d) (suc c) (suc-le-suc l) h
closed_more (application f x) d c l h =
    let p = and_parts (closed d f) (closed d x) h in
    and_from _ _ (closed_more f d c l p.0) (closed_more x d c l p.1)
closed_more (fix f) d c l h = closed_more f d c l h
closed_more (guard a e) d c l h = closed_more e d c l h
closed_more (check e) d c l h = closed_more e d c l h
closed_more (unit e) d c l h = closed_more e d c l h
closed_more (let_in e u) d c l h =
    let p = and_parts (closed d e) (closed (suc d) u) h in
    and_from _ _ (closed_more e d c l p.0) (closed_more u (suc d) (suc c) (suc-le-suc l) p.1)
closed_more (raise a e) d c l h = closed_more e d c l h
closed_more (restrict a e) d c l h = closed_more e d c l h

-- a closed term in the place of the outermost variable leaves one binder less to need
pub closed_substitute : (n : Term) → closed 0 n ≡ true → (e : Term) (d : ℕ) → closed (suc d) e ≡ true → closed d (substitute d n e) ≡ true
closed_substitute n g (constant k p) d h = refl
closed_substitute n g (variable i) d h =
    cond_both (eqb i d) n (variable i) (λ x. closed d x ≡ true)
    (λ e. closed_more n 0 d zero-le g)
    (λ e. let k = ltb-true i (suc d) h in let q = eqb-false i d e in lt-ltb i d (omega arith))
closed_substitute n g (abstraction t u e) d h = closed_substitute n g e (suc d) h
closed_substitute n g (application f x) d h =
    let p = and_parts (closed (suc d) f) (closed (suc d) x) h in
    and_from _ _ (closed_substitute n g f d p.0) (closed_substitute n g x d p.1)
closed_substitute n g (fix f) d h = closed_substitute n g f d h
closed_substitute n g (guard a e) d h = closed_substitute n g e d h
closed_substitute n g (check e) d h = closed_substitute n g e d h
closed_substitute n g (unit e) d h = closed_substitute n g e d h
closed_substitute n g (let_in e u) d h =
    let p = and_parts (closed (suc d) e) (closed (suc (suc d)) u) h in
    and_from _ _ (closed_substitute n g e d p.0) (closed_substitute n g u (suc d) p.1)
closed_substitute n g (raise a e) d h = closed_substitute n g e d h
closed_substitute n g (restrict a e) d h = closed_substitute n g e d h

module _ {m : Meaning} where
  step_closed : {r : ℕ} {e e' : Term} → Step m r e e' → closed 0 e ≡ true → closed 0 e' ≡ true
  step_closed (apply {e = e} {x = x}) h = let p = and_parts (closed 1 e) (closed 0 x) h in closed_substitute x p.1 e 0 p.0
  step_closed (unroll {t = t} {u = u} {e = e}) h = closed_substitute (fix (abstraction t u e)) h e 0 h
  step_closed (pass d) h = h
  step_closed (hand_over {e = e} {u = u}) h = let p = and_parts (closed 0 e) (closed 1 u) h in closed_substitute e p.0 u 0 p.1
  step_closed (leave_raise v) h = h
  step_closed (leave_restrict v) h = h
  step_closed (in_application {f = f} {x = x} s) h = let p = and_parts (closed 0 f) (closed 0 x) h in and_from _ _ (step_closed s p.0) p.1
  step_closed (in_fix s) h = step_closed s h
  step_closed (in_check s) h = step_closed s h
  step_closed (in_let {e = e} {u = u} s) h = let p = and_parts (closed 0 e) (closed 1 u) h in and_from _ _ (step_closed s p.0) p.1
  step_closed (in_raise j s) h = step_closed s h
  step_closed (in_restrict j s) h = step_closed s h

  put_in_closed : {r : ℕ} {e e' : Term} (s : Step m r e e') → closed 0 e ≡ true → (n : Term) → put_in s ≡ Some n → closed 0 n ≡ true
  put_in_closed (apply {e = e} {x = x}) h n p = subst (λ (y : Term). closed 0 y ≡ true) (some_same p) (and_parts (closed 1 e) (closed 0 x) h).1
  put_in_closed unroll h n p = subst (λ (y : Term). closed 0 y ≡ true) (some_same p) h
  put_in_closed (pass d) h n p = absurd (none_some p)
  put_in_closed (hand_over {e = e} {u = u}) h n p = subst (λ (y : Term). closed 0 y ≡ true) (some_same p) (and_parts (closed 0 e) (closed 1 u) h).0
  put_in_closed (leave_raise v) h n p = absurd (none_some p)
  put_in_closed (leave_restrict v) h n p = absurd (none_some p)
  put_in_closed (in_application {f = f} {x = x} s) h n p = put_in_closed s (and_parts (closed 0 f) (closed 0 x) h).0 n p
  put_in_closed (in_fix s) h n p = put_in_closed s h n p
  put_in_closed (in_check s) h n p = put_in_closed s h n p
  put_in_closed (in_let {e = e} {u = u} s) h n p = put_in_closed s (and_parts (closed 0 e) (closed 1 u) h).0 n p
  put_in_closed (in_raise j s) h n p = put_in_closed s h n p
  put_in_closed (in_restrict j s) h n p = put_in_closed s h n p

pub steps_keep_closed_lem : StepsKeepClosed
steps_keep_closed_lem m r e e' s h = (step_closed s h, put_in_closed s h)

lookup_below : (Γ : List Ty) (i : ℕ) (t : Ty) → lookup Γ i ≡ Some t → i < length Γ
lookup_below [] i t e = absurd (none_some e)
lookup_below (s ∷ Γ) zero t e = suc-le-suc zero-le
lookup_below (s ∷ Γ) (suc i) t e = suc-le-suc (lookup_below Γ i t e)

has_closed : {m : Meaning} {α : System} {Γ : List Ty} {e : Term} {t : Ty} → Has m α Γ e t → closed (length Γ) e ≡ true
has_closed has_constant = refl
has_closed (has_variable {Γ} {i} {t} h) = lt-ltb i (length Γ) (lookup_below Γ i t h)
has_closed (has_abstraction w h) = has_closed h
has_closed (has_application h k) = and_from _ _ (has_closed h) (has_closed k)
has_closed (has_fix h) = has_closed h
has_closed (has_guard w h) = has_closed h
has_closed (has_check h) = has_closed h
has_closed (has_unit h) = has_closed h
has_closed (has_let h k j) = and_from _ _ (has_closed h) (has_closed k)
has_closed (has_raise h j) = has_closed h
has_closed (has_restrict h w q) = has_closed h
has_closed (subsumption h k) = has_closed h

pub typed_closed_lem : TypedClosed
typed_closed_lem m α e t h = has_closed h
