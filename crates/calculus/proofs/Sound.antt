-- What inference finds is a type by the rules. Assumes nothing.
use Rattle.std.proofs.Common.{◌≡◌, ◌&&◌, List, ◌∷◌, Some, subst}
use Rattle.std.proofs.lemmas.Bool.{and_parts}
use Rattle.roles.specs.Meaning.{Meaning, Lawful}
use Rattle.calculus.specs.Syntax.{Ty, function, Term, constant, variable, abstraction, application, fix, guard, check, unit, let_in, raise, restrict}
use Rattle.calculus.specs.Subtyping.{System, Subtype, function_below, well_coded}
use Rattle.calculus.specs.Typing.{claim, permits, Has, has_constant, has_variable, has_abstraction, has_application, has_fix, has_guard, has_check, has_unit, has_let, has_raise, has_restrict, subsumption}
use Rattle.calculus.specs.Inference.{is_subtype, infer}
use Rattle.calculus.specs.Theorems.{InferenceSound}
use Rattle.calculus.proofs.Options.{some_same, given_parts, some_parts, function_parts, guarded_parts, computation_parts}
use Rattle.calculus.proofs.Order.{below_coded, below_same}
use Rattle.calculus.proofs.Test.{test_to_rules}

module _ {m : Meaning} (L : Lawful m) (α : System) where
  -- a typing at the type that was answered
  as_answered : {Γ : List Ty} {e : Term} {t s : Ty} → Has m α Γ e t → Some t ≡ Some s → Has m α Γ e s
  as_answered {Γ} {e} h p = subst (λ (x : Ty). Has m α Γ e x) (some_same p) h

  -- a function whose result is below its argument is one from its result to itself
  to_itself : {Γ : List Ty} {f : Term} {t s : Ty} → Has m α Γ f (function t s) → Subtype m α s t → Has m α Γ (fix f) s
  to_itself {s = s} h k = has_fix (subsumption h (function_below k (below_same L α s (below_coded L α k).0)))

  pub infer_sound : (Γ : List Ty) (e : Term) {t : Ty} → infer m α Γ e ≡ Some t → Has m α Γ e t
  unfolding infer
  infer_sound Γ (constant k p) h = as_answered has_constant h
  infer_sound Γ (variable i) h = has_variable h
  infer_sound Γ (abstraction t u e) h =
      let p = given_parts (well_coded m (claim α t u)) h in
      let q = some_parts (infer m α (claim α t u ∷ Γ) e) _ p.1 in
      as_answered (has_abstraction p.0 (infer_sound (claim α t u ∷ Γ) e q.1)) q.2
  infer_sound Γ (application f x) h =
      let p = function_parts (infer m α Γ f) _ h in
      let q = some_parts (infer m α Γ x) _ p.3 in
      let r = given_parts (is_subtype m α q.0 p.0) q.2 in
      as_answered (has_application (infer_sound Γ f p.2) (subsumption (infer_sound Γ x q.1) (test_to_rules m α q.0 p.0 r.0))) r.1
  infer_sound Γ (fix f) h =
      let p = function_parts (infer m α Γ f) _ h in
      let r = given_parts (is_subtype m α p.1 p.0) p.3 in
      as_answered (to_itself (infer_sound Γ f p.2) (test_to_rules m α p.1 p.0 r.0)) r.1
  infer_sound Γ (guard a e) h =
      let p = given_parts (m.role a) h in
      let q = some_parts (infer m α Γ e) _ p.1 in
      as_answered (has_guard p.0 (infer_sound Γ e q.1)) q.2
  infer_sound Γ (check e) h =
      let p = guarded_parts (infer m α Γ e) _ h in
      as_answered (has_check (infer_sound Γ e p.2)) p.3
  infer_sound Γ (unit e) h =
      let q = some_parts (infer m α Γ e) _ h in
      as_answered (has_unit (infer_sound Γ e q.1)) q.2
  infer_sound Γ (let_in e u) h =
      let p = computation_parts (infer m α Γ e) _ h in
      let q = computation_parts (infer m α (p.1 ∷ Γ) u) _ p.3 in
      let r = some_parts (m.join p.0 q.0) _ q.3 in
      as_answered (has_let (infer_sound Γ e p.2) (infer_sound (p.1 ∷ Γ) u q.2) r.1) r.2
  infer_sound Γ (raise a e) h =
      let p = computation_parts (infer m α Γ e) _ h in
      let r = some_parts (m.remainder p.0 a) _ p.3 in
      as_answered (has_raise (infer_sound Γ e p.2) r.1) r.2
  infer_sound Γ (restrict a e) h =
      let p = computation_parts (infer m α Γ e) _ h in
      let r = given_parts (m.role a && permits m α a p.0) p.3 in
      let q = and_parts (m.role a) (permits m α a p.0) r.0 in
      as_answered (has_restrict (infer_sound Γ e p.2) q.0 q.1) r.1

pub inference_sound_lem : InferenceSound
inference_sound_lem m L α Γ e t h = infer_sound L α Γ e h
