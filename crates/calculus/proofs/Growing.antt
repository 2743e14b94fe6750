-- A role that dominates another makes the other's steps. Assumes nothing.
use Rattle.std.proofs.Common.{◌≡◌, ℕ, true}
use Rattle.roles.specs.Meaning.{Meaning, Lawful}
use Rattle.calculus.specs.Syntax.{Term}
use Rattle.calculus.specs.Steps.{Step, apply, unroll, pass, hand_over, leave_raise, leave_restrict, in_application, in_fix, in_check, in_let, in_raise, in_restrict, Steps, no_step, one_more}
use Rattle.calculus.specs.Theorems.{DominatingRoleSteps}
use Rattle.calculus.proofs.Laws.{left_role, right_role, across, over_left, over_right, over_join, under_left, under_right, under_meet, join_there, meet_there}

module _ {m : Meaning} (L : Lawful m) where
  step_grows : {r : ℕ} {e e' : Term} → Step m r e e' → (q : ℕ) → m.dom q r ≡ true → Step m q e e'
  step_grows apply q d = apply
  step_grows unroll q d = unroll
  step_grows (pass h) q d = pass (across L d h)
  step_grows hand_over q d = hand_over
  step_grows (leave_raise v) q d = leave_raise v
  step_grows (leave_restrict v) q d = leave_restrict v
  step_grows (in_application s) q d = in_application (step_grows s q d)
  step_grows (in_fix s) q d = in_fix (step_grows s q d)
  step_grows (in_check s) q d = in_check (step_grows s q d)
  step_grows (in_let s) q d = in_let (step_grows s q d)
  step_grows (in_raise {a = a} h s) q d =
      let k = join_there L a q (right_role L (over_left L h)) (left_role L d) in
      in_raise k.1 (step_grows s k.0 (over_join L h (over_left L k.1) (across L (over_right L k.1) d)))
  step_grows (in_restrict {a = a} h s) q d =
      let k = meet_there L a q (left_role L (under_left L h)) (left_role L d) in
      in_restrict k.1 (step_grows s k.0 (under_meet L k.1 (under_left L h) (across L d (under_right L h))))

  steps_grow : {r n : ℕ} {e e' : Term} → Steps m r n e e' → (q : ℕ) → m.dom q r ≡ true → Steps m q n e e'
  steps_grow no_step q d = no_step
  steps_grow (one_more s k) q d = one_more (step_grows s q d) (steps_grow k q d)

pub dominating_role_steps_lem : DominatingRoleSteps
dominating_role_steps_lem m L r q e e' d = ((λ s. step_grows L s q d), λ n k. steps_grow L k q d)
