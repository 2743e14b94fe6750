-- The readings and the tempting errors, by computation. Assumes nothing.
use Rattle.std.proofs.Common.{◌≡◌, ℕ, ◌≤◌, Bool, true, false, [], Some, refl, true≢false, arith}
use mathlib.Core.Bool.{false≢true}
use lib.Bits.{bit_and, and_le_l}
use Rattle.std.proofs.lemmas.Bool.{lt-ltb, ne_eqb}
use Rattle.calculus.specs.Syntax.{computation, application, fix, unit, restrict}
use Rattle.calculus.specs.Substitution.{substitute}
use Rattle.calculus.specs.Subtyping.{System, sufficient, necessary}
use Rattle.calculus.specs.Typing.{has_constant, has_variable, has_abstraction, has_application, has_guard, has_check, has_unit, has_let, has_raise}
use Rattle.calculus.specs.Inference.{infer}
use Rattle.calculus.specs.Steps.{apply, unroll, pass, hand_over, IsRoleFault, refused, fault_in_raise, fault_in_restrict, IsShapeFault, here, onward, no_step, one_more}
use Rattle.calculus.specs.Next.{shape_fault, next}
use Rattle.calculus.specs.Theorems.{StepsKeepType}
use Rattle.readings.specs.Bounds.{mask_8, ladder_3, unit_type, unit_constant, checked, unit_identity, Readings}
use Rattle.readings.specs.Errors.{ComplementFails, base_forward, function_forward, guarded_forward, computation_forward, opener, locked, ForwardFails, wrapper, wrapped, HandingUnitFails, TemptingErrorsFail}
use Rattle.calculus.proofs.Options.{none_some}
use Rattle.calculus.proofs.Complete.{inference_decides_lem}
use Rattle.calculus.proofs.Inversion.{unit_at}
use Rattle.calculus.proofs.Outcomes.{next_decides_lem}
use Rattle.ladders.specs.Laws.{ladder_lawful}

-- what is left of a context role within 2 lacks the guard's role 6
kept_within_two : (k : ℕ) → k ≤ 2 → mask_8.dom k 6 ≡ false
kept_within_two k h =
    let i = and_le_l k 6 in
    let e : ◌≡◌ {A = Bool} (mask_8.role k) true = lt-ltb k 256 (omega arith) in
    let n = ne_eqb (bit_and k 6) 6 (λ q. omega arith) in
    rw (e, n)

restrict_refuses : (r : ℕ) → mask_8.role r ≡ true → IsRoleFault mask_8 r (restrict 2 (checked 6))
restrict_refuses r h = fault_in_restrict {j = bit_and 2 r} (rw h) (refused (kept_within_two (bit_and 2 r) (and_le_l 2 r)))

wrong_shape : (r : ℕ) → IsShapeFault mask_8 r (application unit_constant unit_constant)
unfolding next
wrong_shape r = (next_decides_lem mask_8 r (application unit_constant unit_constant) shape_fault).0 refl

fix_type : (α : System) → infer mask_8 α [] (fix unit_identity) ≡ Some unit_type
unfolding infer
fix_type sufficient = refl
fix_type necessary = refl

pub readings : Readings
unfolding infer
readings =
    record {
      let_joins = λ α. refl;
      raise_leaves_rest = λ α. refl;
      restrict_insufficient = refl;
      restrict_necessary = refl;
      claim_sufficient = refl;
      claim_necessary = refl;
      claims_exchanged = refl;
      ladder_low_raise = λ α. refl;
      ladder_high_raise = λ α. refl;
      check_bound = λ α. refl;
      check_passes = pass refl;
      check_refuses = refused refl;
      restrict_refuses = restrict_refuses;
      fix_type = fix_type;
      fix_turns = one_more unroll (one_more unroll (one_more unroll (one_more unroll (one_more unroll no_step))));
      no_function = λ α. refl;
      wrong_shape = wrong_shape;
    }

complement_fails : ComplementFails
complement_fails =
    record {
      typed = has_raise (has_check (has_guard refl has_constant)) refl;
      suffices = refl;
      faults = fault_in_raise refl (refused refl);
      unlawful = λ L. true≢false (L.residuation 3 1 2 2 2 refl refl);
    }

forward_fails : ForwardFails
unfolding infer
forward_fails =
    record {
      opener_typed = has_abstraction refl (has_check (has_variable refl));
      taken_forward = function_forward (guarded_forward refl base_forward) (computation_forward refl base_forward);
      locked_typed = has_guard refl has_constant;
      suffices = refl;
      steps = apply;
      faults = refused refl;
      untyped = λ t h. let i = (inference_decides_lem ladder_3 (ladder_lawful 3) refl sufficient [] (λ i s e. absurd (none_some e)) (application opener locked)).0 (t, h) in none_some i.1;
    }

handing_unit_fails : HandingUnitFails
unfolding next
handing_unit_fails =
    record {
      typed = has_let (has_unit (has_abstraction refl (has_unit (has_variable refl)))) (has_application (has_variable refl) has_constant) refl;
      faults = λ r. (next_decides_lem ladder_3 r (substitute 0 (unit wrapper) wrapped) shape_fault).0 refl;
      steps = λ r. hand_over;
      steps_on = λ r. (unit unit_constant, apply);
    }

pub tempting_errors_fail_lem : TemptingErrorsFail
tempting_errors_fail_lem = record { complement = complement_fails; forward = forward_fails; handing_unit = handing_unit_fails }

-- under role 3 a check of {3}[unit] steps to a unit, of which the bound 3 is no longer necessary
pub necessary_type_falls_lem : StepsKeepType necessary → ⊥
necessary_type_falls_lem keeps =
    let h = keeps ladder_3 (ladder_lawful 3) 3 (checked 3) (unit unit_constant) (computation 3 unit_type) (has_check (has_guard refl has_constant)) refl (onward (pass refl) here) in
    false≢true (unit_at (ladder_lawful 3) refl h).0
