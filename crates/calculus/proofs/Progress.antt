-- A closed term with a type is no shape fault, and no role fault under a role that suffices. Assumes nothing.
use Rattle.std.proofs.Common.{◌≡◌, ℕ, Bool, true, false, ◌⊎◌, [], sym, refl, ◌∙◌, inl, inr, true≢false}
use Rattle.roles.specs.Meaning.{Meaning, Lawful}
use Rattle.roles.proofs.Deciding.{join_role, meet_role}
use Rattle.calculus.specs.Syntax.{Ty, function, guarded, computation, Term, abstraction, application, fix, guard, check, unit, let_in, raise, restrict}
use Rattle.calculus.specs.Substitution.{substitute}
use Rattle.calculus.specs.Subtyping.{System, sufficient, Subtype, base_below, function_below, guarded_below, computation_below}
use Rattle.calculus.specs.Typing.{Has, has_constant, has_variable, has_abstraction, has_application, has_fix, has_guard, has_check, has_unit, has_let, has_raise, has_restrict, subsumption}
use Rattle.calculus.specs.Steps.{Value, constant_value, abstraction_value, guard_value, unit_value, Step, apply, unroll, pass, hand_over, leave_raise, leave_restrict, in_application, in_fix, in_check, in_let, in_raise, in_restrict, IsRoleFault, refused, fault_in_application, fault_in_fix, fault_in_check, fault_in_let, fault_in_raise, fault_in_restrict, CanStep}
use Rattle.calculus.specs.Theorems.{Suffices}
use Rattle.calculus.proofs.Options.{none_some}
use Rattle.calculus.proofs.Laws.{across, over_left, under_meet, join_there, meet_there, remainder_by, enough}
use Rattle.calculus.proofs.Inversion.{of_constant, of_abstraction, of_guard, of_unit, guard_at}

-- a value, or able to step, or a role fault
abbrev pub Goes : Meaning → ℕ → Term → Type 0
Goes m r e = Value e ⊎ (CanStep m r e ⊎ IsRoleFault m r e)

-- a form goes, if it does with a value for its operand, and passes on the operand's steps and faults
goes_by : {m : Meaning} {r j : ℕ} {e w : Term} (f : Term → Term) → (Value e → Goes m r w) → ((e' : Term) → Step m j e e' → Step m r w (f e')) → (IsRoleFault m j e → IsRoleFault m r w) → Goes m j e → Goes m r w
goes_by f v s k (inl h) = v h
goes_by f v s k (inr (inl h)) = inr (inl (f h.0, s h.0 h.1))
goes_by f v s k (inr (inr h)) = inr (inr (k h))

opened_goes : (m : Meaning) (r b : ℕ) (e : Term) (d : Bool) → m.dom r b ≡ d → Goes m r (check (guard b e))
opened_goes m r b e true h = inr (inl (unit e, pass h))
opened_goes m r b e false h = inr (inr (refused h))

module _ {m : Meaning} (L : Lawful m) (sound : m.sound ≡ true) {α : System} where
  application_goes : {f : Term} {t s : Ty} → Has m α [] f (function t s) → (r : ℕ) (x : Term) → Value f → Goes m r (application f x)
  application_goes h r x constant_value = elim (of_constant L sound h) [ ]
  application_goes h r x (abstraction_value {e = e}) = inr (inl (substitute 0 x e, apply))
  application_goes h r x guard_value = elim (of_guard L sound h).2 [ ]
  application_goes h r x unit_value = elim (of_unit L sound h).2 [ ]

  fix_goes : {f : Term} {t s : Ty} → Has m α [] f (function t s) → (r : ℕ) → Value f → Goes m r (fix f)
  fix_goes h r constant_value = elim (of_constant L sound h) [ ]
  fix_goes h r (abstraction_value {t} {u} {e}) = inr (inl (substitute 0 (fix (abstraction t u e)) e, unroll))
  fix_goes h r guard_value = elim (of_guard L sound h).2 [ ]
  fix_goes h r unit_value = elim (of_unit L sound h).2 [ ]

  check_goes : {e : Term} {a : ℕ} {t : Ty} → Has m α [] e (guarded a t) → (r : ℕ) → Value e → Goes m r (check e)
  check_goes h r constant_value = elim (of_constant L sound h) [ ]
  check_goes h r abstraction_value = elim (of_abstraction L sound h).2 [ ]
  check_goes h r (guard_value {a} {e}) = opened_goes m r a e (m.dom r a) refl
  check_goes h r unit_value = elim (of_unit L sound h).2 [ ]

  let_goes : {e : Term} {a : ℕ} {t : Ty} → Has m α [] e (computation a t) → (r : ℕ) (u : Term) → Value e → Goes m r (let_in e u)
  let_goes h r u constant_value = elim (of_constant L sound h) [ ]
  let_goes h r u abstraction_value = elim (of_abstraction L sound h).2 [ ]
  let_goes h r u guard_value = elim (of_guard L sound h).2 [ ]
  let_goes h r u (unit_value {e}) = inr (inl (substitute 0 e u, hand_over))

  pub typed_goes : {e : Term} {t : Ty} → Has m α [] e t → (r : ℕ) → m.role r ≡ true → Goes m r e
  typed_goes has_constant r w = inl constant_value
  typed_goes (has_variable h) r w = absurd (none_some h)
  typed_goes (has_abstraction c h) r w = inl abstraction_value
  typed_goes (has_application {x = x} h k) r w = goes_by (λ y. application y x) (application_goes h r x) (λ y s. in_application s) fault_in_application (typed_goes h r w)
  typed_goes (has_fix h) r w = goes_by fix (fix_goes h r) (λ y s. in_fix s) fault_in_fix (typed_goes h r w)
  typed_goes (has_guard c h) r w = inl guard_value
  typed_goes (has_check h) r w = goes_by check (check_goes h r) (λ y s. in_check s) fault_in_check (typed_goes h r w)
  typed_goes (has_unit h) r w = inl unit_value
  typed_goes (has_let {u = u} h k j) r w = goes_by (λ y. let_in y u) (let_goes h r u) (λ y s. in_let s) fault_in_let (typed_goes h r w)
  typed_goes (has_raise {a = a} {e = e} h j) r w =
      let k = join_there L a r (remainder_by L j) w in
      goes_by (raise a) (λ v. inr (inl (e, leave_raise v))) (λ y s. in_raise k.1 s) (fault_in_raise k.1) (typed_goes h k.0 (join_role L a r k.0 k.1))
  typed_goes (has_restrict {a = a} {e = e} h c q) r w =
      let k = meet_there L a r c w in
      goes_by (restrict a) (λ v. inr (inl (e, leave_restrict v))) (λ y s. in_restrict k.1 s) (fault_in_restrict k.1) (typed_goes h k.0 (meet_role L a r k.0 k.1))
  typed_goes (subsumption h k) r w = typed_goes h r w

module _ {m : Meaning} (L : Lawful m) (sound : m.sound ≡ true) where
  -- what suffices for a type suffices for those below it
  suffices_below : {t s : Ty} → Subtype m sufficient t s → (r : ℕ) → Suffices m r s → Suffices m r t
  suffices_below base_below r g = tt
  suffices_below (function_below h k) r g = tt
  suffices_below (guarded_below h k) r g = tt
  suffices_below (computation_below h k) r g = across L g h

  pub sufficient_faultless : {e : Term} {t : Ty} {r : ℕ} → Has m sufficient [] e t → Suffices m r t → IsRoleFault m r e → ⊥
  sufficient_faultless has_constant g f = elim f [ ]
  sufficient_faultless (has_variable h) g f = none_some h
  sufficient_faultless (has_abstraction c h) g f = elim f [ ]
  sufficient_faultless (has_application h k) g (fault_in_application f) = sufficient_faultless h tt f
  sufficient_faultless (has_fix h) g (fault_in_fix f) = sufficient_faultless h tt f
  sufficient_faultless (has_guard c h) g f = elim f [ ]
  sufficient_faultless (has_check h) g (refused d) = true≢false (sym (across L g (guard_at L sound h).0) ∙ d)
  sufficient_faultless (has_check h) g (fault_in_check f) = sufficient_faultless h tt f
  sufficient_faultless (has_unit h) g f = elim f [ ]
  sufficient_faultless (has_let h k j) g (fault_in_let f) = sufficient_faultless h (across L g (over_left L j)) f
  sufficient_faultless (has_raise h j) g (fault_in_raise p f) = sufficient_faultless h (enough L j p g) f
  sufficient_faultless (has_restrict h c q) g (fault_in_restrict p f) = sufficient_faultless h (under_meet L p q g) f
  sufficient_faultless {r = r} (subsumption h k) g f = sufficient_faultless h (suffices_below k r g) f
