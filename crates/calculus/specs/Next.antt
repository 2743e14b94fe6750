-- What is next of a term under a context role, as a function on trees. Assumes nothing.
use Rattle.std.specs.Prelude.{ℕ, Bool, true, false, Some, None, Option}
use Rattle.roles.specs.Meaning.{Meaning}
use Rattle.calculus.specs.Syntax.{Term, constant, variable, abstraction, application, fix, guard, check, unit, let_in, raise, restrict}
use Rattle.calculus.specs.Substitution.{substitute}
use Rattle.calculus.specs.Steps.{Value, constant_value, abstraction_value, guard_value, unit_value, Step, IsRoleFault, IsShapeFault}

-- The four outcomes.
pub data Outcome : Type 0 where
  value : Outcome
  goes_to : Term → Outcome
  role_fault : Outcome
  shape_fault : Outcome

-- What an outcome says of the term.
abbrev pub Says : Meaning → ℕ → Term → Outcome → Type 0
Says m r e value = Value e
Says m r e (goes_to e') = Step m r e e'
Says m r e role_fault = IsRoleFault m r e
Says m r e shape_fault = IsShapeFault m r e

-- That the term is a value, if it is one.
abbrev pub as_value : (e : Term) → Option (Value e)
as_value (constant k p) = Some constant_value
as_value (variable i) = None
as_value (abstraction t u e) = Some abstraction_value
as_value (application f x) = None
as_value (fix f) = None
as_value (guard a e) = Some guard_value
as_value (check e) = None
as_value (unit e) = Some unit_value
as_value (let_in e u) = None
as_value (raise a e) = None
as_value (restrict a e) = None

-- What comes of a form by its first operand: the form's own act if that is a value, else what the operand does inside.
abbrev pub by_operand : {e : Term} → Option (Value e) → (Value e → Outcome) → Outcome → Outcome
by_operand (Some v) act inside = act v
by_operand None act inside = inside

-- What the operand does inside, seen from the whole: f makes the whole of the operand's next term.
abbrev pub inside : Outcome → (Term → Term) → Outcome
inside value f = shape_fault
inside (goes_to e) f = goes_to (f e)
inside role_fault f = role_fault
inside shape_fault f = shape_fault

-- The same under the changed context role, if there is one.
abbrev pub under : Option ℕ → (ℕ → Outcome) → Outcome
under None f = shape_fault
under (Some j) f = f j

-- A value applied to x.
abbrev pub act_application : {e : Term} → Term → Value e → Outcome
act_application x constant_value = shape_fault
act_application x (abstraction_value {e = e}) = goes_to (substitute 0 x e)
act_application x guard_value = shape_fault
act_application x unit_value = shape_fault

-- The fixed point of a value.
abbrev pub act_fix : {e : Term} → Value e → Outcome
act_fix constant_value = shape_fault
act_fix (abstraction_value {t} {u} {e}) = goes_to (substitute 0 (fix (abstraction t u e)) e)
act_fix guard_value = shape_fault
act_fix unit_value = shape_fault

-- A guard's content, if its role is dominated.
abbrev pub opened : Bool → Term → Outcome
opened true e = goes_to (unit e)
opened false e = role_fault

-- A value checked.
abbrev pub act_check : {e : Term} → Meaning → ℕ → Value e → Outcome
act_check m r constant_value = shape_fault
act_check m r abstraction_value = shape_fault
act_check m r (guard_value {a} {e}) = opened (m.dom r a) e
act_check m r unit_value = shape_fault

-- A value handed over to u.
abbrev pub act_let : {e : Term} → Term → Value e → Outcome
act_let u constant_value = shape_fault
act_let u abstraction_value = shape_fault
act_let u guard_value = shape_fault
act_let u (unit_value {e}) = goes_to (substitute 0 e u)

-- What is next of the term.
unfoldable pub next : Meaning → ℕ → Term → Outcome
next m r (constant k p) = value
next m r (variable i) = shape_fault
next m r (abstraction t u e) = value
next m r (application f x) = by_operand (as_value f) (act_application x) (inside (next m r f) (λ y. application y x))
next m r (fix f) = by_operand (as_value f) act_fix (inside (next m r f) fix)
next m r (guard a e) = value
next m r (check e) = by_operand (as_value e) (act_check m r) (inside (next m r e) check)
next m r (unit e) = value
next m r (let_in e u) = by_operand (as_value e) (act_let u) (inside (next m r e) (λ y. let_in y u))
next m r (raise a e) = by_operand (as_value e) (λ v. goes_to e) (under (m.join a r) (λ j. inside (next m j e) (raise a)))
next m r (restrict a e) = by_operand (as_value e) (λ v. goes_to e) (under (m.meet a r) (λ j. inside (next m j e) (restrict a)))
