-- Values, steps under a context role, and the two faults. Assumes nothing.
use Rattle.std.specs.Prelude.{◌≡◌, ℕ, zero, suc, true, false, Some, None, Option}
use Rattle.roles.specs.Meaning.{Meaning}
use Rattle.calculus.specs.Syntax.{Kind, Ty, Term, constant, abstraction, application, fix, guard, check, unit, let_in, raise, restrict}
use Rattle.calculus.specs.Substitution.{substitute}

-- The term is a value.
pub data Value : Term → Type 0 where
  constant_value : {k : Kind} {p : ℕ} → Value (constant k p)
  abstraction_value : {t u : Ty} {e : Term} → Value (abstraction t u e)
  guard_value : {a : ℕ} {e : Term} → Value (guard a e)
  unit_value : {e : Term} → Value (unit e)

-- Under the context role r one term steps to the other.
pub data Step (m : Meaning) : ℕ → Term → Term → Type 0 where
  -- an abstraction applied: its body, with the argument for the variable
  apply : {r : ℕ} {t u : Ty} {e x : Term} → Step m r (application (abstraction t u e) x) (substitute 0 x e)
  -- the fixed point of an abstraction: its body, with the whole fix for the variable
  unroll : {r : ℕ} {t u : Ty} {e : Term} → Step m r (fix (abstraction t u e)) (substitute 0 (fix (abstraction t u e)) e)
  -- a guard that the context role dominates: its content, as a unit
  pass : {r b : ℕ} {e : Term} → m.dom r b ≡ true → Step m r (check (guard b e)) (unit e)
  -- a unit handed over: the content of the unit for the variable, and not the unit
  hand_over : {r : ℕ} {e u : Term} → Step m r (let_in (unit e) u) (substitute 0 e u)
  -- a raised or restricted value: the value
  leave_raise : {r a : ℕ} {v : Term} → Value v → Step m r (raise a v) v
  leave_restrict : {r a : ℕ} {v : Term} → Value v → Step m r (restrict a v) v
  -- inward through the first operand; raise joins its role to the context role on the way, restrict meets it
  in_application : {r : ℕ} {f f' x : Term} → Step m r f f' → Step m r (application f x) (application f' x)
  in_fix : {r : ℕ} {f f' : Term} → Step m r f f' → Step m r (fix f) (fix f')
  in_check : {r : ℕ} {e e' : Term} → Step m r e e' → Step m r (check e) (check e')
  in_let : {r : ℕ} {e e' u : Term} → Step m r e e' → Step m r (let_in e u) (let_in e' u)
  in_raise : {r a j : ℕ} {e e' : Term} → m.join a r ≡ Some j → Step m j e e' → Step m r (raise a e) (raise a e')
  in_restrict : {r a j : ℕ} {e e' : Term} → m.meet a r ≡ Some j → Step m j e e' → Step m r (restrict a e) (restrict a e')

-- The term that a step puts in for a variable, if it does.
abbrev pub put_in : {m : Meaning} {r : ℕ} {e e' : Term} → Step m r e e' → Option Term
put_in (apply {x = x}) = Some x
put_in (unroll {t = t} {u = u} {e = e}) = Some (fix (abstraction t u e))
put_in (pass h) = None
put_in (hand_over {e = e}) = Some e
put_in (leave_raise v) = None
put_in (leave_restrict v) = None
put_in (in_application s) = put_in s
put_in (in_fix s) = put_in s
put_in (in_check s) = put_in s
put_in (in_let s) = put_in s
put_in (in_raise h s) = put_in s
put_in (in_restrict h s) = put_in s

-- Under the context role r the term is at a guard that the role there does not dominate.
pub data IsRoleFault (m : Meaning) : ℕ → Term → Type 0 where
  refused : {r b : ℕ} {e : Term} → m.dom r b ≡ false → IsRoleFault m r (check (guard b e))
  fault_in_application : {r : ℕ} {f x : Term} → IsRoleFault m r f → IsRoleFault m r (application f x)
  fault_in_fix : {r : ℕ} {f : Term} → IsRoleFault m r f → IsRoleFault m r (fix f)
  fault_in_check : {r : ℕ} {e : Term} → IsRoleFault m r e → IsRoleFault m r (check e)
  fault_in_let : {r : ℕ} {e u : Term} → IsRoleFault m r e → IsRoleFault m r (let_in e u)
  fault_in_raise : {r a j : ℕ} {e : Term} → m.join a r ≡ Some j → IsRoleFault m j e → IsRoleFault m r (raise a e)
  fault_in_restrict : {r a j : ℕ} {e : Term} → m.meet a r ≡ Some j → IsRoleFault m j e → IsRoleFault m r (restrict a e)

-- The term has a next one.
abbrev pub CanStep : Meaning → ℕ → Term → Type 0
CanStep m r e = (e' : Term) × Step m r e e'

-- Neither a value, nor able to step, nor a role fault: the term has a wrong shape.
abbrev pub IsShapeFault : Meaning → ℕ → Term → Type 0
IsShapeFault m r e = (Value e → ⊥) × (CanStep m r e → ⊥) × (IsRoleFault m r e → ⊥)

-- Some steps lead from one term to the other, or none.
pub data Reaches (m : Meaning) (r : ℕ) : Term → Term → Type 0 where
  here : {e : Term} → Reaches m r e e
  onward : {e e' e'' : Term} → Step m r e e' → Reaches m r e' e'' → Reaches m r e e''

-- Exactly n steps lead from one term to the other.
pub data Steps (m : Meaning) (r : ℕ) : ℕ → Term → Term → Type 0 where
  no_step : {e : Term} → Steps m r zero e e
  one_more : {n : ℕ} {e e' e'' : Term} → Step m r e e' → Steps m r n e' e'' → Steps m r (suc n) e e''
