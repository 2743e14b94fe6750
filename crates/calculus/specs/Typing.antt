-- Which term has which type, by one rule for each form and one for subtyping; the two systems differ in the claim that they read and in what a restriction asks. Assumes nothing.
use Rattle.std.specs.Prelude.{◌≡◌, ℕ, zero, suc, Bool, true, List, [], ◌∷◌, Some, None, Option}
use Rattle.roles.specs.Meaning.{Meaning}
use Rattle.calculus.specs.Syntax.{Kind, Ty, base, function, guarded, computation, Term, constant, variable, abstraction, application, fix, guard, check, unit, let_in, raise, restrict}
use Rattle.calculus.specs.Subtyping.{System, sufficient, necessary, Subtype, well_coded}

-- The type of the variable i in an environment, which has the type of the innermost binder first.
abbrev pub lookup : List Ty → ℕ → Option Ty
lookup [] i = None
lookup (t ∷ Γ) zero = Some t
lookup (t ∷ Γ) (suc i) = lookup Γ i

-- The claim of an abstraction that the system reads, of the sufficient one and the necessary one.
abbrev pub claim : System → Ty → Ty → Ty
claim sufficient t u = t
claim necessary t u = u

-- What a restriction to a asks of the body's role b: the context role inside is at most a, so for sufficiency a has to dominate b.
abbrev pub permits : Meaning → System → ℕ → ℕ → Bool
permits m sufficient a b = m.dom a b
permits m necessary a b = true

-- In the environment Γ the term has the type.
pub data Has (m : Meaning) (α : System) : List Ty → Term → Ty → Type 0 where
  has_constant : {Γ : List Ty} {k : Kind} {p : ℕ} → Has m α Γ (constant k p) (base k)
  has_variable : {Γ : List Ty} {i : ℕ} {t : Ty} → lookup Γ i ≡ Some t → Has m α Γ (variable i) t
  has_abstraction : {Γ : List Ty} {t u s : Ty} {e : Term} →
      well_coded m (claim α t u) ≡ true → Has m α (claim α t u ∷ Γ) e s → Has m α Γ (abstraction t u e) (function (claim α t u) s)
  has_application : {Γ : List Ty} {f x : Term} {t s : Ty} → Has m α Γ f (function t s) → Has m α Γ x t → Has m α Γ (application f x) s
  has_fix : {Γ : List Ty} {f : Term} {t : Ty} → Has m α Γ f (function t t) → Has m α Γ (fix f) t
  has_guard : {Γ : List Ty} {a : ℕ} {e : Term} {t : Ty} → m.role a ≡ true → Has m α Γ e t → Has m α Γ (guard a e) (guarded a t)
  has_check : {Γ : List Ty} {a : ℕ} {e : Term} {t : Ty} → Has m α Γ e (guarded a t) → Has m α Γ (check e) (computation a t)
  has_unit : {Γ : List Ty} {e : Term} {t : Ty} → Has m α Γ e t → Has m α Γ (unit e) (computation m.bottom t)
  has_let : {Γ : List Ty} {a b c : ℕ} {e u : Term} {t s : Ty} →
      Has m α Γ e (computation a t) → Has m α (t ∷ Γ) u (computation b s) → m.join a b ≡ Some c → Has m α Γ (let_in e u) (computation c s)
  has_raise : {Γ : List Ty} {a b c : ℕ} {e : Term} {t : Ty} →
      Has m α Γ e (computation b t) → m.remainder b a ≡ Some c → Has m α Γ (raise a e) (computation c t)
  has_restrict : {Γ : List Ty} {a b : ℕ} {e : Term} {t : Ty} →
      Has m α Γ e (computation b t) → m.role a ≡ true → permits m α a b ≡ true → Has m α Γ (restrict a e) (computation b t)
  subsumption : {Γ : List Ty} {e : Term} {t s : Ty} → Has m α Γ e t → Subtype m α t s → Has m α Γ e s
