-- The subtype test and the least type of a term, as functions on trees. Assumes nothing.
use Rattle.std.specs.Prelude.{ℕ, Bool, true, false, not, ◌&&◌, List, ◌∷◌, Some, None, Option, ◌==◌}
use Rattle.roles.specs.Meaning.{Meaning}
use Rattle.calculus.specs.Syntax.{kind_number, Ty, base, function, guarded, computation, Term, constant, variable, abstraction, application, fix, guard, check, unit, let_in, raise, restrict}
use Rattle.calculus.specs.Subtyping.{System, role_test, well_coded}
use Rattle.calculus.specs.Typing.{lookup, claim, permits}

-- The role test from the first to the second, or back.
abbrev pub role_test_way : Meaning → System → Bool → ℕ → ℕ → Bool
role_test_way m α true a b = role_test m α a b
role_test_way m α false a b = role_test m α b a

-- Is the first type below the second, or above it? The way turns at a function's argument, so that the recursion is on the first type alone.
abbrev pub related : Meaning → System → Bool → Ty → Ty → Bool
related m α way (base k) (base l) = kind_number k == kind_number l
related m α way (function t s) (function t' s') = related m α (not way) t t' && related m α way s s'
related m α way (guarded a t) (guarded b t') = role_test_way m α way a b && related m α way t t'
related m α way (computation a t) (computation b t') = role_test_way m α way a b && related m α way t t'
related m α way (base k) (function t' s') = false
related m α way (base k) (guarded b t') = false
related m α way (base k) (computation b t') = false
related m α way (function t s) (base l) = false
related m α way (function t s) (guarded b t') = false
related m α way (function t s) (computation b t') = false
related m α way (guarded a t) (base l) = false
related m α way (guarded a t) (function t' s') = false
related m α way (guarded a t) (computation b t') = false
related m α way (computation a t) (base l) = false
related m α way (computation a t) (function t' s') = false
related m α way (computation a t) (guarded b t') = false

-- Is t below s?
abbrev pub is_subtype : Meaning → System → Ty → Ty → Bool
is_subtype m α t s = related m α true t s

-- The answer, if the test passes.
abbrev pub given : Bool → Option Ty → Option Ty
given true o = o
given false o = None

-- What follows from an answer that is there.
abbrev pub on_some : {A : Type 0} → Option A → (A → Option Ty) → Option Ty
on_some None f = None
on_some (Some a) f = f a

-- What follows from a function type that was found, by its argument and its result; nothing from another type.
abbrev pub on_function : Option Ty → (Ty → Ty → Option Ty) → Option Ty
on_function None f = None
on_function (Some (base k)) f = None
on_function (Some (function t s)) f = f t s
on_function (Some (guarded a t)) f = None
on_function (Some (computation a t)) f = None

-- What follows from a guarded type that was found, by its role and its inner type.
abbrev pub on_guarded : Option Ty → (ℕ → Ty → Option Ty) → Option Ty
on_guarded None f = None
on_guarded (Some (base k)) f = None
on_guarded (Some (function t s)) f = None
on_guarded (Some (guarded a t)) f = f a t
on_guarded (Some (computation a t)) f = None

-- What follows from a computation type that was found, by its role and its inner type.
abbrev pub on_computation : Option Ty → (ℕ → Ty → Option Ty) → Option Ty
on_computation None f = None
on_computation (Some (base k)) f = None
on_computation (Some (function t s)) f = None
on_computation (Some (guarded a t)) f = None
on_computation (Some (computation a t)) f = f a t

-- The least type of the term in the environment, if it has a type.
unfoldable pub infer : Meaning → System → List Ty → Term → Option Ty
infer m α Γ (constant k p) = Some (base k)
infer m α Γ (variable i) = lookup Γ i
infer m α Γ (abstraction t u e) =
    given (well_coded m (claim α t u)) (on_some (infer m α (claim α t u ∷ Γ) e) (λ s. Some (function (claim α t u) s)))
infer m α Γ (application f x) =
    on_function (infer m α Γ f) (λ t s. on_some (infer m α Γ x) (λ r. given (is_subtype m α r t) (Some s)))
infer m α Γ (fix f) = on_function (infer m α Γ f) (λ t s. given (is_subtype m α s t) (Some s))
infer m α Γ (guard a e) = given (m.role a) (on_some (infer m α Γ e) (λ t. Some (guarded a t)))
infer m α Γ (check e) = on_guarded (infer m α Γ e) (λ a t. Some (computation a t))
infer m α Γ (unit e) = on_some (infer m α Γ e) (λ t. Some (computation m.bottom t))
infer m α Γ (let_in e u) =
    on_computation (infer m α Γ e) (λ a t. on_computation (infer m α (t ∷ Γ) u) (λ b s. on_some (m.join a b) (λ c. Some (computation c s))))
infer m α Γ (raise a e) =
    on_computation (infer m α Γ e) (λ b t. on_some (m.remainder b a) (λ c. Some (computation c t)))
infer m α Γ (restrict a e) =
    on_computation (infer m α Γ e) (λ b t. given (m.role a && permits m α a b) (Some (computation b t)))
