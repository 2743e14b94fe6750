-- The theorems, each for every role scheme that is lawful. Assumes nothing.
use Rattle.std.specs.Prelude.{◌≡◌, ℕ, true, false, ◌↔◌, List, [], Some}
use Rattle.roles.specs.Meaning.{Meaning, Lawful}
use Rattle.calculus.specs.Syntax.{Ty, base, function, guarded, computation, Term, raise}
use Rattle.calculus.specs.Substitution.{closed}
use Rattle.calculus.specs.Subtyping.{System, sufficient, necessary, Subtype, well_coded}
use Rattle.calculus.specs.Typing.{lookup, Has}
use Rattle.calculus.specs.Inference.{is_subtype, infer}
use Rattle.calculus.specs.Steps.{Value, Step, put_in, IsRoleFault, IsShapeFault, Reaches, Steps}
use Rattle.calculus.specs.Next.{Outcome, Says, next}

-- Every code in the types of the environment is a role. The empty environment is such.
abbrev pub CodedEnvironment : Meaning → List Ty → Type 0
CodedEnvironment m Γ = (i : ℕ) (t : Ty) → lookup Γ i ≡ Some t → well_coded m t ≡ true

-- The role r dominates the role of the type, if it is a computation.
abbrev pub Suffices : Meaning → ℕ → Ty → Type 0
Suffices m r (base k) = Unit {0}
Suffices m r (function t s) = Unit {0}
Suffices m r (guarded a t) = Unit {0}
Suffices m r (computation b t) = m.dom r b ≡ true

-- 1. Subtyping and inference.

-- Every type whose codes are roles is below itself.
abbrev pub SubtypingReflexive : Type 0
SubtypingReflexive = (m : Meaning) → Lawful m → (α : System) (t : Ty) → well_coded m t ≡ true → Subtype m α t t

-- What is below a type is below all that the type is below.
abbrev pub SubtypingTransitive : Type 0
SubtypingTransitive = (m : Meaning) → Lawful m → (α : System) (t s u : Ty) → Subtype m α t s → Subtype m α s u → Subtype m α t u

-- Types that are below each other are the same.
abbrev pub SubtypingAntisymmetric : Type 0
SubtypingAntisymmetric = (m : Meaning) → Lawful m → (α : System) (t s : Ty) → Subtype m α t s → Subtype m α s t → t ≡ s

-- The subtype test passes exactly where the rules do.
abbrev pub SubtypingDecided : Type 0
SubtypingDecided = (m : Meaning) (α : System) (t s : Ty) → (is_subtype m α t s ≡ true) ↔ Subtype m α t s

-- What inference finds is a type by the rules.
abbrev pub InferenceSound : Type 0
InferenceSound = (m : Meaning) → Lawful m → (α : System) (Γ : List Ty) (e : Term) (t : Ty) → infer m α Γ e ≡ Some t → Has m α Γ e t

-- A term has a type by the rules exactly if inference finds one. (A scheme with no roles has no least computation type, so it is left out.)
abbrev pub InferenceDecides : Type 0
InferenceDecides =
    (m : Meaning) → Lawful m → m.sound ≡ true → (α : System) (Γ : List Ty) → CodedEnvironment m Γ → (e : Term) →
    ((t : Ty) × Has m α Γ e t) ↔ ((t : Ty) × (infer m α Γ e ≡ Some t))

-- The type that it finds is the least: it is one by the rules, and below every other.
abbrev pub InferenceLeast : Type 0
InferenceLeast =
    (m : Meaning) → Lawful m → m.sound ≡ true → (α : System) (Γ : List Ty) → CodedEnvironment m Γ → (e : Term) (t : Ty) → infer m α Γ e ≡ Some t →
    Has m α Γ e t × ((s : Ty) → Has m α Γ e s → Subtype m α t s)

-- 2. The sufficient bound.

-- In a system, steps under a role keep the type. This holds in the sufficient one; in the necessary one a step may lower the bound.
abbrev pub StepsKeepType : System → Type 0
StepsKeepType α =
    (m : Meaning) → Lawful m → (r : ℕ) (e e' : Term) (t : Ty) → Has m α [] e t → m.role r ≡ true → Reaches m r e e' → Has m α [] e' t

-- Under a role that dominates the sufficient bound, steps lead to no role fault and to no shape fault.
abbrev pub SufficientSafety : Type 0
SufficientSafety =
    (m : Meaning) → Lawful m → (r : ℕ) (e e' : Term) (t : Ty) → Has m sufficient [] e t → m.role r ≡ true → Suffices m r t → Reaches m r e e' →
    (IsRoleFault m r e' → ⊥) × (IsShapeFault m r e' → ⊥)

-- 3. The necessary bound.

-- Under a role that does not dominate the necessary bound, steps lead to no value and to no shape fault.
abbrev pub NecessarySafety : Type 0
NecessarySafety =
    (m : Meaning) → Lawful m → (r : ℕ) (e e' : Term) (b : ℕ) (t : Ty) → Has m necessary [] e (computation b t) → m.role r ≡ true → m.dom r b ≡ false →
    Reaches m r e e' → (Value e' → ⊥) × (IsShapeFault m r e' → ⊥)

-- 4. Outcomes and closed terms.

-- Every term, closed or not, has exactly one outcome: a value, a step to one term, a role fault or a shape fault.
abbrev pub OutcomeUnique : Type 0
OutcomeUnique = (m : Meaning) (r : ℕ) (e : Term) → (o : Outcome) × Says m r e o × ((p : Outcome) → Says m r e p → o ≡ p)

-- The function `next` finds it.
abbrev pub NextDecides : Type 0
NextDecides = (m : Meaning) (r : ℕ) (e : Term) (o : Outcome) → (next m r e ≡ o) ↔ Says m r e o

-- Steps lead from closed terms to closed terms, and a step of a closed term puts in a closed term.
abbrev pub StepsKeepClosed : Type 0
StepsKeepClosed =
    (m : Meaning) (r : ℕ) (e e' : Term) → (s : Step m r e e') → closed 0 e ≡ true →
    (closed 0 e' ≡ true) × ((n : Term) → put_in s ≡ Some n → closed 0 n ≡ true)

-- A term that has a type in the empty environment is closed.
abbrev pub TypedClosed : Type 0
TypedClosed = (m : Meaning) (α : System) (e : Term) (t : Ty) → Has m α [] e t → closed 0 e ≡ true

-- To be reached is to be reached in some number of steps, and that number of steps leads to no other term.
abbrev pub StepsCounted : Type 0
StepsCounted =
    (m : Meaning) (r : ℕ) (e e' : Term) →
    (Reaches m r e e' ↔ ((n : ℕ) × Steps m r n e e')) × ((n : ℕ) (e'' : Term) → Steps m r n e e' → Steps m r n e e'' → e' ≡ e'')

-- 5. Greater roles.

-- A role that dominates another makes every step that the other makes, to the same term, and so any number of steps.
abbrev pub DominatingRoleSteps : Type 0
DominatingRoleSteps =
    (m : Meaning) → Lawful m → (r q : ℕ) (e e' : Term) → m.dom q r ≡ true →
    (Step m r e e' → Step m q e e') × ((n : ℕ) → Steps m r n e e' → Steps m q n e e')

-- 6. Raising.

-- Raising by a over a computation at b needs exactly the remainder: a role x suffices for it exactly when the join of a and x dominates b.
abbrev pub RaisingNeedsRemainder : Type 0
RaisingNeedsRemainder =
    (m : Meaning) → Lawful m → (α : System) (e : Term) (a b : ℕ) (t : Ty) → infer m α [] e ≡ Some (computation b t) → m.role a ≡ true →
    (c : ℕ) × (m.remainder b a ≡ Some c) × (infer m α [] (raise a e) ≡ Some (computation c t))
    × ((x j : ℕ) → m.join a x ≡ Some j → m.dom x c ≡ m.dom j b)
