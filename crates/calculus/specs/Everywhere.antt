-- Inference in every lawful scheme, with or without roles. Assumes nothing.
use Rattle.std.specs.Prelude.{◌≡◌, true, ◌⊎◌, ◌↔◌, List, Some}
use Rattle.roles.specs.Meaning.{Meaning, Lawful}
use Rattle.calculus.specs.Syntax.{Ty, Term}
use Rattle.calculus.specs.Subtyping.{System, Subtype}
use Rattle.calculus.specs.Typing.{Has}
use Rattle.calculus.specs.Inference.{infer}
use Rattle.calculus.specs.Theorems.{CodedEnvironment}

-- A term has a type by the rules exactly if inference finds one.
abbrev pub InferenceDecidesEverywhere : Type 0
InferenceDecidesEverywhere =
    (m : Meaning) → Lawful m → (α : System) (Γ : List Ty) → CodedEnvironment m Γ → (e : Term) →
    ((t : Ty) × Has m α Γ e t) ↔ ((t : Ty) × (infer m α Γ e ≡ Some t))

-- The type that it finds is one by the rules, and below every other; in a scheme that has roles, below itself too.
abbrev pub InferenceLeastEverywhere : Type 0
InferenceLeastEverywhere =
    (m : Meaning) → Lawful m → (α : System) (Γ : List Ty) → CodedEnvironment m Γ → (e : Term) (t : Ty) → infer m α Γ e ≡ Some t →
    Has m α Γ e t × ((s : Ty) → Has m α Γ e s → (t ≡ s) ⊎ Subtype m α t s) × (m.sound ≡ true → (s : Ty) → Has m α Γ e s → Subtype m α t s)
