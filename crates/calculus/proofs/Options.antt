-- What is known of an answer that is there. Assumes nothing.
use Rattle.std.proofs.Common.{◌≡◌, ℕ, Bool, true, false, is_some, Some, None, Option, sym, refl, subst}
use mathlib.Core.Bool.{false≢true}
use Rattle.calculus.specs.Syntax.{Ty, base, function, guarded, computation}
use Rattle.calculus.specs.Inference.{given, on_some, on_function, on_guarded, on_computation}

abbrev There : {A : Type 0} → Option A → Type 0
There None = ⊥
There (Some a) = Unit {0}

pub none_some : {A : Type 0} {a : A} → None ≡ Some a → ⊥
none_some e = subst There (sym e) tt

pub some_same : {A : Type 0} {a b : A} → Some a ≡ Some b → a ≡ b
some_same e = cc

pub some_there : (o : Option ℕ) → is_some o ≡ true → (c : ℕ) × (o ≡ Some c)
some_there None h = absurd (false≢true h)
some_there (Some c) h = (c, refl)

-- the parts of an answer
pub given_parts : (b : Bool) {o : Option Ty} {t : Ty} → given b o ≡ Some t → (b ≡ true) × (o ≡ Some t)
given_parts true e = (refl, e)
given_parts false e = absurd (none_some e)

pub some_parts : {A : Type 0} (o : Option A) (f : A → Option Ty) {t : Ty} → on_some o f ≡ Some t → (a : A) × (o ≡ Some a) × (f a ≡ Some t)
some_parts None f e = absurd (none_some e)
some_parts (Some a) f e = (a, refl, e)

pub function_parts : (o : Option Ty) (f : Ty → Ty → Option Ty) {r : Ty} → on_function o f ≡ Some r → (t s : Ty) × (o ≡ Some (function t s)) × (f t s ≡ Some r)
function_parts None f e = absurd (none_some e)
function_parts (Some (base k)) f e = absurd (none_some e)
function_parts (Some (function t s)) f e = (t, s, refl, e)
function_parts (Some (guarded a t)) f e = absurd (none_some e)
function_parts (Some (computation a t)) f e = absurd (none_some e)

pub guarded_parts : (o : Option Ty) (f : ℕ → Ty → Option Ty) {r : Ty} → on_guarded o f ≡ Some r → (a : ℕ) × (t : Ty) × (o ≡ Some (guarded a t)) × (f a t ≡ Some r)
guarded_parts None f e = absurd (none_some e)
guarded_parts (Some (base k)) f e = absurd (none_some e)
guarded_parts (Some (function t s)) f e = absurd (none_some e)
guarded_parts (Some (guarded a t)) f e = (a, t, refl, e)
guarded_parts (Some (computation a t)) f e = absurd (none_some e)

pub computation_parts : (o : Option Ty) (f : ℕ → Ty → Option Ty) {r : Ty} → on_computation o f ≡ Some r → (a : ℕ) × (t : Ty) × (o ≡ Some (computation a t)) × (f a t ≡ Some r)
computation_parts None f e = absurd (none_some e)
computation_parts (Some (base k)) f e = absurd (none_some e)
computation_parts (Some (function t s)) f e = absurd (none_some e)
computation_parts (Some (guarded a t)) f e = absurd (none_some e)
computation_parts (Some (computation a t)) f e = (a, t, refl, e)
