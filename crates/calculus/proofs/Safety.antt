-- What no run comes to. Assumes nothing.
use Rattle.std.proofs.Common.{◌≡◌, ℕ, true, [], sym, ◌∙◌, inl, inr, true≢false}
use Rattle.roles.specs.Meaning.{Meaning, Lawful}
use Rattle.calculus.specs.Syntax.{Ty, computation, Term}
use Rattle.calculus.specs.Subtyping.{sufficient, necessary}
use Rattle.calculus.specs.Typing.{Has}
use Rattle.calculus.specs.Steps.{IsShapeFault, Reaches, here, onward}
use Rattle.calculus.specs.Theorems.{StepsKeepType, SufficientSafety, NecessarySafety}
use Rattle.calculus.proofs.Progress.{Goes, typed_goes, sufficient_faultless}
use Rattle.calculus.proofs.Keeping.{sufficient_kept, value_needs_nothing, necessary_kept}

goes_fits : {m : Meaning} {r : ℕ} {e : Term} → Goes m r e → IsShapeFault m r e → ⊥
goes_fits (inl v) f = f.0 v
goes_fits (inr (inl s)) f = f.1 s
goes_fits (inr (inr k)) f = f.2 k

module _ {m : Meaning} (L : Lawful m) {r : ℕ} (w : m.role r ≡ true) where
  sound : m.sound ≡ true
  sound = L.role_sound r w

  -- a bound that the role does not dominate stays one that it does not dominate
  necessary_reached : {e e' : Term} {b : ℕ} {t : Ty} → Has m necessary [] e (computation b t) → (m.dom r b ≡ true → ⊥) → Reaches m r e e' →
      (b' : ℕ) × Has m necessary [] e' (computation b' t) × (m.dom r b' ≡ true → ⊥)
  necessary_reached {b = b} h f here = (b, h, f)
  necessary_reached h f (onward s k) =
      let i = necessary_kept L sound h s in
      necessary_reached i.1 (λ d. f (i.2 r (L.reflexive r w) d)) k

pub steps_keep_type_lem : StepsKeepType sufficient
steps_keep_type_lem m L r e e' t h w here = h
steps_keep_type_lem m L r e e' t h w (onward {e' = e₁} s k) = steps_keep_type_lem m L r e₁ e' t (sufficient_kept L (L.role_sound r w) h s) w k

pub sufficient_safety_lem : SufficientSafety
sufficient_safety_lem m L r e e' t h w g k =
    let s = L.role_sound r w in
    let i = steps_keep_type_lem m L r e e' t h w k in
    (sufficient_faultless L s i g, goes_fits (typed_goes L s i r w))

pub necessary_safety_lem : NecessarySafety
necessary_safety_lem m L r e e' b t h w d k =
    let s = L.role_sound r w in
    let i = necessary_reached L w h (λ p. true≢false (sym p ∙ d)) k in
    ((λ v. i.2 (value_needs_nothing L s v i.1 r w)), goes_fits (typed_goes L s i.1 r w))
