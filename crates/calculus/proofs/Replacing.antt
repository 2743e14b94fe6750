-- A closed term of the variable's type may be put in for the variable. Assumes nothing.
use Rattle.std.proofs.Common.{◌≡◌, ℕ, zero, suc, true, false, cond, eqb, ◌⊎◌, List, [], ◌∷◌, ◌++◌, length, Some, refl, ap, ◌∙◌, subst, inl, inr}
use lib.Dec.{eqb-zero-suc, eqb-suc-suc}
use Rattle.roles.specs.Meaning.{Meaning}
use Rattle.calculus.specs.Syntax.{Ty, Term, variable}
use Rattle.calculus.specs.Substitution.{substitute}
use Rattle.calculus.specs.Subtyping.{System}
use Rattle.calculus.specs.Typing.{lookup, claim, Has, has_constant, has_variable, has_abstraction, has_application, has_fix, has_guard, has_check, has_unit, has_let, has_raise, has_restrict, subsumption}
use Rattle.calculus.proofs.Options.{none_some, some_same}

-- what stands at i where one type is added behind the others: the added one or an old one
Found : List Ty → Ty → ℕ → Ty → Type 0
Found Γ t i s = ((eqb i (length Γ) ≡ true) × (t ≡ s)) ⊎ ((eqb i (length Γ) ≡ false) × (lookup Γ i ≡ Some s))

found : (Γ : List Ty) (t : Ty) (i : ℕ) (s : Ty) → lookup (Γ ++ (t ∷ [])) i ≡ Some s → Found Γ t i s
unfolding Found
found [] t zero s e = inl (refl, some_same e)
found [] t (suc i) s e = absurd (none_some e)
found (r ∷ Γ) t zero s e = inr (eqb-zero-suc (length Γ), e)
found (r ∷ Γ) t (suc i) s e = go (found Γ t i s e)
  where
    go : Found Γ t i s → Found (r ∷ Γ) t (suc i) s
    go (inl p) = inl (eqb-suc-suc i (length Γ) ∙ p.0, p.1)
    go (inr p) = inr (eqb-suc-suc i (length Γ) ∙ p.0, p.1)

-- the first variables have the same types in a longer environment
lookup_more : (Γ Δ : List Ty) (i : ℕ) (t : Ty) → lookup Γ i ≡ Some t → lookup (Γ ++ Δ) i ≡ Some t
lookup_more [] Δ i t e = absurd (none_some e)
lookup_more (s ∷ Γ) Δ zero t e = e
lookup_more (s ∷ Γ) Δ (suc i) t e = lookup_more Γ Δ i t e

module _ {m : Meaning} {α : System} where
  weaken : {Γ : List Ty} {e : Term} {t : Ty} → Has m α Γ e t → (Δ : List Ty) → Has m α (Γ ++ Δ) e t
  weaken has_constant Δ = has_constant
  weaken (has_variable {Γ} {i} {t} h) Δ = has_variable (lookup_more Γ Δ i t h)
  weaken (has_abstraction w h) Δ = has_abstraction w (weaken h Δ)
  weaken (has_application h k) Δ = has_application (weaken h Δ) (weaken k Δ)
  weaken (has_fix h) Δ = has_fix (weaken h Δ)
  weaken (has_guard w h) Δ = has_guard w (weaken h Δ)
  weaken (has_check h) Δ = has_check (weaken h Δ)
  weaken (has_unit h) Δ = has_unit (weaken h Δ)
  weaken (has_let h k j) Δ = has_let (weaken h Δ) (weaken k Δ) j
  weaken (has_raise h j) Δ = has_raise (weaken h Δ) j
  weaken (has_restrict h w q) Δ = has_restrict (weaken h Δ) w q
  weaken (subsumption h k) Δ = subsumption (weaken h Δ) k

  replace_variable : (Γ : List Ty) (n : Term) (t : Ty) (i : ℕ) (s : Ty) → Has m α [] n t → Found Γ t i s → Has m α Γ (cond (eqb i (length Γ)) n (variable i)) s
  unfolding Found
  replace_variable Γ n t i s g (inl p) = rw p.0 (subst (λ (x : Ty). Has m α Γ n x) p.1 (weaken g Γ))
  replace_variable Γ n t i s g (inr p) = rw p.0 (has_variable p.1)

  replace : {n : Term} {t : Ty} {Θ : List Ty} {e : Term} {s : Ty} → Has m α [] n t → Has m α Θ e s → (Γ : List Ty) → Θ ≡ Γ ++ (t ∷ []) → Has m α Γ (substitute (length Γ) n e) s
  replace g has_constant Γ p = has_constant
  replace {n} {t} g (has_variable {i = i} {t = s} h) Γ p = replace_variable Γ n t i s g (found Γ t i s (rw p at h))
  replace g (has_abstraction {t = t} {u = u} w h) Γ p = has_abstraction w (replace g h (claim α t u ∷ Γ) (ap (λ x. claim α t u ∷ x) p))
  replace g (has_application h k) Γ p = has_application (replace g h Γ p) (replace g k Γ p)
  replace g (has_fix h) Γ p = has_fix (replace g h Γ p)
  replace g (has_guard w h) Γ p = has_guard w (replace g h Γ p)
  replace g (has_check h) Γ p = has_check (replace g h Γ p)
  replace g (has_unit h) Γ p = has_unit (replace g h Γ p)
  replace g (has_let {t = r} h k j) Γ p = has_let (replace g h Γ p) (replace g k (r ∷ Γ) (ap (λ x. r ∷ x) p)) j
  replace g (has_raise h j) Γ p = has_raise (replace g h Γ p) j
  replace g (has_restrict h w q) Γ p = has_restrict (replace g h Γ p) w q
  replace g (subsumption h k) Γ p = subsumption (replace g h Γ p) k

  pub replace_only : {n : Term} {t : Ty} {e : Term} {s : Ty} → Has m α [] n t → Has m α (t ∷ []) e s → Has m α [] (substitute 0 n e) s
  replace_only g h = replace g h [] refl
