-- In a scheme without roles a type is below itself alone, so the rules give a term at most one type, and inference finds it. Assumes nothing.
use Rattle.std.proofs.Common.{◌≡◌, ℕ, zero, suc, true, false, List, ◌∷◌, Some, sym, refl, ◌∙◌, subst, ap₂}
use mathlib.Core.Bool.{false≢true}
use Rattle.std.proofs.lemmas.Bool.{and_parts}
use Rattle.roles.specs.Meaning.{Meaning, Lawful}
use Rattle.calculus.specs.Syntax.{Ty, base, function, guarded, computation, Term}
use Rattle.calculus.specs.Subtyping.{System, Subtype, base_below, function_below, guarded_below, computation_below, well_coded}
use Rattle.calculus.specs.Typing.{claim, Has, has_constant, has_variable, has_abstraction, has_application, has_fix, has_guard, has_check, has_unit, has_let, has_raise, has_restrict, subsumption}
use Rattle.calculus.specs.Inference.{infer}
use Rattle.calculus.specs.Theorems.{CodedEnvironment}
use Rattle.calculus.proofs.Options.{some_same}
use Rattle.calculus.proofs.Laws.{right_role, over_left, remainder_by}
use Rattle.calculus.proofs.Order.{test_left, below_same}
use Rattle.calculus.proofs.Test.{rules_to_test}

coded_more : (m : Meaning) (Γ : List Ty) (t : Ty) → well_coded m t ≡ true → CodedEnvironment m Γ → CodedEnvironment m (t ∷ Γ)
coded_more m Γ t c w zero s e = subst (λ (x : Ty). well_coded m x ≡ true) (some_same e) c
coded_more m Γ t c w (suc i) s e = w i s e

module _ {m : Meaning} (L : Lawful m) (unsound : m.sound ≡ false) (α : System) where
  no_role_lem : {c : ℕ} → m.role c ≡ true → ⊥
  no_role_lem {c} h = false≢true (sym unsound ∙ L.role_sound c h)

  -- what asks for a role is not there
  no_join : {a b c : ℕ} → m.join a b ≡ Some c → ⊥
  no_join h = no_role_lem (right_role L (over_left L h))

  no_remainder : {b a c : ℕ} → m.remainder b a ≡ Some c → ⊥
  no_remainder h = no_role_lem (remainder_by L h)

  below_equal : {t s : Ty} → Subtype m α t s → t ≡ s
  below_equal base_below = refl
  below_equal (function_below h k) = ap₂ function (sym (below_equal h)) (below_equal k)
  below_equal (guarded_below h k) = absurd (no_role_lem (test_left L α _ _ h))
  below_equal (computation_below h k) = absurd (no_role_lem (test_left L α _ _ h))

  -- the codes in what a function takes are roles: they come from a claim or the environment
  abbrev ArgumentsCoded : Ty → Type 0
  ArgumentsCoded (base k) = Unit {0}
  ArgumentsCoded (function t s) = (well_coded m t ≡ true) × ArgumentsCoded s
  ArgumentsCoded (guarded a t) = ArgumentsCoded t
  ArgumentsCoded (computation a t) = ArgumentsCoded t

  coded_arguments : (t : Ty) → well_coded m t ≡ true → ArgumentsCoded t
  coded_arguments (base k) h = tt
  coded_arguments (function t s) h = let p = and_parts (well_coded m t) (well_coded m s) h in (p.0, coded_arguments s p.1)
  coded_arguments (guarded a t) h = coded_arguments t (and_parts (m.role a) (well_coded m t) h).1
  coded_arguments (computation a t) h = coded_arguments t (and_parts (m.role a) (well_coded m t) h).1

  arguments : {Γ : List Ty} {e : Term} {t : Ty} → Has m α Γ e t → CodedEnvironment m Γ → ArgumentsCoded t
  arguments has_constant w = tt
  arguments (has_variable {i = i} {t = t} h) w = coded_arguments t (w i t h)
  arguments (has_abstraction {Γ} {t} {u} c h) w = (c, arguments h (coded_more m Γ (claim α t u) c w))
  arguments (has_application h k) w = (arguments h w).1
  arguments (has_fix h) w = (arguments h w).1
  arguments (has_guard r h) w = absurd (no_role_lem r)
  arguments (has_check h) w = arguments h w
  arguments (has_unit h) w = arguments h w
  arguments (has_let h k j) w = absurd (no_join j)
  arguments (has_raise h j) w = absurd (no_remainder j)
  arguments (has_restrict h r q) w = absurd (no_role_lem r)
  arguments (subsumption h k) w = subst ArgumentsCoded (below_equal k) (arguments h w)

  pub finds_the_type : {Γ : List Ty} {e : Term} {t : Ty} → Has m α Γ e t → CodedEnvironment m Γ → infer m α Γ e ≡ Some t
  unfolding infer
  finds_the_type has_constant w = refl
  finds_the_type (has_variable h) w = h
  finds_the_type (has_abstraction {Γ} {t} {u} c h) w = rw (c, finds_the_type h (coded_more m Γ (claim α t u) c w))
  finds_the_type (has_application {t = t} h k) w = rw (finds_the_type h w, finds_the_type k w, rules_to_test m α (below_same L α t (arguments h w).0))
  finds_the_type (has_fix {t = t} h) w = rw (finds_the_type h w, rules_to_test m α (below_same L α t (arguments h w).0))
  finds_the_type (has_guard r h) w = absurd (no_role_lem r)
  finds_the_type (has_check h) w = rw (finds_the_type h w)
  finds_the_type (has_unit h) w = rw (finds_the_type h w)
  finds_the_type (has_let h k j) w = absurd (no_join j)
  finds_the_type (has_raise h j) w = absurd (no_remainder j)
  finds_the_type (has_restrict h r q) w = absurd (no_role_lem r)
  finds_the_type (subsumption h k) w = finds_the_type h w ∙ (let e = below_equal k in cc)
