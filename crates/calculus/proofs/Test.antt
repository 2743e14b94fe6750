-- The subtype test passes exactly where the rules of subtyping do. Assumes nothing.
use Rattle.std.proofs.Common.{◌≡◌, ℕ, Bool, true, false, not, eqb, refl, subst}
use mathlib.Core.Bool.{false≢true}
use Rattle.std.proofs.lemmas.Bool.{and_parts, and_from}
use Rattle.roles.specs.Meaning.{Meaning}
use Rattle.calculus.specs.Syntax.{Kind, unit_kind, number_kind, text_kind, kind_number, Ty, base, function, guarded, computation}
use Rattle.calculus.specs.Subtyping.{System, Subtype, base_below, function_below, guarded_below, computation_below}
use Rattle.calculus.specs.Inference.{role_test_way, related, is_subtype}
use Rattle.calculus.specs.Theorems.{SubtypingDecided}

kind_same : (k : Kind) → eqb (kind_number k) (kind_number k) ≡ true
kind_same unit_kind = refl
kind_same number_kind = refl
kind_same text_kind = refl

same_kind : (k l : Kind) → eqb (kind_number k) (kind_number l) ≡ true → k ≡ l
same_kind unit_kind unit_kind h = refl
same_kind unit_kind number_kind h = absurd (false≢true h)
same_kind unit_kind text_kind h = absurd (false≢true h)
same_kind number_kind unit_kind h = absurd (false≢true h)
same_kind number_kind number_kind h = refl
same_kind number_kind text_kind h = absurd (false≢true h)
same_kind text_kind unit_kind h = absurd (false≢true h)
same_kind text_kind number_kind h = absurd (false≢true h)
same_kind text_kind text_kind h = refl

module _ (m : Meaning) (α : System) where
  -- below, or above
  abbrev Way : Bool → Ty → Ty → Type 0
  Way true t s = Subtype m α t s
  Way false t s = Subtype m α s t

  way_base : (way : Bool) (k l : Kind) → k ≡ l → Way way (base k) (base l)
  way_base true k l e = subst (λ (x : Kind). Subtype m α (base k) (base x)) e base_below
  way_base false k l e = subst (λ (x : Kind). Subtype m α (base x) (base k)) e base_below

  way_function : (way : Bool) (t s t' s' : Ty) → Way (not way) t t' → Way way s s' → Way way (function t s) (function t' s')
  way_function true t s t' s' h k = function_below h k
  way_function false t s t' s' h k = function_below h k

  way_guarded : (way : Bool) (a b : ℕ) (t t' : Ty) → role_test_way m α way a b ≡ true → Way way t t' → Way way (guarded a t) (guarded b t')
  way_guarded true a b t t' h k = guarded_below h k
  way_guarded false a b t t' h k = guarded_below h k

  way_computation : (way : Bool) (a b : ℕ) (t t' : Ty) → role_test_way m α way a b ≡ true → Way way t t' → Way way (computation a t) (computation b t')
  way_computation true a b t t' h k = computation_below h k
  way_computation false a b t t' h k = computation_below h k

  test_sound : (way : Bool) (t s : Ty) → related m α way t s ≡ true → Way way t s
  test_sound way (base k) (base l) h = way_base way k l (same_kind k l h)
  test_sound way (function t s) (function t' s') h =
      let p = and_parts (related m α (not way) t t') (related m α way s s') h in
      way_function way t s t' s' (test_sound (not way) t t' p.0) (test_sound way s s' p.1)
  test_sound way (guarded a t) (guarded b t') h =
      let p = and_parts (role_test_way m α way a b) (related m α way t t') h in
      way_guarded way a b t t' p.0 (test_sound way t t' p.1)
  test_sound way (computation a t) (computation b t') h =
      let p = and_parts (role_test_way m α way a b) (related m α way t t') h in
      way_computation way a b t t' p.0 (test_sound way t t' p.1)
  test_sound way (base k) (function t' s') h = absurd (false≢true h)
  test_sound way (base k) (guarded b t') h = absurd (false≢true h)
  test_sound way (base k) (computation b t') h = absurd (false≢true h)
  test_sound way (function t s) (base l) h = absurd (false≢true h)
  test_sound way (function t s) (guarded b t') h = absurd (false≢true h)
  test_sound way (function t s) (computation b t') h = absurd (false≢true h)
  test_sound way (guarded a t) (base l) h = absurd (false≢true h)
  test_sound way (guarded a t) (function t' s') h = absurd (false≢true h)
  test_sound way (guarded a t) (computation b t') h = absurd (false≢true h)
  test_sound way (computation a t) (base l) h = absurd (false≢true h)
  test_sound way (computation a t) (function t' s') h = absurd (false≢true h)
  test_sound way (computation a t) (guarded b t') h = absurd (false≢true h)

  test_complete : {t s : Ty} → Subtype m α t s → (related m α true t s ≡ true) × (related m α false s t ≡ true)
  test_complete (base_below {k}) = (kind_same k, kind_same k)
  test_complete (function_below h k) =
      let p = test_complete h in
      let q = test_complete k in
      (and_from _ _ p.1 q.0, and_from _ _ p.0 q.1)
  test_complete (guarded_below h k) = let q = test_complete k in (and_from _ _ h q.0, and_from _ _ h q.1)
  test_complete (computation_below h k) = let q = test_complete k in (and_from _ _ h q.0, and_from _ _ h q.1)

  pub test_to_rules : (t s : Ty) → is_subtype m α t s ≡ true → Subtype m α t s
  test_to_rules t s h = test_sound true t s h

  pub rules_to_test : {t s : Ty} → Subtype m α t s → is_subtype m α t s ≡ true
  rules_to_test h = (test_complete h).0

pub subtyping_decided_lem : SubtypingDecided
subtyping_decided_lem m α t s = (test_to_rules m α t s, rules_to_test m α)
