-- What the type of a closed term says: its codes are roles, and a value has the parts that its type names. Assumes nothing.
use Rattle.std.proofs.Common.{◌≡◌, ℕ, zero, suc, true, List, [], ◌∷◌, refl, subst}
use Rattle.std.proofs.lemmas.Bool.{and_parts, and_from}
use Rattle.roles.specs.Meaning.{Meaning, Lawful}
use Rattle.roles.proofs.Deciding.{join_role}
use Rattle.calculus.specs.Syntax.{Kind, Ty, base, function, guarded, computation, Term, constant, abstraction, guard, unit}
use Rattle.calculus.specs.Subtyping.{System, role_test, Subtype, base_below, function_below, guarded_below, computation_below, well_coded}
use Rattle.calculus.specs.Typing.{claim, Has, has_constant, has_variable, has_abstraction, has_application, has_fix, has_guard, has_check, has_unit, has_let, has_raise, has_restrict, subsumption}
use Rattle.calculus.specs.Theorems.{CodedEnvironment}
use Rattle.calculus.proofs.Options.{none_some, some_same}
use Rattle.calculus.proofs.Laws.{remainder_role}
use Rattle.calculus.proofs.Order.{below_coded, below_same, below_across}

well_coded_more : (m : Meaning) (Γ : List Ty) (t : Ty) → well_coded m t ≡ true → CodedEnvironment m Γ → CodedEnvironment m (t ∷ Γ)
well_coded_more m Γ t h g zero r e = subst (λ (x : Ty). well_coded m x ≡ true) (some_same e) h
well_coded_more m Γ t h g (suc i) r e = g i r e

well_coded_none : (m : Meaning) → CodedEnvironment m []
well_coded_none m i t e = absurd (none_some e)

module _ {m : Meaning} (L : Lawful m) (sound : m.sound ≡ true) {α : System} where
  -- what has a type has one whose codes are roles
  has_coded : {Γ : List Ty} {e : Term} {t : Ty} → Has m α Γ e t → CodedEnvironment m Γ → well_coded m t ≡ true
  has_coded has_constant g = refl
  has_coded (has_variable {i = i} {t = t} h) g = g i t h
  has_coded (has_abstraction {Γ} {t} {u} w h) g = and_from _ _ w (has_coded h (well_coded_more m Γ (claim α t u) w g))
  has_coded (has_application {t = t} {s = s} h k) g = (and_parts (well_coded m t) (well_coded m s) (has_coded h g)).1
  has_coded (has_fix {t = t} h) g = (and_parts (well_coded m t) (well_coded m t) (has_coded h g)).1
  has_coded (has_guard w h) g = and_from _ _ w (has_coded h g)
  has_coded (has_check h) g = has_coded h g
  has_coded (has_unit h) g = and_from _ _ (L.bottom_role sound) (has_coded h g)
  has_coded (has_let {Γ} {a} {b} {c} {t = t} {s = s} h k j) g =
      let p = and_parts (m.role a) (well_coded m t) (has_coded h g) in
      let q = and_parts (m.role b) (well_coded m s) (has_coded k (well_coded_more m Γ t p.1 g)) in
      and_from _ _ (join_role L a b c j) q.1
  has_coded (has_raise {b = b} {t = t} h j) g = and_from _ _ (remainder_role L j) (and_parts (m.role b) (well_coded m t) (has_coded h g)).1
  has_coded (has_restrict h w q) g = has_coded h g
  has_coded (subsumption h k) g = (below_coded L α k).1

  pub type_coded : {e : Term} {t : Ty} → Has m α [] e t → well_coded m t ≡ true
  type_coded h = has_coded h (well_coded_none m)

  pub bound_role : {e : Term} {b : ℕ} {t : Ty} → Has m α [] e (computation b t) → m.role b ≡ true
  bound_role {b = b} {t = t} h = (and_parts (m.role b) (well_coded m t) (type_coded h)).0

  pub bound_inner : {e : Term} {b : ℕ} {t : Ty} → Has m α [] e (computation b t) → Subtype m α t t
  bound_inner {b = b} {t = t} h = below_same L α t (and_parts (m.role b) (well_coded m t) (type_coded h)).1

  pub type_same : {e : Term} {t : Ty} → Has m α [] e t → Subtype m α t t
  type_same {t = t} h = below_same L α t (type_coded h)

  -- the type of a value is above the one that its form gives
  pub of_constant : {k : Kind} {p : ℕ} {t : Ty} → Has m α [] (constant k p) t → Subtype m α (base k) t
  of_constant has_constant = base_below
  of_constant (subsumption {t = t} h k) = below_across L α t (of_constant h) k

  pub of_abstraction : {t u r : Ty} {e : Term} → Has m α [] (abstraction t u e) r → (s : Ty) × Has m α (claim α t u ∷ []) e s × Subtype m α (function (claim α t u) s) r
  of_abstraction (has_abstraction {s = s} w h) = (s, h, type_same (has_abstraction w h))
  of_abstraction (subsumption {t = t} h k) = let i = of_abstraction h in (i.0, i.1, below_across L α t i.2 k)

  pub of_guard : {a : ℕ} {e : Term} {r : Ty} → Has m α [] (guard a e) r → (s : Ty) × Has m α [] e s × Subtype m α (guarded a s) r
  of_guard (has_guard {t = s} w h) = (s, h, type_same (has_guard w h))
  of_guard (subsumption {t = t} h k) = let i = of_guard h in (i.0, i.1, below_across L α t i.2 k)

  pub of_unit : {e : Term} {r : Ty} → Has m α [] (unit e) r → (s : Ty) × Has m α [] e s × Subtype m α (computation m.bottom s) r
  of_unit (has_unit {t = s} h) = (s, h, type_same (has_unit h))
  of_unit (subsumption {t = t} h k) = let i = of_unit h in (i.0, i.1, below_across L α t i.2 k)

  -- the same at a type of the form's own shape
  pub abstraction_at : {t u r s : Ty} {e : Term} → Has m α [] (abstraction t u e) (function r s) → Subtype m α r (claim α t u) × Has m α (claim α t u ∷ []) e s
  abstraction_at {t} {u} {r} {s} {e} h = let i = of_abstraction h in go i.1 i.2
    where
      go : {x : Ty} → Has m α (claim α t u ∷ []) e x → Subtype m α (function (claim α t u) x) (function r s) → Subtype m α r (claim α t u) × Has m α (claim α t u ∷ []) e s
      go h (function_below k l) = (k, subsumption h l)

  pub guard_at : {a b : ℕ} {e : Term} {t : Ty} → Has m α [] (guard a e) (guarded b t) → (role_test m α a b ≡ true) × Has m α [] e t
  guard_at {a} {b} {e} {t} h = let i = of_guard h in go i.1 i.2
    where
      go : {x : Ty} → Has m α [] e x → Subtype m α (guarded a x) (guarded b t) → (role_test m α a b ≡ true) × Has m α [] e t
      go h (guarded_below k l) = (k, subsumption h l)

  pub unit_at : {b : ℕ} {e : Term} {t : Ty} → Has m α [] (unit e) (computation b t) → (role_test m α m.bottom b ≡ true) × Has m α [] e t
  unit_at {b} {e} {t} h = let i = of_unit h in go i.1 i.2
    where
      go : {x : Ty} → Has m α [] e x → Subtype m α (computation m.bottom x) (computation b t) → (role_test m α m.bottom b ≡ true) × Has m α [] e t
      go h (computation_below k l) = (k, subsumption h l)
