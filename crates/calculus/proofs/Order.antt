-- Subtyping is a partial order on the types whose codes are roles, and relates no others. Assumes nothing.
use Rattle.std.proofs.Common.{◌≡◌, ℕ, true, sym, refl, ap₂}
use Rattle.std.proofs.lemmas.Bool.{and_parts, and_from}
use Rattle.roles.specs.Meaning.{Meaning, Lawful}
use Rattle.calculus.specs.Syntax.{Ty, base, function, guarded, computation}
use Rattle.calculus.specs.Subtyping.{System, sufficient, necessary, role_test, Subtype, base_below, function_below, guarded_below, computation_below, well_coded}
use Rattle.calculus.specs.Theorems.{SubtypingReflexive, SubtypingTransitive, SubtypingAntisymmetric}
use Rattle.calculus.proofs.Laws.{left_role, right_role, across}

module _ {m : Meaning} (L : Lawful m) where
  pub test_left : (α : System) (a b : ℕ) → role_test m α a b ≡ true → m.role a ≡ true
  test_left sufficient a b h = right_role L h
  test_left necessary a b h = left_role L h

  pub test_right : (α : System) (a b : ℕ) → role_test m α a b ≡ true → m.role b ≡ true
  test_right sufficient a b h = left_role L h
  test_right necessary a b h = right_role L h

  pub test_same : (α : System) (a : ℕ) → m.role a ≡ true → role_test m α a a ≡ true
  test_same sufficient a h = L.reflexive a h
  test_same necessary a h = L.reflexive a h

  test_across : (α : System) (a b c : ℕ) → role_test m α a b ≡ true → role_test m α b c ≡ true → role_test m α a c ≡ true
  test_across sufficient a b c h k = across L k h
  test_across necessary a b c h k = across L h k

  test_both : (α : System) (a b : ℕ) → role_test m α a b ≡ true → role_test m α b a ≡ true → a ≡ b
  test_both sufficient a b h k = L.antisymmetric a b k h
  test_both necessary a b h k = L.antisymmetric a b h k

  pub below_coded : (α : System) {t s : Ty} → Subtype m α t s → (well_coded m t ≡ true) × (well_coded m s ≡ true)
  below_coded α base_below = (refl, refl)
  below_coded α (function_below h k) =
      let p = below_coded α h in
      let q = below_coded α k in
      (and_from _ _ p.1 q.0, and_from _ _ p.0 q.1)
  below_coded α (guarded_below h k) = let q = below_coded α k in (and_from _ _ (test_left α _ _ h) q.0, and_from _ _ (test_right α _ _ h) q.1)
  below_coded α (computation_below h k) = let q = below_coded α k in (and_from _ _ (test_left α _ _ h) q.0, and_from _ _ (test_right α _ _ h) q.1)

  pub below_same : (α : System) (t : Ty) → well_coded m t ≡ true → Subtype m α t t
  below_same α (base k) h = base_below
  below_same α (function t s) h = let p = and_parts (well_coded m t) (well_coded m s) h in function_below (below_same α t p.0) (below_same α s p.1)
  below_same α (guarded a t) h = let p = and_parts (m.role a) (well_coded m t) h in guarded_below (test_same α a p.0) (below_same α t p.1)
  below_same α (computation a t) h = let p = and_parts (m.role a) (well_coded m t) h in computation_below (test_same α a p.0) (below_same α t p.1)

  -- by recursion on the middle type, since the argument of a function turns round
  pub below_across : (α : System) (s : Ty) {t u : Ty} → Subtype m α t s → Subtype m α s u → Subtype m α t u
  below_across α (base k) base_below base_below = base_below
  below_across α (function x y) (function_below h k) (function_below h' k') = function_below (below_across α x h' h) (below_across α y k k')
  below_across α (guarded b x) (guarded_below h k) (guarded_below h' k') = guarded_below (test_across α _ _ _ h h') (below_across α x k k')
  below_across α (computation b x) (computation_below h k) (computation_below h' k') = computation_below (test_across α _ _ _ h h') (below_across α x k k')

  below_both : (α : System) {t s : Ty} → Subtype m α t s → Subtype m α s t → t ≡ s
  below_both α base_below k = refl
  below_both α (function_below h k) (function_below h' k') = ap₂ function (sym (below_both α h h')) (below_both α k k')
  below_both α (guarded_below h k) (guarded_below h' k') = ap₂ guarded (test_both α _ _ h h') (below_both α k k')
  below_both α (computation_below h k) (computation_below h' k') = ap₂ computation (test_both α _ _ h h') (below_both α k k')

pub subtyping_reflexive_lem : SubtypingReflexive
subtyping_reflexive_lem m L α t h = below_same L α t h

pub subtyping_transitive_lem : SubtypingTransitive
subtyping_transitive_lem m L α t s u h k = below_across L α s h k

pub subtyping_antisymmetric_lem : SubtypingAntisymmetric
subtyping_antisymmetric_lem m L α t s h k = below_both L α h k
