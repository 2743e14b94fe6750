-- What is found of a term names types that are there.
use Rattle.std.proofs.Common.{◌≡◌, ℕ, ◌<◌, true, List, is_some, refl, ap, arith}
use Rattle.roles.specs.Meaning.{Meaning, Lawful}
use Rattle.calculus.specs.Subtyping.{System, sufficient, necessary}
use Rattle.tables.specs.declared.entry.Entry.{Entry}
use Rattle.tables.specs.Entries.{at, names, role_tag}
use Rattle.trees.proofs.ByTag.{by_term_tag}
use Rattle.walks.specs.Places.{Grounded}
use Rattle.walks.specs.Rules.{claim_of}
use Rattle.walks.proofs.Goods.{Good, low_base, low_function, low_guarded, low_computation, join_there, remainder_there, type_code, good_applied, good_fixed, good_checked, good_joined, good_raised, good_restricted}
use Rattle.walks.proofs.Unfolding.{tagged}
use Rattle.checks.specs.Judge.{judge_of, Ready}

module _ (m : Meaning) (L : Lawful m) (α : System) (p : ℕ) (T : List Entry) (u f x : ℕ) (gr : Grounded m.role T u) where
  claim_low : (β : System) (e : Entry) → Ready m T u e f x → e.tag ≡ 18 → claim_of β e < u
  claim_low sufficient e r h = omega (arith, r.own.2, (r.own.3.claim h).0)
  claim_low necessary e r h = omega (arith, r.own.2, (r.own.3.claim h).1)

  -- what a term that is ready has
  pub let_there : (e : Entry) → Ready m T u e f x → e.tag ≡ 24 → (at T x).tag ≡ 4 → is_some (m.join (at T f).third (at T x).third) ≡ true
  let_there e r h z =
      let n : names e.tag ≡ 2 = ap names h in
      join_there m L _ _ (type_code m L α p T u gr f (r.two (omega arith)) (r.first h)) (type_code m L α p T u gr x (r.one (omega arith)) z)

  pub raise_there : (e : Entry) → Ready m T u e f x → e.tag ≡ 25 → (at T x).tag ≡ 4 → is_some (m.remainder (at T x).third e.third) ≡ true
  raise_there e r h z =
      let n : names e.tag ≡ 1 = ap names h in
      remainder_there m L _ _ (type_code m L α p T u gr x (r.one (omega arith)) z) (r.own.3.code (ap role_tag h))

  -- by the tags in turn
  pub judge_good : (b : ℕ) (e : Entry) → Ready m T u e f x → (e.tag ≡ 17 → b < u) → Good m.role u (judge_of m α p T e f x b)
  unfolding judge_of
  judge_good b e r =
      by_term_tag (λ e. Ready m T u e f x → (e.tag ≡ 17 → b < u) → Good m.role u (judge_of m α p T e f x b))
      (λ i s c r l. low_base m.role u i (r.own.3.value refl))
      (λ i s c r l. l refl)
      (λ i s c r l. low_function m.role u _ x (claim_low α _ r refl) (r.one (omega arith)))
      (λ i s c r l. good_applied m L α p T u gr f x (r.two (omega arith)))
      (λ i s c r l. good_fixed m L α p T u gr x (r.one (omega arith)))
      (λ i s c r l. low_guarded m.role u c x (r.one (omega arith)) (r.own.3.code refl))
      (λ i s c r l. good_checked m L α p T u gr x (r.one (omega arith)))
      (λ i s c r l. low_computation m.role u m.bottom x (r.one (omega arith)) (L.bottom_role r.sound))
      (λ i s c r l. good_joined m L α p T u gr f x (r.two (omega arith)) (r.first refl) (r.one (omega arith)))
      (λ i s c r l. good_raised m L α p T u gr c x (r.own.3.code refl) (r.one (omega arith)))
      (λ i s c r l. good_restricted m L α p T u gr c x (r.one (omega arith)))
      e (tagged m.role r.own.0 r.own.1 e r.own.3) r
