-- What is found of a term names types that are there.
use Rattle.std.proofs.Common.{◌≡◌, ℕ, ◌<◌, ◌≤◌, Bool, true, false, eqb, List, is_some, Some, None, Option, Ok, Err, refl, ◌∙◌, arith}
use mathlib.Core.Bool.{false≢true}
use Rattle.std.proofs.lemmas.Bool.{eqb-true, and_from}
use Rattle.roles.specs.Meaning.{Meaning, Lawful}
use Rattle.calculus.specs.Subtyping.{System}
use Rattle.calculus.specs.Typing.{permits}
use Rattle.tables.specs.declared.entry.Entry.{Entry}
use Rattle.tables.specs.Entries.{at}
use Rattle.walks.specs.declared.fault.TypingFault.{TypingFault}
use Rattle.walks.specs.declared.finding.Finding.TheVariants.{Known, New}
use Rattle.walks.specs.Places.{Low, Grounded}
use Rattle.walks.specs.Rules.{Judged, known, fresh, base_type, function_type, guarded_type, computation_type, role_of, asked, below, applied, fixed, checked, joined, raised, restricted}

-- what is found names types that are there
abbrev pub Good : (ℕ → Bool) → ℕ → Judged → Type 0
Good role u (Err c) = Unit {0}
Good role u (Ok (Known x)) = x < u
Good role u (Ok (New e)) = Low role u e

module _ (role : ℕ → Bool) (u : ℕ) where
  pub low_base : (k : ℕ) → k ≤ 2 → Low role u (base_type k)
  low_base k h = record { some = omega arith; most = omega arith; kind = λ _. h; one = λ z. omega arith; two = λ z. omega arith; code = λ z. let y : ⊥ = omega arith in absurd y }

  pub low_function : (x y : ℕ) → x < u → y < u → Low role u (function_type x y)
  low_function x y h i = record { some = omega arith; most = omega arith; kind = λ z. omega arith; one = λ _. h; two = λ _. i; code = λ z. let y : ⊥ = omega arith in absurd y }

  -- a type with a role
  low_coded : (k a x : ℕ) → 3 ≤ k → k ≤ 4 → x < u → role a ≡ true → Low role u (record { tag = k; first = x; second = 0; third = a })
  low_coded k a x l m h r = record { some = omega arith; most = m; kind = λ z. omega arith; one = λ _. h; two = λ z. omega arith; code = λ _. r }

  pub low_guarded : (a x : ℕ) → x < u → role a ≡ true → Low role u (guarded_type a x)
  low_guarded a x h r = low_coded 3 a x (omega arith) (omega arith) h r

  pub low_computation : (a x : ℕ) → x < u → role a ≡ true → Low role u (computation_type a x)
  low_computation a x h r = low_coded 4 a x (omega arith) (omega arith) h r

  good_asked : (b : Bool) (c : TypingFault) (j : Judged) → (b ≡ true → Good role u j) → Good role u (asked b c j)
  good_asked true c j p = p refl
  good_asked false c j p = tt

answered : (role : ℕ → Bool) (o : Option ℕ) → is_some o ≡ true → ((c : ℕ) → o ≡ Some c → role c ≡ true) → role (role_of o) ≡ true
answered role None h k = absurd (false≢true h)
answered role (Some c) h k = k c refl

pub join_there : (m : Meaning) → Lawful m → (a b : ℕ) → m.role a ≡ true → m.role b ≡ true → is_some (m.join a b) ≡ true
join_there m L a b p q = L.join_some a b ∙ and_from _ _ p q

pub remainder_there : (m : Meaning) → Lawful m → (b a : ℕ) → m.role b ≡ true → m.role a ≡ true → is_some (m.remainder b a) ≡ true
remainder_there m L b a p q = L.remainder_some b a ∙ and_from _ _ p q

module _ (m : Meaning) (L : Lawful m) (α : System) (p : ℕ) (T : List Entry) (u : ℕ) (g : Grounded m.role T u) where
  part_one : (k : ℕ) → k < u → 2 ≤ (at T k).tag → (at T k).first < u
  part_one k h l = omega (arith, (g k h).one l)

  part_two : (k : ℕ) → k < u → (at T k).tag ≡ 2 → (at T k).second < u
  part_two k h l = omega (arith, (g k h).two l)

  -- the role of a computation that is there
  pub type_code : (k : ℕ) → k < u → (at T k).tag ≡ 4 → m.role (at T k).third ≡ true
  type_code k h z = (g k h).code (omega arith)

  pub good_applied : (f x : ℕ) → f < u → Good m.role u (applied m α p T f x)
  good_applied f x h = good_asked m.role u (eqb (at T f).tag 2) _ _ (λ z. good_asked m.role u (below m α T x (at T f).first) _ (known (at T f).second) (λ _. part_two f h (eqb-true (at T f).tag 2 z)))

  pub good_fixed : (x : ℕ) → x < u → Good m.role u (fixed m α p T x)
  good_fixed x h = good_asked m.role u (eqb (at T x).tag 2) _ _ (λ z. good_asked m.role u (below m α T (at T x).second (at T x).first) _ (known (at T x).second) (λ _. part_two x h (eqb-true (at T x).tag 2 z)))

  pub good_checked : (x : ℕ) → x < u → Good m.role u (checked p T x)
  good_checked x h = good_asked m.role u (eqb (at T x).tag 3) _ (fresh (computation_type (at T x).third (at T x).first)) (λ z. let q = eqb-true (at T x).tag 3 z in low_computation m.role u (at T x).third (at T x).first (part_one x h (omega arith)) ((g x h).code (omega arith)))

  pub good_joined : (f x : ℕ) → f < u → (at T f).tag ≡ 4 → x < u → Good m.role u (joined m p T f x)
  good_joined f x hf t h =
      good_asked m.role u (eqb (at T x).tag 4) _ (fresh (computation_type (role_of (m.join (at T f).third (at T x).third)) (at T x).first))
      (λ z.
      let q = eqb-true (at T x).tag 4 z in
      low_computation m.role u _ (at T x).first (part_one x h (omega arith))
      (answered m.role (m.join (at T f).third (at T x).third) (join_there m L _ _ (type_code f hf t) (type_code x h q)) (λ c o. (L.dom_roles c (at T f).third (L.join_upper (at T f).third (at T x).third c o).0).0)))

  pub good_raised : (a x : ℕ) → m.role a ≡ true → x < u → Good m.role u (raised m p T a x)
  good_raised a x r h =
      good_asked m.role u (eqb (at T x).tag 4) _ (fresh (computation_type (role_of (m.remainder (at T x).third a)) (at T x).first))
      (λ z.
      let q = eqb-true (at T x).tag 4 z in
      low_computation m.role u _ (at T x).first (part_one x h (omega arith))
      (answered m.role (m.remainder (at T x).third a) (remainder_there m L _ _ (type_code x h q) r) (λ c o. L.remainder_role (at T x).third a c o)))

  pub good_restricted : (a x : ℕ) → x < u → Good m.role u (restricted m α p T a x)
  good_restricted a x h =
      good_asked m.role u (eqb (at T x).tag 4) _ _
      (λ z.
      let q = eqb-true (at T x).tag 4 z in
      good_asked m.role u (permits m α a (at T x).third) _ (fresh (computation_type (at T x).third (at T x).first))
      (λ _. low_computation m.role u (at T x).third (at T x).first (part_one x h (omega arith)) (type_code x h q)))
