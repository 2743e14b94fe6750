-- The entries of a formed job, as a walk uses them.
use Rattle.std.proofs.Common.{◌≡◌, ℕ, ◌<◌, ◌≤◌, Bool, true, false, not, ◌&&◌, ◌||◌, eqb, ltb, leb, ◌⊎◌, List, length, take, subst, inl, inr, arith}
use mathlib.Core.Bool.{false≢true}
use Rattle.std.proofs.lemmas.List.{get_or-take, length-take-le}
use Rattle.std.proofs.lemmas.Bool.{and_parts, leb-true, ltb-true, cases_eq, ne_eqb}
use Rattle.std.proofs.lemmas.Bool.Decides.{nat_tests}
use Rattle.roles.specs.Meaning.{Meaning}
use Rattle.tables.specs.declared.entry.Entry.{Entry}
use Rattle.tables.specs.Entries.{at, no_entry, names, role_tag, type_tag, type_operands, term_tag, term_operands, role_fits, operand_of}
use Rattle.tables.specs.Lower.{Lower}
use Rattle.tables.proofs.Rooting.{operands_lower}
use Rattle.trees.proofs.ByTag.{by_type_tag}
use Rattle.walks.specs.Places.{Low, Grounded, Placed, Rooted, Walkable}

-- a type that answered with yes
pub low_of : (role : ℕ → Bool) (k : ℕ) (e : Entry) → type_tag e.tag ≡ true → type_operands e k ≡ true → role_fits role e ≡ true → Low role k e
low_of role k =
    by_type_tag (λ e. type_operands e k ≡ true → role_fits role e ≡ true → Low role k e)
    (λ f s c h r. record {
      some = omega arith;
      most = omega arith;
      kind = λ _. leb-true f 2 (and_parts (leb f 2) (eqb s 0) (and_parts (leb f 2 && eqb s 0) (eqb c 0) h).0).0;
      one = λ z. let y : ⊥ = omega arith in absurd y;
      two = λ z. let y : ⊥ = omega arith in absurd y;
      code = λ z. let y : ⊥ = omega arith in absurd y;
    })
    (λ f s c h r.
    let q = and_parts (ltb f k) (ltb s k) (and_parts (ltb f k && ltb s k) (eqb c 0) h).0 in
    record {
      some = omega arith;
      most = omega arith;
      kind = λ z. let y : ⊥ = omega arith in absurd y;
      one = λ _. ltb-true f k q.0;
      two = λ _. ltb-true s k q.1;
      code = λ z. let y : ⊥ = omega arith in absurd y;
    })
    (λ f s c h r. record {
      some = omega arith;
      most = omega arith;
      kind = λ z. let y : ⊥ = omega arith in absurd y;
      one = λ _. ltb-true f k (and_parts (ltb f k) (eqb s 0) h).0;
      two = λ z. let y : ⊥ = omega arith in absurd y;
      code = λ _. r;
    })
    (λ f s c h r. record {
      some = omega arith;
      most = omega arith;
      kind = λ z. let y : ⊥ = omega arith in absurd y;
      one = λ _. ltb-true f k (and_parts (ltb f k) (eqb s 0) h).0;
      two = λ z. let y : ⊥ = omega arith in absurd y;
      code = λ _. r;
    })

claims_low : (k t : ℕ) (e : Entry) → term_operands e k t ≡ true → e.tag ≡ 18 → (e.second < t) × (e.third < t)
claims_low k t e h z = (grind (arith, nat_tests), grind (arith, nat_tests))

value_low : (k t : ℕ) (e : Entry) → term_operands e k t ≡ true → e.tag ≡ 16 → e.first ≤ 2
value_low k t e h z = grind (arith, nat_tests)

operand_low : (k : ℕ) (e : Entry) → Lower e k → (j : ℕ) → j < names e.tag → operand_of e j < k
operand_low k e l j h = go (cases_eq j 0)
  where
    go : (j ≡ 0) ⊎ (j ≡ 0 → ⊥) → operand_of e j < k
    go (inl z) = rw z (l.first (omega arith))
    go (inr z) = rw (ne_eqb j 0 z) (l.second (omega arith))

role_code : (role : ℕ → Bool) (e : Entry) → role_fits role e ≡ true → role_tag e.tag ≡ true → role e.third ≡ true
role_code role e r h = go (role_tag e.tag) h r
  where
    go : (b : Bool) → b ≡ true → (not b || role e.third) ≡ true → role e.third ≡ true
    go true p q = q
    go false p q = absurd (false≢true p)

pub placed_of : (role : ℕ → Bool) (t k : ℕ) (e : Entry) → term_tag e.tag ≡ true → term_operands e k t ≡ true → role_fits role e ≡ true → Placed role t k e
placed_of role t k e a h r =
    let b = and_parts (leb 16 e.tag) (leb e.tag 26) a in
    record {
      least = leb-true 16 e.tag b.0;
      most = leb-true e.tag 26 b.1;
      low = operand_low k e (operands_lower e k t h);
      claim = claims_low k t e h;
      value = value_low k t e h;
      code = role_code role e r;
    }

module _ (m : Meaning) (t : ℕ) (T es : List Entry) (w : Walkable m t T es) where
  pub types_long : length (take t T) ≡ t
  types_long = length-take-le t T (omega (arith, w.room))

  pub at_front : (k : ℕ) → k < t → at (take t T) k ≡ at T k
  at_front k l = get_or-take t T k no_entry l

  pub ground : Grounded m.role T t
  ground k l =
      let e = w.formed.types_fit k (omega (arith, types_long)) in
      subst (Low m.role k) (at_front k l) (low_of m.role k (at (take t T) k) e.tag e.operands e.code)

  pub rooted : Rooted m.role t es (length es)
  rooted k l =
      let e = w.formed.threaded.fit k l in
      placed_of m.role t k (at es k) e.tag (subst (λ (z : ℕ). term_operands (at es k) k z ≡ true) types_long e.operands) e.code
