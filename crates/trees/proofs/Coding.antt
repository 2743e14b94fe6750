-- The role codes of trees are roles.
use Rattle.std.proofs.Common.{◌≡◌, ℕ, zero, suc, ◌<◌, true, ◌&&◌, eqb, ltb, List, length, refl, ap, ◌∙◌, arith, lit<}
use Rattle.roles.specs.Meaning.{Meaning}
use Rattle.std.proofs.lemmas.Bool.{and_parts, and_from, ltb-true}
use Rattle.calculus.specs.Subtyping.{well_coded}
use Rattle.calculus.specs.Syntax.{Ty, Term}
use Rattle.tables.specs.declared.entry.Entry.{Entry}
use Rattle.tables.specs.Entries.{at, type_tag, type_operands, term_tag, term_operands, role_fits}
use Rattle.tables.specs.Lower.{Lower}
use Rattle.trees.specs.Formed.{Formed}
use Rattle.trees.specs.Trees.{type_by, type_of, term_by, term_of, coded}
use Rattle.trees.proofs.ByTag.{by_type_tag, by_term_tag}
use Rattle.trees.proofs.Unfolding.{lower, type_unfold, term_unfold}

type_coded : (m : Meaning) (k : ℕ) (w : ℕ → Ty) → ((i : ℕ) → i < k → well_coded m (w i) ≡ true) → (e : Entry) → type_tag e.tag ≡ true → type_operands e k ≡ true → role_fits m.role e ≡ true → well_coded m (type_by e w) ≡ true
type_coded m k w all =
    by_type_tag (λ e. type_operands e k ≡ true → role_fits m.role e ≡ true → well_coded m (type_by e w) ≡ true)
    (λ f s c h r. refl)
    (λ f s c h r.
    let p = (and_parts (ltb f k && ltb s k) (eqb c 0) h).0 in
    let q = and_parts (ltb f k) (ltb s k) p in
    and_from _ _ (all f (ltb-true f k q.0)) (all s (ltb-true s k q.1)))
    (λ f s c h r. and_from _ _ r (all f (ltb-true f k (and_parts (ltb f k) (eqb s 0) h).0)))
    (λ f s c h r. and_from _ _ r (all f (ltb-true f k (and_parts (ltb f k) (eqb s 0) h).0)))

term_coded : (m : Meaning) (t k : ℕ) (claim : ℕ → Ty) (w : ℕ → Term) → ((i : ℕ) → i < t → well_coded m (claim i) ≡ true) → ((i : ℕ) → i < k → coded m (w i) ≡ true) → (e : Entry) → term_tag e.tag ≡ true → Lower e k → term_operands e k t ≡ true → role_fits m.role e ≡ true → coded m (term_by claim e w) ≡ true
term_coded m t k claim w claims all =
    by_term_tag (λ e. Lower e k → term_operands e k t ≡ true → role_fits m.role e ≡ true → coded m (term_by claim e w) ≡ true)
    (λ f s c l h r. refl)
    (λ f s c l h r. refl)
    (λ f s c l h r.
    let p = and_parts (ltb f k && ltb s t) (ltb c t) h in
    let q = and_parts (ltb f k) (ltb s t) p.0 in
    and_from _ _ (and_from _ _ (claims s (ltb-true s t q.1)) (claims c (ltb-true c t p.1))) (all f (l.first (lit< tt))))
    (λ f s c l h r. and_from _ _ (all f (l.first (lit< tt))) (all s (l.second (lit< tt))))
    (λ f s c l h r. all f (l.first (lit< tt)))
    (λ f s c l h r. and_from _ _ r (all f (l.first (lit< tt))))
    (λ f s c l h r. all f (l.first (lit< tt)))
    (λ f s c l h r. all f (l.first (lit< tt)))
    (λ f s c l h r. and_from _ _ (all f (l.first (lit< tt))) (all s (l.second (lit< tt))))
    (λ f s c l h r. and_from _ _ r (all f (l.first (lit< tt))))
    (λ f s c l h r. and_from _ _ r (all f (l.first (lit< tt))))

module _ (m : Meaning) (types terms : List Entry) (ok : Formed m.role types terms) where
  types_below : (b k : ℕ) → k < b → k < length types → well_coded m (type_of types k) ≡ true
  types_below zero k h l = let z : ⊥ = omega arith in absurd z
  types_below (suc b) k h l =
      let e = ok.types_fit k l in
      ap (well_coded m) (type_unfold m.role types ok.types_fit k l)
      ∙ type_coded m k (type_of types) (λ i q. types_below b i (omega arith) (omega arith)) (at types k) e.tag e.operands e.code

  pub types_coded : (k : ℕ) → k < length types → well_coded m (type_of types k) ≡ true
  types_coded k l = types_below (suc k) k (omega arith) l

  terms_below : (b k : ℕ) → k < b → k < length terms → coded m (term_of types terms k) ≡ true
  terms_below zero k h l = let z : ⊥ = omega arith in absurd z
  terms_below (suc b) k h l =
      let e = ok.threaded.fit k l in
      ap (coded m) (term_unfold m.role types terms ok.threaded k l)
      ∙ term_coded m (length types) k (type_of types) (term_of types terms) types_coded (λ i q. terms_below b i (omega arith) (omega arith)) (at terms k) e.tag (lower m.role types terms ok.threaded k l) e.operands e.code

  pub terms_coded : (k : ℕ) → k < length terms → coded m (term_of types terms k) ≡ true
  terms_coded k l = terms_below (suc k) k (omega arith) l
