-- The tree of an entry from the trees of those that it names.
use Rattle.std.proofs.Common.{◌≡◌, ℕ, ◌<◌, Bool, true, ◌&&◌, eqb, ltb, List, length, get_or, refl, ap, ap₂, lit<}
use Rattle.std.proofs.lemmas.Bool.{and_parts, ltb-true}
use Rattle.calculus.specs.Syntax.{Ty, base, function, guarded, computation, unit_kind, Term, variable, abstraction, application, fix, guard, check, unit, let_in, raise, restrict}
use Rattle.tables.specs.declared.entry.Entry.{Entry}
use Rattle.tables.specs.Entries.{at, type_tag, type_operands, term_tag}
use Rattle.tables.specs.Ladder.{ladder}
use Rattle.tables.specs.Lower.{Lower}
use Rattle.tables.proofs.Ladders.{get_or_ladder}
use Rattle.tables.proofs.Rooting.{operands_lower}
use Rattle.trees.specs.Formed.{FitType, Threaded}
use Rattle.trees.specs.Trees.{type_by, type_step, type_of, term_by, term_step, term_of}
use Rattle.trees.proofs.ByTag.{by_type_tag, by_term_tag}

-- a type's tree looks only at lower types
pub type_same : (k : ℕ) (w v : ℕ → Ty) → ((i : ℕ) → i < k → w i ≡ v i) → (e : Entry) → type_tag e.tag ≡ true → type_operands e k ≡ true → type_by e w ≡ type_by e v
type_same k w v same =
    by_type_tag (λ e. type_operands e k ≡ true → type_by e w ≡ type_by e v)
    (λ f s c h. refl)
    (λ f s c h.
    let p = (and_parts (ltb f k && ltb s k) (eqb c 0) h).0 in
    let q = and_parts (ltb f k) (ltb s k) p in
    ap₂ function (same f (ltb-true f k q.0)) (same s (ltb-true s k q.1)))
    (λ f s c h. ap (guarded c) (same f (ltb-true f k (and_parts (ltb f k) (eqb s 0) h).0)))
    (λ f s c h. ap (computation c) (same f (ltb-true f k (and_parts (ltb f k) (eqb s 0) h).0)))

-- a term's tree looks only at lower terms
pub term_same : (claim : ℕ → Ty) (k : ℕ) (w v : ℕ → Term) → ((i : ℕ) → i < k → w i ≡ v i) → (e : Entry) → term_tag e.tag ≡ true → Lower e k → term_by claim e w ≡ term_by claim e v
term_same claim k w v same =
    by_term_tag (λ e. Lower e k → term_by claim e w ≡ term_by claim e v)
    (λ f s c h. refl)
    (λ f s c h. refl)
    (λ f s c h. ap (abstraction (claim s) (claim c)) (same f (h.first (lit< tt))))
    (λ f s c h. ap₂ application (same f (h.first (lit< tt))) (same s (h.second (lit< tt))))
    (λ f s c h. ap fix (same f (h.first (lit< tt))))
    (λ f s c h. ap (guard c) (same f (h.first (lit< tt))))
    (λ f s c h. ap check (same f (h.first (lit< tt))))
    (λ f s c h. ap unit (same f (h.first (lit< tt))))
    (λ f s c h. ap₂ let_in (same f (h.first (lit< tt))) (same s (h.second (lit< tt))))
    (λ f s c h. ap (raise c) (same f (h.first (lit< tt))))
    (λ f s c h. ap (restrict c) (same f (h.first (lit< tt))))

module _ (role : ℕ → Bool) (types : List Entry) (fit : (i : ℕ) → i < length types → FitType role types i) where
  pub type_unfold : (k : ℕ) → k < length types → type_of types k ≡ type_by (at types k) (type_of types)
  unfolding type_of
  type_unfold k l =
      type_same k (λ i. get_or (ladder (type_step types) k) i (base unit_kind)) (type_of types) (λ i h. get_or_ladder (type_step types) k i (base unit_kind) h) (at types k) (fit k l).tag (fit k l).operands

module _ (role : ℕ → Bool) (types terms : List Entry) (tree : Threaded role (length types) terms) where
  pub lower : (k : ℕ) → k < length terms → Lower (at terms k) k
  lower k l = operands_lower (at terms k) k (length types) (tree.fit k l).operands

  pub term_unfold : (k : ℕ) → k < length terms → term_of types terms k ≡ term_by (type_of types) (at terms k) (term_of types terms)
  unfolding term_of
  term_unfold k l =
      term_same (type_of types) k (λ i. get_or (ladder (term_step types terms) k) i (variable 0)) (term_of types terms) (λ i h. get_or_ladder (term_step types terms) k i (variable 0) h) (at terms k) (tree.fit k l).tag (lower k l)
