-- Entries that are appended leave trees as they were.
use Rattle.std.proofs.Common.{◌≡◌, ℕ, ◌<◌, Bool, true, ◌&&◌, ltb, List, ◌++◌, length, get_or, refl, ap, ap₂, arith}
use Rattle.std.proofs.lemmas.List.{get_or_append_left}
use Rattle.std.proofs.lemmas.Bool.{and_parts, ltb-true}
use Rattle.calculus.specs.Syntax.{Ty, base, unit_kind, Term, variable, abstraction}
use Rattle.tables.specs.declared.entry.Entry.{Entry}
use Rattle.tables.specs.Entries.{at, no_entry, term_tag, term_operands}
use Rattle.tables.proofs.Ladders.{rung_same}
use Rattle.trees.specs.Facts.{PrefixKeepsTrees}
use Rattle.trees.specs.Formed.{Formed}
use Rattle.trees.specs.Trees.{type_by, type_step, type_of, term_by, term_step, term_of}
use Rattle.trees.proofs.ByTag.{by_term_tag}

same_at : (es more : List Entry) (j : ℕ) → j < length es → at (es ++ more) j ≡ at es j
same_at es more j l = get_or_append_left es more no_entry j l

pub types_kept : (types more : List Entry) (k : ℕ) → k < length types → type_of (types ++ more) k ≡ type_of types k
unfolding type_of
types_kept types more k l =
    rung_same (type_step (types ++ more)) (type_step types) k (λ j h.
    let step : Entry → List Ty → Ty = λ e ts. type_by e (λ i. get_or ts i (base unit_kind)) in
    ap step (same_at types more j (omega arith)))

pub terms_kept : (types terms more : List Entry) (k : ℕ) → k < length terms → term_of types (terms ++ more) k ≡ term_of types terms k
unfolding term_of
terms_kept types terms more k l =
    rung_same (term_step types (terms ++ more)) (term_step types terms) k (λ j h.
    let step : Entry → List Term → Term = λ e es. term_by (type_of types) e (λ i. get_or es i (variable 0)) in
    ap step (same_at terms more j (omega arith)))

-- a term looks only at claims below t
pub claims_same : (t k : ℕ) (c d : ℕ → Ty) (w : ℕ → Term) → ((i : ℕ) → i < t → c i ≡ d i) → (e : Entry) → term_tag e.tag ≡ true → term_operands e k t ≡ true → term_by c e w ≡ term_by d e w
claims_same t k c d w same =
    by_term_tag (λ e. term_operands e k t ≡ true → term_by c e w ≡ term_by d e w)
    (λ f s x h. refl)
    (λ f s x h. refl)
    (λ f s x h.
    let p = and_parts (ltb f k && ltb s t) (ltb x t) h in
    let q = and_parts (ltb f k) (ltb s t) p.0 in
    ap₂ (λ (a b : Ty). abstraction a b (w f)) (same s (ltb-true s t q.1)) (same x (ltb-true x t p.1)))
    (λ f s x h. refl)
    (λ f s x h. refl)
    (λ f s x h. refl)
    (λ f s x h. refl)
    (λ f s x h. refl)
    (λ f s x h. refl)
    (λ f s x h. refl)
    (λ f s x h. refl)

pub claims_kept : (types terms more : List Entry) (role : ℕ → Bool) → Formed role types terms → (k : ℕ) → k < length terms → term_of (types ++ more) terms k ≡ term_of types terms k
unfolding term_of
claims_kept types terms more role ok k l =
    rung_same (term_step (types ++ more) terms) (term_step types terms) k (λ j h.
    let e = ok.threaded.fit j (omega arith) in
    let each : (es : List Term) → term_step (types ++ more) terms j es ≡ term_step types terms j es = λ es. claims_same (length types) j (type_of (types ++ more)) (type_of types) (λ i. get_or es i (variable 0)) (types_kept types more) (at terms j) e.tag e.operands in
    λ i es. each es i)

pub keeps : PrefixKeepsTrees
keeps types terms more-types more-terms =
    record { types_kept = types_kept types more-types; terms_kept = terms_kept types terms more-terms; claims_kept = claims_kept types terms more-types }
