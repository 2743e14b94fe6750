-- The facts about trees that stand on the contracts of this crate. Assumes nothing.
use Rattle.std.specs.Prelude.{◌≡◌, ℕ, ◌-◌, ◌<◌, ◌≤◌, Bool, true, List, ◌++◌, length, Ok}
use Rattle.roles.specs.Meaning.{Meaning}
use Rattle.calculus.specs.Substitution.{closed}
use Rattle.calculus.specs.Subtyping.{well_coded}
use Rattle.tables.specs.declared.entry.Entry.{Entry}
use Rattle.tables.specs.Entries.{at}
use Rattle.tables.specs.Form.{form}
use Rattle.trees.specs.Formed.{Threaded, Bound, Formed, Accepted}
use Rattle.trees.specs.Trees.{type_by, type_of, term_by, term_of, coded}

-- All questions of form are answered with yes exactly if the job keeps the limits and is formed.
abbrev pub FormDecides : Type 0
FormDecides =
    (m : Meaning) (t n : ℕ) (types terms : List Entry) → (form m t n types terms ≡ Ok tt → Accepted m t n types terms) × (Accepted m t n types terms → form m t n types terms ≡ Ok tt)

-- What a table's first entries stand for when others follow them.
pub record Kept (types terms more-types more-terms : List Entry) : Type 0 where
  pub types_kept : (k : ℕ) → k < length types → type_of (types ++ more-types) k ≡ type_of types k
  pub terms_kept : (k : ℕ) → k < length terms → term_of types (terms ++ more-terms) k ≡ term_of types terms k
  -- the claims of a formed job lie in the first types
  pub claims_kept : (role : ℕ → Bool) → Formed role types terms → (k : ℕ) → k < length terms → term_of (types ++ more-types) terms k ≡ term_of types terms k

-- Entries that are appended leave the trees of those before them as they were.
abbrev pub PrefixKeepsTrees : Type 0
PrefixKeepsTrees = (types terms more-types more-terms : List Entry) → Kept types terms more-types more-terms

-- The trees of t types and n terms, each in terms of the trees of the entries that it names.
pub record Unfolds (t n : ℕ) (types terms : List Entry) : Type 0 where
  pub type_is : (k : ℕ) → k < t → type_of types k ≡ type_by (at types k) (type_of types)
  pub term_is : (k : ℕ) → k < n → term_of types terms k ≡ term_by (type_of types) (at terms k) (term_of types terms)

-- So it is in every accepted job, whatever stands in the other places.
abbrev pub TreesUnfold : Type 0
TreesUnfold = (m : Meaning) (t n : ℕ) (types terms : List Entry) → Accepted m t n types terms → Unfolds t n types terms

-- The last term of an accepted job is closed.
abbrev pub AcceptedClosed : Type 0
AcceptedClosed =
    (m : Meaning) (t n : ℕ) (types terms : List Entry) → Accepted m t n types terms → closed 0 (term_of types terms (n - 1)) ≡ true

-- Where the terms are one tree, every variable is bound exactly if the last term is closed.
abbrev pub BoundClosed : Type 0
BoundClosed =
    (role : ℕ → Bool) (types terms : List Entry) → Threaded role (length types) terms → 1 ≤ length terms → length terms ≤ 1024 → (Bound terms → closed 0 (term_of types terms (length terms - 1)) ≡ true) × (closed 0 (term_of types terms (length terms - 1)) ≡ true → Bound terms)

-- Of t types and n terms every role code is a role.
pub record Coded (m : Meaning) (t n : ℕ) (types terms : List Entry) : Type 0 where
  pub types_coded : (k : ℕ) → k < t → well_coded m (type_of types k) ≡ true
  pub terms_coded : (k : ℕ) → k < n → coded m (term_of types terms k) ≡ true

-- So it is in every accepted job.
abbrev pub AcceptedCoded : Type 0
AcceptedCoded = (m : Meaning) (t n : ℕ) (types terms : List Entry) → Accepted m t n types terms → Coded m t n types terms
