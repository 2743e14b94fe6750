-- What it is for a job to have the form of one. Assumes nothing.
use Rattle.std.specs.Prelude.{◌≡◌, ℕ, ◌+◌, ◌-◌, ◌<◌, ◌≤◌, Bool, true, List, length, take, slice_index}
use Rattle.roles.specs.Meaning.{Meaning}
use Rattle.tables.specs.declared.entry.Entry.{Entry}
use Rattle.tables.specs.Entries.{at, type_tag, type_operands, term_tag, term_operands, role_fits}
use Rattle.tables.specs.Sizes.{size}
use Rattle.tables.specs.Uses.{uses}
use Rattle.tables.specs.Depths.{depths, bound_at}

-- Type i has a tag of a type, operands as the tag asks, a role for a role code, and at most 4,096 parts.
pub record FitType (role : ℕ → Bool) (types : List Entry) (i : ℕ) : Type 0 where
  pub tag : type_tag (at types i).tag ≡ true
  pub operands : type_operands (at types i) i ≡ true
  pub code : role_fits role (at types i) ≡ true
  pub small : size types i ≤ 4096

-- Term i has a tag of a term, operands as the tag asks in a job of t types, and a role for a role code.
pub record FitTerm (role : ℕ → Bool) (t : ℕ) (terms : List Entry) (i : ℕ) : Type 0 where
  pub tag : term_tag (at terms i).tag ≡ true
  pub operands : term_operands (at terms i) i t ≡ true
  pub code : role_fits role (at terms i) ≡ true

-- In a job of t types every term fits, and every term but the last is named once: the terms are one tree.
pub record Threaded (role : ℕ → Bool) (t : ℕ) (terms : List Entry) : Type 0 where
  pub fit : (i : ℕ) → i < length terms → FitTerm role t terms i
  pub once : (i : ℕ) → i < length terms - 1 → uses terms i ≡ 1

-- Every variable is bound.
abbrev pub Bound : List Entry → Type 0
Bound terms = (i : ℕ) → i < length terms → bound_at (at terms i) (slice_index (depths terms) i) ≡ true

-- Every type fits, the terms are one tree, and every variable is bound.
pub record Formed (role : ℕ → Bool) (types terms : List Entry) : Type 0 where
  pub types_fit : (i : ℕ) → i < length types → FitType role types i
  pub threaded : Threaded role (length types) terms
  pub bound : Bound terms

-- A job of t types and n terms in two tables that keeps the limits and is formed, under a sound scheme.
pub record Accepted (m : Meaning) (t n : ℕ) (types terms : List Entry) : Type 0 where
  pub sound : m.sound ≡ true
  pub types_few : t ≤ 512
  pub terms_some : 1 ≤ n
  pub terms_few : n ≤ 1024
  pub types_room : t + n ≤ length types
  pub terms_room : n ≤ length terms
  pub types_small : length types ≤ 16384
  pub terms_small : length terms ≤ 16384
  pub formed : Formed m.role (take t types) (take n terms)
