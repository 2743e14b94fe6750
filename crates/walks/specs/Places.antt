-- Tables in which a walk can go: types that name lower types, and a job in the form of one. Assumes nothing.
use Rattle.std.specs.Prelude.{◌≡◌, ℕ, ◌+◌, ◌<◌, ◌≤◌, Bool, true, List, length, take}
use Rattle.roles.specs.Meaning.{Meaning}
use Rattle.tables.specs.declared.entry.Entry.{Entry}
use Rattle.tables.specs.Entries.{at, names, operand_of, role_tag}
use Rattle.trees.specs.Formed.{Formed}

-- Type k has one of the four tags, names lower types, and has a role for a role code.
pub record Low (role : ℕ → Bool) (k : ℕ) (e : Entry) : Type 0 where
  pub some : 1 ≤ e.tag
  pub most : e.tag ≤ 4
  pub kind : e.tag ≡ 1 → e.first ≤ 2
  pub one : 2 ≤ e.tag → e.first < k
  pub two : e.tag ≡ 2 → e.second < k
  pub code : 3 ≤ e.tag → role e.third ≡ true

-- Each of the first n types does.
abbrev pub Grounded : (ℕ → Bool) → List Entry → ℕ → Type 0
Grounded role T n = (k : ℕ) → k < n → Low role k (at T k)

-- Term k, in a job of t types, has one of the eleven tags, names lower terms, claims types of the job, and has a kind for a kind and a role for a role code.
pub record Placed (role : ℕ → Bool) (t k : ℕ) (e : Entry) : Type 0 where
  pub least : 16 ≤ e.tag
  pub most : e.tag ≤ 26
  pub low : (j : ℕ) → j < names e.tag → operand_of e j < k
  pub claim : e.tag ≡ 18 → (e.second < t) × (e.third < t)
  pub value : e.tag ≡ 16 → e.first ≤ 2
  pub code : role_tag e.tag ≡ true → role e.third ≡ true

-- Each of the first n terms does.
abbrev pub Rooted : (ℕ → Bool) → ℕ → List Entry → ℕ → Type 0
Rooted role t terms n = (k : ℕ) → k < n → Placed role t k (at terms k)

-- The first t types and the terms are a job under a sound scheme, and there is a place for one more type per term.
pub record Walkable (m : Meaning) (t : ℕ) (T terms : List Entry) : Type 0 where
  pub sound : m.sound ≡ true
  pub some : 1 ≤ length terms
  pub few : length terms ≤ 1024
  pub small : t ≤ 512
  pub room : t + length terms ≤ length T
  pub formed : Formed m.role (take t T) terms
