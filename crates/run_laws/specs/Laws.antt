-- Laws over advances of one run. Assumes nothing.
use Rattle.std.specs.Prelude.{◌≡◌, ℕ, ◌+◌, ◌≤◌, true, List, None}
use Rattle.roles.specs.Meaning.{Meaning}
use Rattle.tables.specs.declared.entry.Entry.{Entry}
use Rattle.runs.specs.declared.run.Run.{Run}
use Rattle.runs.specs.Run.{refusal}
pub use Rattle.runs.specs.Parts.{left_run, left_terms}
use Rattle.runs.specs.Usable.{usable}

-- The runs are at the same place: steps, places used and current entry agree.
pub record SamePlace (x y : Run) : Type 0 where
  pub steps : x.steps ≡ y.steps
  pub used : x.used ≡ y.used
  pub current : x.current ≡ y.current

-- An advance by j and one by k after it leave what one by j + k leaves; only a budget of 0 may tell going where a full table was told.
pub record Joined (m : Meaning) (x : Run) (es : List Entry) (j k : ℕ) : Type 0 where
  pub first : refusal m x es j ≡ None
  pub terms : left_terms m (left_run m x es j) (left_terms m x es j) k ≡ left_terms m x es (j + k)
  pub place : SamePlace (left_run m (left_run m x es j) (left_terms m x es j) k) (left_run m x es (j + k))
  pub run : 1 ≤ k → left_run m (left_run m x es j) (left_terms m x es j) k ≡ left_run m x es (j + k)

-- So it is wherever the advance by j + k is accepted.
abbrev pub AdvancesAdd : Type 0
AdvancesAdd = (m : Meaning) (x : Run) (es : List Entry) (j k : ℕ) → refusal m x es (j + k) ≡ None → Joined m x es j k

-- An accepted advance leaves terms in which the run can go on.
abbrev pub StaysUsable : Type 0
StaysUsable =
    (m : Meaning) (x : Run) (es : List Entry) (k : ℕ) → refusal m x es k ≡ None →
    usable m.role (left_terms m x es k) (left_run m x es k).used (left_run m x es k).current ≡ true
