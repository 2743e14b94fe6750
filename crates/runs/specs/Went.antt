-- What a loop of turns leaves of a run and its table. Assumes nothing.
use Rattle.std.specs.Prelude.{◌≡◌, ℕ, ◌+◌, ◌<◌, ◌≤◌, List, length, take, drop}
use Rattle.roles.specs.Meaning.{Meaning}
use Rattle.tables.specs.declared.entry.Entry.{Entry}
use Rattle.runs.specs.declared.run.Run.{Run}
use Rattle.runs.specs.Reach.{Ground}
use Rattle.runs.specs.Run.{gone}
use Rattle.runs.specs.Table.{advanced}

-- The run x became y, and the table es became fs, by the advance with the budget k, of which n steps were made.
pub record Went (m : Meaning) (k : ℕ) (x y : Run) (es fs : List Entry) (n : ℕ) : Type 0 where
  pub is : gone m x es k ≡ advanced fs n y.used y.current y.condition
  pub role : y.role ≡ x.role
  pub steps : y.steps ≡ x.steps + n
  pub low : y.used ≤ length fs
  pub rest : drop y.used fs ≡ drop y.used es
  pub same : length fs ≡ length es
  pub ground : Ground (take y.used fs)
  pub present : y.current < y.used
