-- Worked readings of runs under the mask of width 8, joined to those of the schemes, the calculus and the checks. Assumes nothing.
use Rattle.std.specs.Prelude.{◌≡◌, ℕ, true, List, [], ◌∷◌, ◌++◌, Ok, Result, bit_and}
use Rattle.tables.specs.declared.entry.Entry.{Entry}
use Rattle.tables.specs.Entries.{no_entry}
use Rattle.machine.specs.declared.condition.Condition.TheVariants.{Going, Finished, RoleFault, ShapeFault, TableFull}
use Rattle.runs.specs.declared.fault.RunFault.{RunFault}
use Rattle.runs.specs.declared.run.Run.{Run}
use Rattle.runs.specs.declared.run.Progress.{Progress}
use Rattle.runs.specs.Run.{begun, start_asked, started, refusal, gone, answered}
use Rattle.run_laws.specs.Laws.{left_run, left_terms}
use Rattle.readings.specs.Bounds.{mask_8, Readings}
use Rattle.blocks.specs.Readings.{SchemeReadings}
use Rattle.check_readings.specs.Bounds.{CheckReadings}

-- An entry by its tag and operands.
abbrev pub entry : ℕ → ℕ → ℕ → ℕ → Entry
entry t a b c = record { tag = t; first = a; second = b; third = c }

-- What an advance by k of a run of a job of n terms under the role r answers in a table.
abbrev pub answer : ℕ → ℕ → List Entry → ℕ → Result Progress RunFault
answer n r es k = answered (refusal mask_8 (begun n r) es k) (gone mask_8 (begun n r) es k)

-- The run that it leaves.
abbrev pub run : ℕ → ℕ → List Entry → ℕ → Run
run n r es k = left_run mask_8 (begun n r) es k

-- The terms that it leaves.
abbrev pub terms : ℕ → ℕ → List Entry → ℕ → List Entry
terms n r es k = left_terms mask_8 (begun n r) es k

-- check {g}[unit]
abbrev pub checked : ℕ → List Entry
checked g = entry 16 0 0 0 ∷ entry 21 0 0 g ∷ entry 22 1 0 0 ∷ []

-- restrict 2. check {6}[unit]
abbrev pub restricted : List Entry
restricted = entry 16 0 0 0 ∷ entry 21 0 0 6 ∷ entry 22 1 0 0 ∷ entry 26 2 0 2 ∷ []

-- fix (λ x. x)
abbrev pub turning : List Entry
turning = entry 17 0 0 0 ∷ entry 18 0 0 0 ∷ entry 20 1 0 0 ∷ []

-- unit unit
abbrev pub misapplied : List Entry
misapplied = entry 16 0 0 0 ∷ entry 16 0 0 0 ∷ entry 19 0 1 0 ∷ []

-- The readings of runs.
pub record RunReadings : Type 0 where
  -- check {4}[unit] under role 4, in 4 places: finished after 1 step, with all 4 used
  pub check_finishes : answer 3 4 (checked 4 ++ (no_entry ∷ [])) 5 ≡ Ok (record { made = 1; condition = Finished })
  pub check_run : run 3 4 (checked 4 ++ (no_entry ∷ [])) 5 ≡ record { role = 4; steps = 1; used = 4; current = 3; condition = Finished }
  pub check_terms : terms 3 4 (checked 4 ++ (no_entry ∷ [])) 5 ≡ checked 4 ++ (entry 23 0 0 0 ∷ [])
  -- in 3 places: the table is full at 0 steps
  pub check_full : answer 3 4 (checked 4) 5 ≡ Ok (record { made = 0; condition = TableFull })
  -- with no budget it goes on
  pub check_idle : answer 3 4 (checked 4) 0 ≡ Ok (record { made = 0; condition = Going })
  -- under role 3: a role fault at the check, with guard 4 and context 3
  pub check_faults : answer 3 3 (checked 4) 5 ≡ Ok (record { made = 0; condition = RoleFault 2 4 3 })
  -- restrict 2. check {6}[unit] is a role fault under every role
  pub restrict_faults : (r : ℕ) → mask_8.role r ≡ true → answer 4 r restricted 5 ≡ Ok (record { made = 0; condition = RoleFault 2 6 (bit_and 2 r) })
  -- fix of the identity: a budget of 5 makes 5 steps and no entries
  pub fix_turns : answer 3 0 turning 5 ≡ Ok (record { made = 5; condition = Going })
  pub fix_run : run 3 0 turning 5 ≡ record { role = 0; steps = 5; used = 3; current = 2; condition = Going }
  -- unit unit: a rehearsal of it starts, and meets a shape fault at 0 steps
  pub misapplied_starts : started (start_asked mask_8 (record { types = 0; terms = 3 }) (no_entry ∷ no_entry ∷ no_entry ∷ []) misapplied 0) 3 0 ≡ Ok (begun 3 0)
  pub wrong_shape : answer 3 0 misapplied 5 ≡ Ok (record { made = 0; condition = ShapeFault 2 })

-- All readings: of the schemes, of the calculus, of the checks and of runs.
pub record AllReadings : Type 0 where
  pub schemes : SchemeReadings
  pub calculus : Readings
  pub checks : CheckReadings
  pub runs : RunReadings
