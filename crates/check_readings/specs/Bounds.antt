-- Worked readings: what the checks answer of small jobs under two schemes. Assumes nothing.
use Rattle.std.specs.Prelude.{◌≡◌, ℕ, List, [], ◌∷◌, ◌++◌, length, replicate, Ok, Err, Result}
use Rattle.roles.specs.Meaning.{Meaning}
use Rattle.masks.specs.Kind.{mask}
use Rattle.ladders.specs.Kind.{ladder}
use Rattle.calculus.specs.Subtyping.{System, sufficient, necessary}
use Rattle.tables.specs.declared.entry.Entry.{Entry}
use Rattle.tables.specs.Entries.{no_entry}
use Rattle.walks.specs.declared.fault.TypingFault.TheVariants.{NoFunction, Argument, Restriction}
use Rattle.checks.specs.declared.fault.CheckFault.{CheckFault}
use Rattle.checks.specs.declared.fault.CheckFault.TheVariants.{Typing}
use Rattle.checks.specs.Checking.{check_of}

-- An entry, by its tag and its operands.
abbrev pub entry : ℕ → ℕ → ℕ → ℕ → Entry
entry k f s c = record { tag = k; first = f; second = s; third = c }

-- What a check answers of a job, in tables with just the room that it needs.
abbrev pub answer : Meaning → System → List Entry → List Entry → Result ℕ CheckFault
answer m α types terms =
    (check_of m α (length types) (length terms) (types ++ replicate (length terms) no_entry) terms).answer

-- check {g}[unit]
abbrev pub checked : ℕ → List Entry
checked g = entry 16 0 0 0 ∷ entry 21 0 0 g ∷ entry 22 1 0 0 ∷ []

-- Unit, <a> Unit, <b> Unit
abbrev pub claims : ℕ → ℕ → List Entry
claims a b = entry 1 0 0 0 ∷ entry 4 0 0 a ∷ entry 4 0 0 b ∷ []

-- The identity with the second and the third type as its claims, applied to check {1}[unit].
abbrev pub applied_identity : List Entry
applied_identity =
    entry 17 0 0 0 ∷ entry 18 0 1 2 ∷ entry 16 0 0 0 ∷ entry 21 2 0 1 ∷ entry 22 3 0 0 ∷ entry 19 1 4 0 ∷ []

-- The readings.
pub record CheckReadings : Type 0 where
  -- check {4}[unit] has the bound 4
  pub check_bound : (α : System) → answer (mask 8) α [] (checked 4) ≡ Ok 4
  -- raise 4. check {6}[unit] has the bound 2
  pub raise_leaves_rest : (α : System) → answer (mask 8) α [] (checked 6 ++ (entry 25 2 0 4 ∷ [])) ≡ Ok 2
  -- restrict 2. check {6}[unit] is refused at the restriction by the sufficient check, and has the necessary bound 6
  pub restrict_insufficient : answer (mask 8) sufficient [] (checked 6 ++ (entry 26 2 0 2 ∷ [])) ≡ Err (Typing (Restriction 3))
  pub restrict_necessary : answer (mask 8) necessary [] (checked 6 ++ (entry 26 2 0 2 ∷ [])) ≡ Ok 6
  -- let x = check {1}[unit]; check {2}[unit] has the bound 3
  pub let_joins : (α : System) → answer (mask 8) α [] (checked 1 ++ (entry 16 0 0 0 ∷ entry 21 3 0 2 ∷ entry 22 4 0 0 ∷ entry 24 2 5 0 ∷ [])) ≡ Ok 3
  -- the fixed point of the identity on Unit has the bound 0
  pub fix_sufficient : answer (mask 8) sufficient (entry 1 0 0 0 ∷ []) (entry 17 0 0 0 ∷ entry 18 0 0 0 ∷ entry 20 1 0 0 ∷ []) ≡ Ok 0
  pub fix_necessary : answer (mask 8) necessary (entry 1 0 0 0 ∷ []) (entry 17 0 0 0 ∷ entry 18 0 0 0 ∷ entry 20 1 0 0 ∷ []) ≡ Ok 0
  -- unit applied to unit: the first operand is no function
  pub no_function : (α : System) → answer (mask 8) α [] (entry 16 0 0 0 ∷ entry 16 0 0 0 ∷ entry 19 0 1 0 ∷ []) ≡ Err (Typing (NoFunction 2))
  -- the identity with the claims <1> Unit and <0> Unit, applied to check {1}[unit], has the bounds 1 and 0
  pub claim_sufficient : answer (mask 8) sufficient (claims 1 0) applied_identity ≡ Ok 1
  pub claim_necessary : answer (mask 8) necessary (claims 1 0) applied_identity ≡ Ok 0
  -- with the claims exchanged the sufficient check refuses the argument
  pub claims_exchanged : answer (mask 8) sufficient (claims 0 1) applied_identity ≡ Err (Typing (Argument 8))
  -- on the ladder raise 1. check {3}[unit] has the bound 3, and raise 3. check {2}[unit] the bound 0
  pub ladder_low_raise : (α : System) → answer (ladder 3) α [] (checked 3 ++ (entry 25 2 0 1 ∷ [])) ≡ Ok 3
  pub ladder_high_raise : (α : System) → answer (ladder 3) α [] (checked 2 ++ (entry 25 2 0 3 ∷ [])) ≡ Ok 0
