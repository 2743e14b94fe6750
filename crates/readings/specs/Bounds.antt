-- Worked readings: the bounds and the steps of small terms under two schemes. Assumes nothing.
use Rattle.std.specs.Prelude.{◌≡◌, ℕ, true, [], Some, None}
use Rattle.roles.specs.Meaning.{Meaning}
use Rattle.masks.specs.Kind.{mask}
use Rattle.ladders.specs.Kind.{ladder}
use Rattle.calculus.specs.Syntax.{unit_kind, Ty, base, computation, Term, constant, variable, abstraction, application, fix, guard, check, unit, let_in, raise, restrict}
use Rattle.calculus.specs.Subtyping.{System, sufficient, necessary}
use Rattle.calculus.specs.Inference.{infer}
use Rattle.calculus.specs.Steps.{Step, IsRoleFault, IsShapeFault, Steps}

-- The mask of width 8.
abbrev pub mask_8 : Meaning
mask_8 = mask 8

-- The ladder of top rank 3.
abbrev pub ladder_3 : Meaning
ladder_3 = ladder 3

-- Unit
abbrev pub unit_type : Ty
unit_type = base unit_kind

-- unit
abbrev pub unit_constant : Term
unit_constant = constant unit_kind 0

-- check {g}[unit]
abbrev pub checked : ℕ → Term
checked g = check (guard g unit_constant)

-- λ x : <a> Unit | <b> Unit. x
abbrev pub identity : ℕ → ℕ → Term
identity a b = abstraction (computation a unit_type) (computation b unit_type) (variable 0)

-- λ x : Unit | Unit. x
abbrev pub unit_identity : Term
unit_identity = abstraction unit_type unit_type (variable 0)

-- The readings.
pub record Readings : Type 0 where
  -- let x = check {1}[unit]; check {2}[unit] has the bound 3
  pub let_joins : (α : System) → infer mask_8 α [] (let_in (checked 1) (checked 2)) ≡ Some (computation 3 unit_type)
  -- raise 4. check {6}[unit] has the bound 2
  pub raise_leaves_rest : (α : System) → infer mask_8 α [] (raise 4 (checked 6)) ≡ Some (computation 2 unit_type)
  -- restrict 2. check {6}[unit] has no sufficient type, and the necessary bound 6
  pub restrict_insufficient : infer mask_8 sufficient [] (restrict 2 (checked 6)) ≡ None
  pub restrict_necessary : infer mask_8 necessary [] (restrict 2 (checked 6)) ≡ Some (computation 6 unit_type)
  -- the identity with the claims <1> Unit and <0> Unit, applied to check {1}[unit], has the bounds 1 and 0
  pub claim_sufficient : infer mask_8 sufficient [] (application (identity 1 0) (checked 1)) ≡ Some (computation 1 unit_type)
  pub claim_necessary : infer mask_8 necessary [] (application (identity 1 0) (checked 1)) ≡ Some (computation 0 unit_type)
  -- with the claims exchanged it has no sufficient type
  pub claims_exchanged : infer mask_8 sufficient [] (application (identity 0 1) (checked 1)) ≡ None
  -- on the ladder raise 1. check {3}[unit] has the bound 3, and raise 3. check {2}[unit] the bound 0
  pub ladder_low_raise : (α : System) → infer ladder_3 α [] (raise 1 (checked 3)) ≡ Some (computation 3 unit_type)
  pub ladder_high_raise : (α : System) → infer ladder_3 α [] (raise 3 (checked 2)) ≡ Some (computation 0 unit_type)
  -- check {4}[unit] has the bound 4; role 4 passes the guard, and role 3 meets a role fault
  pub check_bound : (α : System) → infer mask_8 α [] (checked 4) ≡ Some (computation 4 unit_type)
  pub check_passes : Step mask_8 4 (checked 4) (unit unit_constant)
  pub check_refuses : IsRoleFault mask_8 3 (checked 4)
  -- restrict 2. check {6}[unit] is a role fault under every role
  pub restrict_refuses : (r : ℕ) → mask_8.role r ≡ true → IsRoleFault mask_8 r (restrict 2 (checked 6))
  -- the fixed point of the identity has the type Unit, and after five steps it is where it was
  pub fix_type : (α : System) → infer mask_8 α [] (fix unit_identity) ≡ Some unit_type
  pub fix_turns : Steps mask_8 0 5 (fix unit_identity) (fix unit_identity)
  -- unit unit has no type, and is a shape fault
  pub no_function : (α : System) → infer mask_8 α [] (application unit_constant unit_constant) ≡ None
  pub wrong_shape : (r : ℕ) → IsShapeFault mask_8 r (application unit_constant unit_constant)
