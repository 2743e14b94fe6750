-- Three tempting errors, each with a term on the ladder of top 3 that shows it to be one. Assumes nothing.
use Rattle.std.specs.Prelude.{◌≡◌, ℕ, ◌-◌, min, true, []}
use Rattle.roles.specs.Meaning.{Meaning, Lawful}
use Rattle.roles.specs.Frame.{guarded as meaning_of}
use Rattle.ladders.specs.Kind.{ladder_frame}
use Rattle.calculus.specs.Syntax.{Kind, Ty, base, function, guarded, computation, Term, variable, abstraction, application, guard, check, unit, let_in, raise}
use Rattle.calculus.specs.Substitution.{substitute}
use Rattle.calculus.specs.Subtyping.{System, sufficient, role_test}
use Rattle.calculus.specs.Typing.{Has}
use Rattle.calculus.specs.Steps.{Step, IsRoleFault, CanStep, IsShapeFault}
use Rattle.readings.specs.Bounds.{ladder_3, unit_type, unit_constant, checked}

-- The ladder with what b has outside a read as the meet of b with the complement of a.
abbrev pub ladder_by_complement : Meaning
ladder_by_complement =
    let f = ladder_frame 3 in
    meaning_of (record { sound = f.sound; width = f.width; bottom = f.bottom; role = f.role; above = f.above; join = f.join; meet = f.meet; remainder = λ b a. min b (3 - a) })

-- First: with that remainder raise 1. check {3}[unit] is typed at 2, and under role 2 it is a role fault. So it breaks the laws.
pub record ComplementFails : Type 0 where
  pub typed : Has ladder_by_complement sufficient [] (raise 1 (checked 3)) (computation 2 unit_type)
  pub suffices : ladder_by_complement.dom 2 2 ≡ true
  pub faults : IsRoleFault ladder_by_complement 2 (raise 1 (checked 3))
  pub unlawful : Lawful ladder_by_complement → ⊥

-- Subtyping with the arguments of functions compared forward.
pub data Forward (m : Meaning) (α : System) : Ty → Ty → Type 0 where
  base_forward : {k : Kind} → Forward m α (base k) (base k)
  function_forward : {t s t' s' : Ty} → Forward m α t t' → Forward m α s s' → Forward m α (function t s) (function t' s')
  guarded_forward : {a b : ℕ} {t t' : Ty} → role_test m α a b ≡ true → Forward m α t t' → Forward m α (guarded a t) (guarded b t')
  computation_forward : {a b : ℕ} {t t' : Ty} → role_test m α a b ≡ true → Forward m α t t' → Forward m α (computation a t) (computation b t')

-- λ x : {0}[Unit] | {0}[Unit]. check x
abbrev pub opener : Term
opener = abstraction (guarded 0 unit_type) (guarded 0 unit_type) (check (variable 0))

-- {3}[unit]
abbrev pub locked : Term
locked = guard 3 unit_constant

-- Second: with arguments compared forward the opener takes locked things, at the bound 0; under role 0 its application to one steps to a role fault. The rules give it no type.
pub record ForwardFails : Type 0 where
  pub opener_typed : Has ladder_3 sufficient [] opener (function (guarded 0 unit_type) (computation 0 unit_type))
  pub taken_forward : Forward ladder_3 sufficient (function (guarded 0 unit_type) (computation 0 unit_type)) (function (guarded 3 unit_type) (computation 0 unit_type))
  pub locked_typed : Has ladder_3 sufficient [] locked (guarded 3 unit_type)
  pub suffices : ladder_3.dom 0 0 ≡ true
  pub steps : Step ladder_3 0 (application opener locked) (check locked)
  pub faults : IsRoleFault ladder_3 0 (check locked)
  pub untyped : (t : Ty) → Has ladder_3 sufficient [] (application opener locked) t → ⊥

-- λ x : Unit | Unit. [x]
abbrev pub wrapper : Term
wrapper = abstraction unit_type unit_type (unit (variable 0))

-- the second part of let x = [λ x : Unit | Unit. [x]]; x unit
abbrev pub wrapped : Term
wrapped = application (variable 0) unit_constant

-- Third: the whole let is typed; with the unit handed over in place of its content it comes to a shape fault under every role, and as the rules have it to a term that steps on.
pub record HandingUnitFails : Type 0 where
  pub typed : Has ladder_3 sufficient [] (let_in (unit wrapper) wrapped) (computation 0 unit_type)
  pub faults : (r : ℕ) → IsShapeFault ladder_3 r (substitute 0 (unit wrapper) wrapped)
  pub steps : (r : ℕ) → Step ladder_3 r (let_in (unit wrapper) wrapped) (substitute 0 wrapper wrapped)
  pub steps_on : (r : ℕ) → CanStep ladder_3 r (substitute 0 wrapper wrapped)

-- All three are errors.
pub record TemptingErrorsFail : Type 0 where
  pub complement : ComplementFails
  pub forward : ForwardFails
  pub handing_unit : HandingUnitFails
