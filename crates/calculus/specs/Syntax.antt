-- The types and the terms of the calculus; beside each form is how it is written in the documents. Assumes nothing.
use Rattle.std.specs.Prelude.{ℕ}

-- The kinds of base type: Unit, Number, Text.
pub data Kind : Type 0 where
  unit_kind : Kind
  number_kind : Kind
  text_kind : Kind

-- The number that stands for a kind.
abbrev pub kind_number : Kind → ℕ
kind_number unit_kind = 0
kind_number number_kind = 1
kind_number text_kind = 2

-- The types (the word Type is the prover's own).
pub data Ty : Type 0 where
  -- Unit, Number, Text: the plain values of a kind
  base : Kind → Ty
  -- T → S: functions from T to S
  function : Ty → Ty → Ty
  -- {A}[T]: a T behind a guard of role A
  guarded : ℕ → Ty → Ty
  -- <A> T: a computation that yields a T, with A as the bound on the roles that it needs
  computation : ℕ → Ty → Ty

-- The terms.
pub data Term : Type 0 where
  -- unit, 7, "a": a plain value, by its kind and its payload
  constant : Kind → ℕ → Term
  -- x: a variable, by the number of binders between it and the one that binds it
  variable : ℕ → Term
  -- λ x : T | U. M: a function with its body M and its claims on x, the sufficient one T and the necessary one U
  abstraction : Ty → Ty → Term → Term
  -- M N: the function M applied to N
  application : Term → Term → Term
  -- fix M: the fixed point of the function M
  fix : Term → Term
  -- {A}[M]: M behind a guard of role A
  guard : ℕ → Term → Term
  -- check M: pass the guard M, if the context role dominates its role
  check : Term → Term
  -- [M]: the computation that needs no role and yields M
  unit : Term → Term
  -- let x = M; N: the computation M, and then N with x for what M yields
  let_in : Term → Term → Term
  -- raise A. M: M with A joined to the context role
  raise : ℕ → Term → Term
  -- restrict A. M: M with the context role met with A
  restrict : ℕ → Term → Term
