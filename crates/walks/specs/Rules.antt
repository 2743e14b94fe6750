-- What is found of a term when the types of its operands are known, rule by rule. A type is meant by its number in the table. Assumes nothing.
use Rattle.std.specs.Prelude.{ℕ, Bool, true, false, List, Some, None, Option, Ok, Err, Result as Outcome, ◌==◌}
use Rattle.roles.specs.Meaning.{Meaning}
use Rattle.calculus.specs.Subtyping.{System, sufficient, necessary}
use Rattle.calculus.specs.Typing.{permits}
use Rattle.calculus.specs.Inference.{is_subtype}
use Rattle.tables.specs.declared.entry.Entry.{Entry}
use Rattle.tables.specs.Entries.{at}
use Rattle.trees.specs.Trees.{type_of}
use Rattle.walks.specs.declared.fault.TypingFault.{TypingFault}
use Rattle.walks.specs.declared.fault.TypingFault.TheVariants.{NoFunction, Argument, Result, NoGuard, NoComputation, Restriction}
use Rattle.walks.specs.declared.finding.Finding.{Finding}
use Rattle.walks.specs.declared.finding.Finding.TheVariants.{Known, New}

-- The entry of a base type.
abbrev pub base_type : ℕ → Entry
base_type k = record { tag = 1; first = k; second = 0; third = 0 }

-- The entry of a function type, by its argument and its result.
abbrev pub function_type : ℕ → ℕ → Entry
function_type x y = record { tag = 2; first = x; second = y; third = 0 }

-- The entry of a guarded type, by its role and its inner type.
abbrev pub guarded_type : ℕ → ℕ → Entry
guarded_type a x = record { tag = 3; first = x; second = 0; third = a }

-- The entry of a computation type, by its role and its inner type.
abbrev pub computation_type : ℕ → ℕ → Entry
computation_type a x = record { tag = 4; first = x; second = 0; third = a }

-- The claim of an abstraction that the system reads.
abbrev pub claim_of : System → Entry → ℕ
claim_of sufficient e = e.second
claim_of necessary e = e.third

-- The role that a scheme answers. Where the codes are roles the answer is there.
abbrev pub role_of : Option ℕ → ℕ
role_of (Some a) = a
role_of None = 0

-- What a rule tells of a term: what is found, or the fault.
abbrev pub Judged : Type 0
Judged = Outcome Finding TypingFault

-- A type of the table is found, by its number.
abbrev pub known : ℕ → Judged
known x = Ok (Known x)

-- A new type is found.
abbrev pub fresh : Entry → Judged
fresh e = Ok (New e)

-- A question: a yes goes on, a no tells the fault.
abbrev pub asked : Bool → TypingFault → Judged → Judged
asked true f j = j
asked false f j = Err f

-- Is the type x below the type y?
abbrev pub below : Meaning → System → List Entry → ℕ → ℕ → Bool
below m α T x y = is_subtype m α (type_of T x) (type_of T y)

-- Application of an f to an x, at place p: is f a function, and x below its argument? Then it is the result.
abbrev pub applied : Meaning → System → ℕ → List Entry → ℕ → ℕ → Judged
applied m α p T f x =
    asked ((at T f).tag == 2) (NoFunction p)
    (asked (below m α T x (at T f).first) (Argument p) (known (at T f).second))

-- Fix of an f: is f a function, and its result below its argument? Then it is the result.
abbrev pub fixed : Meaning → System → ℕ → List Entry → ℕ → Judged
fixed m α p T f =
    asked ((at T f).tag == 2) (NoFunction p)
    (asked (below m α T (at T f).second (at T f).first) (Result p) (known (at T f).second))

-- Check of an operand of type b: is it guarded? Then it is a computation with the guard's role.
abbrev pub checked_as : ℕ → Entry → Judged
checked_as p b = asked (b.tag == 3) (NoGuard p) (fresh (computation_type b.third b.first))

-- Let with a computation of type a first and an operand of type b second: is it a computation? Then it is one at the join of both roles.
abbrev pub joined_as : Meaning → ℕ → Entry → Entry → Judged
joined_as m p a b =
    asked (b.tag == 4) (NoComputation p) (fresh (computation_type (role_of (m.join a.third b.third)) b.first))

-- Raise by a role of an operand of type b: is it a computation? Then it is one at the remainder of its role by that role.
abbrev pub raised_as : Meaning → ℕ → ℕ → Entry → Judged
raised_as m p by b =
    asked (b.tag == 4) (NoComputation p) (fresh (computation_type (role_of (m.remainder b.third by)) b.first))

-- Restriction to a role of an operand of type b: is it a computation, and, for sufficiency, does the role dominate its role? Then its type is as before.
abbrev pub restricted_as : Meaning → System → ℕ → ℕ → Entry → Judged
restricted_as m α p to b =
    asked (b.tag == 4) (NoComputation p)
    (asked (permits m α to b.third) (Restriction p) (fresh (computation_type b.third b.first)))

-- Check of an operand, by the number of its type.
abbrev pub checked : ℕ → List Entry → ℕ → Judged
checked p T x = checked_as p (at T x)

-- Let of two operands, by the numbers of their types.
abbrev pub joined : Meaning → ℕ → List Entry → ℕ → ℕ → Judged
joined m p T f x = joined_as m p (at T f) (at T x)

-- Raise of an operand, by the number of its type.
abbrev pub raised : Meaning → ℕ → List Entry → ℕ → ℕ → Judged
raised m p T by x = raised_as m p by (at T x)

-- Restriction of an operand, by the number of its type.
abbrev pub restricted : Meaning → System → ℕ → List Entry → ℕ → ℕ → Judged
restricted m α p T to x = restricted_as m α p to (at T x)
