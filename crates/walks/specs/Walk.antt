-- The walk of a check: the first operand of a term, its second operand, then the term. Assumes nothing.
use Rattle.std.specs.Prelude.{ℕ, ◌+◌, cond, List, ◌∷◌, Ok, Err, Result, ◌==◌, slice_index, slice_index_or, slice_set}
use Rattle.roles.specs.Meaning.{Meaning}
use Rattle.calculus.specs.Subtyping.{System}
use Rattle.tables.specs.declared.entry.Entry.{Entry}
use Rattle.tables.specs.Entries.{at}
use Rattle.tables.specs.Ladder.{rung}
use Rattle.walks.specs.declared.fault.TypingFault.{TypingFault}
use Rattle.walks.specs.declared.fault.TypingFault.TheVariants.{NoComputation}
use Rattle.walks.specs.declared.finding.Finding.TheVariants.{Known, New}
use Rattle.walks.specs.Rules.{Judged, known, fresh, base_type, function_type, guarded_type, computation_type, claim_of, applied, fixed, checked, joined, raised, restricted}

-- Where a walk stands.
pub data Walked : Type 0 where
  -- it goes on: the table of types, how many of its places are in use, and the type found last
  going : List Entry → ℕ → ℕ → Walked
  -- it has stopped: the table of types, and the fault
  stopped : List Entry → TypingFault → Walked

-- A walk of a term under its binders' types, the innermost first, from a table of types and how many of its places are in use.
abbrev pub Walker : Type 0
Walker = List ℕ → List Entry → ℕ → Walked

-- A walk that goes on, and then the next.
abbrev pub and_then : Walked → (List Entry → ℕ → ℕ → Walked) → Walked
and_then (going T u x) f = f T u x
and_then (stopped T c) f = stopped T c

-- What is found of a term is its type, and a new type is appended at the first place that is not in use.
abbrev pub settled : Judged → List Entry → ℕ → Walked
settled (Err c) T u = stopped T c
settled (Ok (Known x)) T u = going T u x
settled (Ok (New e)) T u = going (slice_set T u e) (u + 1) u

-- The rest of a let whose first operand has the type f: that has to be a computation before the second is looked at, which is under its inner type.
abbrev pub let_rest : Meaning → ℕ → Entry → (ℕ → Walker) → List ℕ → List Entry → ℕ → ℕ → Walked
let_rest m p e w Γ T u f =
    cond ((at T f).tag == 4)
    (and_then (w e.second ((at T f).first ∷ Γ) T u) (λ T u x. settled (joined m p T f x) T u))
    (stopped T (NoComputation p))

-- The walk of the term e, which stands at place p, by the walks of the terms that it names; rule by rule, in the order of the tags.
abbrev pub walk_by : Meaning → System → ℕ → Entry → (ℕ → Walker) → Walker
walk_by m α p e w Γ T u =
    cond (e.tag == 16) (settled (fresh (base_type e.first)) T u)
    (cond (e.tag == 17) (settled (known (slice_index Γ e.first)) T u)
    (cond (e.tag == 18) (and_then (w e.first (claim_of α e ∷ Γ) T u) (λ T u x. settled (fresh (function_type (claim_of α e) x)) T u))
    (cond (e.tag == 19) (and_then (w e.first Γ T u) (λ T u f. and_then (w e.second Γ T u) (λ T u x. settled (applied m α p T f x) T u)))
    (cond (e.tag == 20) (and_then (w e.first Γ T u) (λ T u f. settled (fixed m α p T f) T u))
    (cond (e.tag == 21) (and_then (w e.first Γ T u) (λ T u x. settled (fresh (guarded_type e.third x)) T u))
    (cond (e.tag == 22) (and_then (w e.first Γ T u) (λ T u x. settled (checked p T x) T u))
    (cond (e.tag == 23) (and_then (w e.first Γ T u) (λ T u x. settled (fresh (computation_type m.bottom x)) T u))
    (cond (e.tag == 24) (and_then (w e.first Γ T u) (λ T u f. let_rest m p e w Γ T u f))
    (cond (e.tag == 25) (and_then (w e.first Γ T u) (λ T u x. settled (raised m p T e.third x) T u))
    (and_then (w e.first Γ T u) (λ T u x. settled (restricted m α p T e.third x) T u)))))))))))

-- What a walk tells in the end: the type found last, or the fault.
abbrev pub told : Walked → Result ℕ TypingFault
told (going T u x) = Ok x
told (stopped T c) = Err c

-- The table that a walk leaves.
abbrev pub table_of : Walked → List Entry
table_of (going T u x) = T
table_of (stopped T c) = T

-- The walk of term k by the list of the walks of the terms below it.
abbrev pub walk_step : Meaning → System → ℕ → List Entry → ℕ → List Walker → Walker
walk_step m α t terms k ws = walk_by m α (t + k) (at terms k) (λ i. slice_index_or ws i (λ Γ T u. going T u 0))

-- The walk of term k of a job of t types.
unfoldable pub walk_of : Meaning → System → ℕ → List Entry → ℕ → Walker
walk_of m α t terms k = rung (walk_step m α t terms) k
