-- How a term's operands are entered. Assumes nothing.
use Rattle.std.specs.Prelude.{ℕ, zero, suc, ◌+◌, Bool, true, cond, List, [], ◌∷◌, ◌==◌, slice_index}
use Rattle.calculus.specs.Subtyping.{System}
use Rattle.tables.specs.declared.entry.Entry.{Entry}
use Rattle.tables.specs.Depths.{binders}
use Rattle.tables.specs.Entries.{at}
use Rattle.walks.specs.Rules.{claim_of}
use Rattle.checks.specs.declared.walk.Frame.{Frame}

-- Is operand s walked, where the operand before it has the type v? The second of a let only if the first is a computation.
abbrev pub enters_of : List Entry → Entry → ℕ → ℕ → Bool
enters_of T e s v = cond (e.tag == 24) (cond (s == 1) ((at T v).tag == 4) true) true

-- The type of the variable that is bound in operand s, if any is: the claim, or the inner type of the first operand.
abbrev pub binder_of : System → List Entry → Entry → ℕ → ℕ → ℕ
binder_of α T e s v = cond (e.tag == 18) (claim_of α e) (cond (e.tag == 24) (cond (s == 1) (at T v).first 0) 0)

-- Under how many binders operand s stands, where the term stands under d.
abbrev pub deeper_of : Entry → ℕ → ℕ → ℕ
deeper_of e s d = d + binders e.tag s

-- The types of the binders, the innermost first, where an array has the outermost first.
abbrev pub env : List ℕ → ℕ → List ℕ
env bs zero = []
env bs (suc d) = slice_index bs d ∷ env bs d

-- A term of which no operand is walked.
abbrev pub opened : ℕ → ℕ → Frame
opened k d = record { number = k; stage = 0; first = 0; depth = d }

-- The term with one more operand entered, where v was found before it.
abbrev pub advanced : Frame → ℕ → Frame
advanced f v = record { number = f.number; stage = f.stage + 1; first = v; depth = f.depth }
