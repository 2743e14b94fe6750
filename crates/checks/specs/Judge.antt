-- The rules of the walk by the tag of a term, when the walk of its operands is done. Assumes nothing.
use Rattle.std.specs.Prelude.{◌≡◌, ℕ, ◌<◌, ◌≤◌, true, cond, List, ◌==◌, slice_index}
use Rattle.roles.specs.Meaning.{Meaning}
use Rattle.calculus.specs.Subtyping.{System}
use Rattle.tables.specs.declared.entry.Entry.{Entry}
use Rattle.tables.specs.Entries.{at, names}
use Rattle.walks.specs.Places.{Placed}
use Rattle.walks.specs.Rules.{Judged, known, fresh, base_type, function_type, guarded_type, computation_type, claim_of, applied, fixed, checked, joined, raised, restricted}

-- The type of the binder of a variable, by the types of the binders around it, the innermost first.
abbrev pub bound_of : List ℕ → Entry → ℕ
bound_of Γ e = cond (e.tag == 17) (slice_index Γ e.first) 0

-- What is found of the term e at place p, where x is the type of its last operand, f of the one before, and b of its binder.
unfoldable pub judge_of : Meaning → System → ℕ → List Entry → Entry → ℕ → ℕ → ℕ → Judged
judge_of m α p T e f x b =
    cond (e.tag == 16) (fresh (base_type e.first))
    (cond (e.tag == 17) (known b)
    (cond (e.tag == 18) (fresh (function_type (claim_of α e) x))
    (cond (e.tag == 19) (applied m α p T f x)
    (cond (e.tag == 20) (fixed m α p T x)
    (cond (e.tag == 21) (fresh (guarded_type e.third x))
    (cond (e.tag == 22) (checked p T x)
    (cond (e.tag == 23) (fresh (computation_type m.bottom x))
    (cond (e.tag == 24) (joined m p T f x)
    (cond (e.tag == 25) (raised m p T e.third x)
    (restricted m α p T e.third x))))))))))

-- All that is looked at is there, where the first u types are types: the operands' types and the claims are among them, and the scheme is sound.
pub record Ready (m : Meaning) (T : List Entry) (u : ℕ) (e : Entry) (f x : ℕ) : Type 0 where
  pub sound : m.sound ≡ true
  pub own : (t : ℕ) × (k : ℕ) × (t ≤ u) × Placed m.role t k e
  pub one : 1 ≤ names e.tag → x < u
  pub two : 2 ≤ names e.tag → f < u
  pub first : e.tag ≡ 24 → (at T f).tag ≡ 4
