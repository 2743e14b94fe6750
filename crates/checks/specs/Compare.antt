-- The comparison of two types, a pair of entries at a time. Assumes nothing.
use Rattle.std.specs.Prelude.{Bool, true, false, cond, not, List, [], ◌∷◌, ◌==◌}
use Rattle.roles.specs.Meaning.{Meaning}
use Rattle.calculus.specs.Subtyping.{System}
use Rattle.calculus.specs.Inference.{role_test_way}
use Rattle.tables.specs.declared.entry.Entry.{Entry}
use Rattle.checks.specs.declared.compare.Pair.{Pair}

-- Two types agree in all but the types that they name: in the tag, and in the kind or the role test.
abbrev pub alike_of : Meaning → System → Bool → Entry → Entry → Bool
alike_of m α way x y =
    cond (x.tag == y.tag)
    (cond (x.tag == 1) (x.first == y.first)
    (cond (x.tag == 2) true (role_test_way m α way x.third y.third)))
    false

-- What two alike types leave to compare: nothing of base types; of functions the results, and the arguments the other way; else the inner types.
abbrev pub operands_of : Bool → Entry → Entry → List Pair
operands_of way x y =
    cond (x.tag == 1) []
    (cond (x.tag == 2)
    (record { left = x.second; right = y.second; forward = way } ∷ record { left = x.first; right = y.first; forward = not way } ∷ [])
    (record { left = x.first; right = y.first; forward = way } ∷ []))
