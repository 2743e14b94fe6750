-- The sizes of the types, filled in from below.
use Rattle.std.proofs.Common.{◌≡◌, ℕ, ◌+◌, ◌<◌, true, List, [], ◌∷◌, ◌++◌, length, take, set, sym, ap, ◌∙◌, add-one, arith}
use Rattle.std.proofs.lemmas.List.{take_more_set, get_or-take}
use Rattle.std.proofs.lemmas.Bool.Decides.{nat_tests}
use Rattle.tables.specs.declared.entry.Entry.{Entry}
use Rattle.tables.specs.Entries.{at, type_operands}
use Rattle.tables.specs.Sizes.{size_by, sizes, size}

-- a size reads only what lies below
size_below : (e : Entry) (i : ℕ) (xs : List ℕ) → type_operands e i ≡ true → size_by e (take i xs) ≡ size_by e xs
size_below e i xs h = grind (arith, nat_tests, get_or-take)

pub size_is : (es : List Entry) (xs : List ℕ) (i : ℕ) → type_operands (at es i) i ≡ true → take i xs ≡ sizes es i → size_by (at es i) xs ≡ size es i
size_is es xs i h e = sym (size_below (at es i) i xs h) ∙ ap (size_by (at es i)) e

pub sizes_more : (es : List Entry) (xs : List ℕ) (i : ℕ) → i < length xs → take i xs ≡ sizes es i → take (i + 1) (set xs i (size es i)) ≡ sizes es (i + 1)
sizes_more es xs i l e =
    take_more_set xs i (size es i) l ∙ (ap (λ r. r ++ (size es i ∷ [])) e ∙ sym (ap (sizes es) (add-one i)))
