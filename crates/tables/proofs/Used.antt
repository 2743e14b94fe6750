-- How often a term is named by one entry more, and how often at most.
use Rattle.std.proofs.Common.{◌≡◌, ℕ, zero, suc, ◌+◌, ◌*◌, ◌<◌, ◌≤◌, List, [], ◌∷◌, ◌++◌, length, get_or, take, replicate, refl, ap, ◌∙◌, arith}
use Rattle.std.proofs.lemmas.List.{take_more, length-take-le}
use Rattle.std.proofs.lemmas.Bool.Decides.{nat_tests}
use Rattle.tables.specs.declared.entry.Entry.{Entry}
use Rattle.tables.specs.Entries.{at, no_entry}
use Rattle.tables.specs.Uses.{hits, uses}

hits_most : (e : Entry) (i : ℕ) → hits e i ≤ 2
hits_most e i = grind (arith, nat_tests)

pub uses-most : (es : List Entry) (i : ℕ) → uses es i ≤ 2 * length es
uses-most [] i = omega arith
uses-most (e ∷ es) i = omega (arith, hits_most e i, uses-most es i)

uses_push : (es : List Entry) (e : Entry) (i : ℕ) → uses (es ++ (e ∷ [])) i ≡ uses es i + hits e i
uses_push [] e i = omega arith
uses_push (x ∷ es) e i = omega (arith, uses_push es e i)

pub uses-more : (es : List Entry) (k i : ℕ) → k < length es → uses (take (k + 1) es) i ≡ uses (take k es) i + hits (at es k) i
uses-more es k i h = ap (λ l. uses l i) (take_more es k no_entry h) ∙ uses_push (take k es) (at es k) i

-- while the first k entries of at most 1,024 are counted, no count is above 2,048
pub uses-few : (es : List Entry) (k i : ℕ) → k ≤ length es → length es ≤ 1024 → uses (take k es) i ≤ 2048
uses-few es k i h l = omega (arith, uses-most (take k es) i, length-take-le k es h)

-- before any entry is counted
pub uses-none : (n i : ℕ) → ◌≡◌ {A = ℕ} (get_or (replicate n 0) i 0) 0
uses-none zero i = refl
uses-none (suc n) zero = refl
uses-none (suc n) (suc i) = uses-none n i
