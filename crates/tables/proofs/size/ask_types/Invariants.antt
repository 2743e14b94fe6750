use Rattle.std.proofs.Common.{◌≡◌, ℕ, ◌-◌, ◌<◌, ◌≤◌, length, get_or, take}
use Rattle.tables.specs.Asking.{of_each}
use Rattle.tables.specs.Form.{ask_type}
use Rattle.tables.specs.Sizes.{sizes}
use Rattle.tables.proofs.size.ask_types.Given as goal

-- the sizes below are known and at most 4,096, and what is left to ask gives the answer
abbrev pub invariant-loop-i : goal.invariant-loop-i
invariant-loop-i g l =
    let ask = ask_type (g.S.Scheme.meaning l.scheme).role l.types in
    (length l.sizes ≡ 512) × (take l.i l.sizes ≡ sizes l.types l.i) × ((k : ℕ) → k < l.i → get_or l.sizes k 0 ≤ 4096)
    × (of_each ask (length l.types - l.i) l.i ≡ of_each ask (length l.types) 0)
