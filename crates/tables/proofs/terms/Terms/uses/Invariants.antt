use Rattle.std.proofs.Common.{◌≡◌, ℕ, length, get_or, take}
use Rattle.tables.specs.Uses.{uses}
use Rattle.tables.proofs.terms.Terms.uses.Given as goal

-- each count is that of the entries gone through
abbrev pub invariant-loop-i : goal.invariant-loop-i
invariant-loop-i l = (length l.counts ≡ 1024) × ((k : ℕ) → get_or l.counts k 0 ≡ uses (take l.i l.self.entries.now) k)
