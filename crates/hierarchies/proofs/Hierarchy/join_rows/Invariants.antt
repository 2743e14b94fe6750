use Rattle.std.proofs.Common.{◌≡◌, ◌≤◌, drop}
use Rattle.hierarchies.specs.Kind.{joined_rows}
use Rattle.hierarchies.proofs.Hierarchy.join_rows.Given as goal

abbrev pub invariant-loop-j : goal.invariant-loop-j
invariant-loop-j l = (l.joined ≡ joined_rows l.self.rows l.code l.j-iterator.a.start) × (l.j-iterator.b.rest.now ≡ drop l.j-iterator.a.start l.self.rows) × (l.j-iterator.a.end ≡ l.self.count) × (l.j-iterator.a.start ≤ l.self.count)
