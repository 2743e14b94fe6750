use Rattle.std.proofs.Common.{◌+◌, sym, refl, ap, ◌∙◌, arith}
use Rattle.tables.specs.Entries.{at}
use Rattle.tables.specs.Uses.{hits}
use Rattle.tables.proofs.Used.{uses-few, uses-more, uses-none}
use Rattle.tables.proofs.terms.Terms.uses.Goals as goal

pub loop-i-init : goal.loop-i-init
loop-i-init c = (refl, λ k. uses-none 1024 k)

pub count-requires-clause-few : goal.count-requires-clause-few
count-requires-clause-few c = λ k.
    rw (c.loop-i.invariant.1 k) (uses-few c.args.self.now.entries.now c.loop-i.i k (omega arith) (omega arith))

pub loop-i-preserved : goal.loop-i-preserved
loop-i-preserved c =
    (omega arith, λ k. c.count.ensures k ∙ (ap (λ z. z + hits (at c.args.self.now.entries.now c.loop-i.i) k) (c.loop-i.invariant.1 k) ∙ sym (uses-more c.args.self.now.entries.now c.loop-i.i k (omega arith))))
