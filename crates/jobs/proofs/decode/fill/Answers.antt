use Rattle.std.proofs.Common.{ℕ, set, ap, ◌∙◌, arith}
use Rattle.tables.specs.Entries.{no_entry}
use Rattle.jobs.specs.Image.{entry_at}
use Rattle.jobs.proofs.Fills.{fill_more}
use Rattle.jobs.proofs.decode.fill.Goals as goal

pub loop-k-preserved : goal.loop-k-preserved
loop-k-preserved c =
    let k : ℕ = c.loop-k.k in
    ap (set c.loop-k.table k) c.entry.ensures
    ∙ (ap (λ l. set l k (entry_at c.args.tags.now c.args.operands.now k)) c.loop-k.invariant
    ∙ fill_more (entry_at c.args.tags.now c.args.operands.now) c.args.table.now k no_entry (omega arith))
