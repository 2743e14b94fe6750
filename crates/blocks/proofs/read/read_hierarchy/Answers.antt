use Rattle.std.proofs.Common.{ℕ, ◌*◌, drop, ap, ◌∙◌, rules}
use Rattle.std.proofs.lemmas.List.{take_rest}
use Rattle.blocks.proofs.read.read_hierarchy.Goals as goal

pub returns : goal.returns
returns c = (search rules, search rules, take_rest c.args.bytes.now (8 * c.rows_after.result) ∙ ap (λ (n : ℕ). drop (8 * n) c.args.bytes.now) c.rows_after.ensures)
