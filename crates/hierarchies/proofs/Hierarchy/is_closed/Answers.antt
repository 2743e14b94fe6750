use Rattle.std.proofs.Common.{rules, ◌≡◌, true, false, refl, arith}
use Rattle.std.proofs.lemmas.Iterator.{cases_from_all, YieldsList-from_range}
use Rattle.hierarchies.specs.Kind.{keeps_row}
use Rattle.hierarchies.specs.Every.{every_from_all}
use Rattle.hierarchies.proofs.Hierarchy.is_closed.Goals as goal

pub returns : goal.returns
returns c =
    let n = c.args.self.now.count in
    let p = keeps_row c.args.self.now.rows c.args.code in
    every_from_all n p _ (cases_from_all _ _ _ (λ k. p k ≡ true) (λ k. p k ≡ false) c.all.ensures.ran (YieldsList-from_range 0 n n refl (omega arith)) (λ x q k. search rules) (λ x q k. search rules))
