use Rattle.std.proofs.Common.{rules, ◌≡◌, true, false, refl, arith}
use Rattle.std.proofs.lemmas.Bool.{and_from, le-leb}
use Rattle.std.proofs.lemmas.Iterator.{cases_from_all, YieldsList-from_range}
use Rattle.hierarchies.specs.Kind.{every, row_sound}
use Rattle.hierarchies.specs.Every.{every_from_all}
use Rattle.hierarchies.proofs.HierarchyScheme.sound.Goals as goal

pub returns : goal.returns
returns c =
    let n = c.args.self.now.count in
    let p = row_sound n c.args.self.now.rows in
    let all : c.all.result ≡ every n p = every_from_all n p _ (cases_from_all _ _ _ (λ k. p k ≡ true) (λ k. p k ≡ false) c.all.ensures.ran (YieldsList-from_range 0 n n refl (omega arith)) (λ x q k. search rules) (λ x q k. search rules)) in
    let within = and_from _ _ (le-leb 1 n (omega arith)) (le-leb n 64 (omega arith)) in
    rw within all
