use Rattle.std.proofs.Common.{◌*◌, ◌^◌, ◌<◌, arith}
use Rattle.std.proofs.lemmas.Nat.{one_shl}
use Rattle.pairs.specs.Laws.{placed}
use Rattle.pairs.proofs.Pair.pack.Goals as goal

pub overflow_mul-result : goal.overflow_mul-result
overflow_mul-result g c =
    let w = c.args.cut.width in
    let p = placed _ _ (g.met.A.Scheme.lawful c.args.self.now.first) (g.met.B.Scheme.lawful c.args.self.now.second) c.requires.cut.sound w _ _ c.requires.cut.width c.requires.first c.requires.second in
    let fits : c.args.x * 2 ^ w < 2 ^ 64 = omega (arith, p.2) in
    rw (one_shl w 64 p.0) (record { fits = fits })

pub overflow_add-result : goal.overflow_add-result
overflow_add-result g c =
    let w = c.args.cut.width in
    let p = placed _ _ (g.met.A.Scheme.lawful c.args.self.now.first) (g.met.B.Scheme.lawful c.args.self.now.second) c.requires.cut.sound w _ _ c.requires.cut.width c.requires.first c.requires.second in
    rw (one_shl w 64 p.0) (record { fits = p.2 })
