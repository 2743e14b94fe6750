use Rattle.std.proofs.Common.{arith, length-take-le}
use Rattle.runs.proofs.Grounding.{moved_ground, moved_known, moved_more, moved_live}
use Rattle.runs.proofs.turn.turn_live.Goals as goal

pub fill-requires : goal.fill-requires
fill-requires g c =
    let m = g.S.Scheme.meaning c.args.scheme.now in
    let T = c.in_ok-moved.ensures in
    let b = T.4 in
    let k = c.turn_at.auto.terms in
    let d = c.requires.0.reaching in
    let a = moved_more m c.args.role c.args.terms.now c.turn_at.new.terms c.args.reach.now c.args.used c.args.current c.requires.0 c.in_ok-moved.moved T in
    let n = length-take-le c.in_ok-moved.moved.used c.turn_at.new.terms (omega arith) in (
      omega arith,
      (
        omega arith,
        (
          moved_ground m c.args.role c.args.terms.now c.turn_at.new.terms c.args.reach.now c.args.used c.args.current c.requires.0 c.in_ok-moved.moved T,
          moved_known m c.args.role c.args.terms.now c.turn_at.new.terms c.args.reach.now c.args.used c.args.current c.requires.0 c.in_ok-moved.moved T,
        ),
      ),
    )

pub returns-clause-live : goal.returns-clause-live
returns-clause-live g c =
    moved_live (g.S.Scheme.meaning c.args.scheme.now) c.args.role c.args.terms.now c.turn_at.new.terms c.args.reach.now c.args.used c.args.current c.requires.0 c.in_ok-moved.moved c.in_ok-moved.ensures
    c.fill.new.reach c.turn_at.auto.terms c.fill.auto.reach c.fill.ensures
