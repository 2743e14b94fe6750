use Rattle.std.proofs.Common.{◌≡◌, suc, ◌-◌, arith}
use Rattle.runs.proofs.Making.{way_fits, way_room, after_inner, way_done}
use Rattle.runs.proofs.reach.Used.+make_on.Goals as goal

pub make_on-a-requires : goal.make_on-a-requires
make_on-a-requires t c =
    let q : c.args.path ≡ suc (c.args.path - 1) = omega arith in
    let r = way_room c.args.self.now.terms.now c.args.self.now.ground c.args.room.now c.args.path (c.args.path - 1) c.args.at c.args.act.now q c.requires.form c.requires.room in
    (omega arith, (way_fits c.args.self.now.terms.now c.args.self.now.ground c.args.room.now c.args.path (c.args.path - 1) c.args.at c.args.act.now q c.requires.form c.requires.room, omega arith))

pub append-requires : goal.append-requires
append-requires t c =
    let q : c.args.path ≡ suc (c.args.path - 1) = omega arith in
    after_inner c.args.self.now.terms.now c.args.self.now.ground c.args.room.now c.args.path (c.args.path - 1) c.args.at c.args.act.now q c.requires.form c.requires.room c.make_on-a.new.room c.make_on-a.result c.make_on-a.ensures

pub returns : goal.returns
returns t c =
    let q : c.args.path ≡ suc (c.args.path - 1) = omega arith in
    way_done c.args.self.now.terms.now c.args.self.now.ground c.args.room.now c.args.path (c.args.path - 1) c.args.at c.args.act.now q c.requires.form c.requires.room c.make_on-a.new.room c.append.new.self c.make_on-a.result c.append.result c.renew.result c.make_on-a.ensures c.renew.ensures c.append.ensures
