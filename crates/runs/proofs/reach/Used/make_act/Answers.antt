use Rattle.runs.proofs.Making.{unit_room, unit_done, share_done}
use Rattle.runs.proofs.reach.Used.make_act.Goals as goal

pub append-requires : goal.append-requires
append-requires c = unit_room c.args.self.now.terms.now c.args.self.now.ground c.args.room.now c.in-Unit.of c.args.act.now c.requires.form c.in-Unit.is c.requires.room

pub returns-in-Unit : goal.returns-in-Unit
returns-in-Unit c = unit_done c.args.self.now.terms.now c.args.self.now.ground c.args.room.now c.in-Unit.of c.args.act.now c.requires.form c.append.new.self c.append.result c.in-Unit.is c.append.ensures

pub returns-in-Share : goal.returns-in-Share
returns-in-Share c = share_done c.args.self.now.terms.now c.args.self.now.ground c.args.room.now c.in-Share.of c.args.act.now c.requires.form c.in-Share.is
