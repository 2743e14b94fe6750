use Rattle.jobs.proofs.Puts.{operands_put}
use Rattle.jobs.proofs.encode.put_operands.Goals as goal

pub returns : goal.returns
returns c =
    operands_put c.args.out.now c.put.new.out c.put-2.new.out c.put-3.new.out _ _ _ c.args.p c.args.e c.bytes32.ensures c.bytes32-2.ensures c.bytes64.ensures c.put.ensures c.put-2.ensures c.put-3.ensures
