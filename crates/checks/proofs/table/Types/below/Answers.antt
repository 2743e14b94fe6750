use Rattle.std.proofs.Common.{refl}
use Rattle.checks.proofs.Compares.{begins, popped_leads, apart, room, goes_on, shorter}
use Rattle.checks.proofs.Stacks.{popped, stack_length}
use Rattle.checks.proofs.table.Types.below.Goals as goal

pub loop-pair-init : goal.loop-pair-init
loop-pair-init g c = begins _ _ _ _ _ _ _ _ c.requires.right c.new-pairs.ensures c.push.ensures.items

pub returns-then-not-alike : goal.returns-then-not-alike
returns-then-not-alike g c = apart c.requires.left c.args.self.now.few c.args.self.now.ground (popped_leads c.in-Some.pair c.pop.new.self.items c.loop-pair.pairs.items c.in-Some.ensures.items c.loop-pair.invariant) c.if-not-alike.ensures

pub push_operands-requires : goal.push_operands-requires
push_operands-requires g c = room c.requires.left c.args.self.now.few c.args.self.now.ground (popped_leads c.in-Some.pair c.pop.new.self.items c.loop-pair.pairs.items c.in-Some.ensures.items c.loop-pair.invariant) _ (stack_length c.pop.new.self.items)

pub loop-pair-smaller : goal.loop-pair-smaller
loop-pair-smaller g c =
    shorter c.requires.left c.args.self.now.few c.args.self.now.ground (popped_leads c.in-Some.pair c.pop.new.self.items c.loop-pair.pairs.items c.in-Some.ensures.items c.loop-pair.invariant) c.pop.new.self.items _ c.loop-pair.pairs.items refl c.push_operands.ensures (popped c.in-Some.pair c.pop.new.self.items c.loop-pair.pairs.items c.in-Some.ensures.items)

pub loop-pair-preserved : goal.loop-pair-preserved
loop-pair-preserved g c = goes_on c.requires.left c.args.self.now.few c.args.self.now.ground (popped_leads c.in-Some.pair c.pop.new.self.items c.loop-pair.pairs.items c.in-Some.ensures.items c.loop-pair.invariant) c.if-not-alike.ensures c.pop.new.self.items _ refl c.push_operands.ensures
