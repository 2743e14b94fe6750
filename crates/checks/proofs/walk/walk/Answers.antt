use Rattle.std.proofs.Common.{◌<◌, length, replicate, Ok, sym, refl, ap, ◌∙◌, arith}
use Rattle.std.proofs.lemmas.Result.{err_from_is_err_and}
use Rattle.arrayvec.specs.ArrayVec.{array_vec_len}
use Rattle.tables.proofs.Asked.{asks_yes}
use Rattle.walks.specs.Walk.{told, table_of}
use Rattle.checks.specs.Systems.{meant}
use Rattle.checks.proofs.Stack.{begins, popped_stands, refused, two_more, entered, entered_less, types_long, types_few, types_ground, top_ready, failed, known_stands, fresh_stands}
use Rattle.checks.proofs.Stacks.{popped, stack_length}
use Rattle.checks.proofs.walk.walk.Goals as goal

pub loop-frame-init : goal.loop-frame-init
loop-frame-init g c =
    begins _ (g.met.S.Scheme.lawful c.args.scheme.now) (meant c.args.system) c.args.t c.args.types.now c.args.terms.now c.requires (replicate 1024 0) refl c.open.result c.open.ensures c.new-frames.result.items c.push.new.self.items c.new-frames.ensures c.push.ensures.items

pub returns-in_err-ask-clause-answer : goal.returns-in_err-ask-clause-answer
returns-in_err-ask-clause-answer g c =
    let p = err_from_is_err_and c.from_residual.result c.from_residual.ensures.1 in
    rw (p.1, p.2) (ap told (refused (popped_stands c.in-Some.frame c.pop.new.self.items c.loop-frame.frames.items c.in-Some.ensures.items c.loop-frame.invariant) c.enters-walked.result _ (omega (arith, c.if-frame-named_terms.true, c.named_terms.ensures)) c.enters-walked.ensures c.in_err-ask.ensures))

pub returns-in_err-ask-clause-table : goal.returns-in_err-ask-clause-table
returns-in_err-ask-clause-table g c = ap table_of (refused (popped_stands c.in-Some.frame c.pop.new.self.items c.loop-frame.frames.items c.in-Some.ensures.items c.loop-frame.invariant) c.enters-walked.result _ (omega (arith, c.if-frame-named_terms.true, c.named_terms.ensures)) c.enters-walked.ensures c.in_err-ask.ensures)

pub push-requires-then-frame-named_terms-2 : goal.push-requires-then-frame-named_terms-2
push-requires-then-frame-named_terms-2 g c =
    let n = two_more (popped_stands c.in-Some.frame c.pop.new.self.items c.loop-frame.frames.items c.in-Some.ensures.items c.loop-frame.invariant) c.binder.result (omega (arith, c.if-frame-named_terms.true, c.named_terms.ensures)) (sym c.enters-walked.ensures ∙ asks_yes _ _ (sym c.in_ok-ask.ensures)) c.binder.ensures c.next.result c.enter.result c.next.ensures c.enter.ensures (length c.pop.new.self.items) (stack_length c.pop.new.self.items) in
    let l : array_vec_len c.push-then-frame-named_terms.new.self < 1024 = omega (arith, c.push-then-frame-named_terms.ensures.len) in
    (omega arith, l)

pub loop-frame-smaller-then-frame-named_terms : goal.loop-frame-smaller-then-frame-named_terms
loop-frame-smaller-then-frame-named_terms g c =
    entered_less (popped_stands c.in-Some.frame c.pop.new.self.items c.loop-frame.frames.items c.in-Some.ensures.items c.loop-frame.invariant) c.binder.result (omega (arith, c.if-frame-named_terms.true, c.named_terms.ensures)) (sym c.enters-walked.ensures ∙ asks_yes _ _ (sym c.in_ok-ask.ensures)) c.binder.ensures c.next.result c.enter.result c.next.ensures c.enter.ensures c.pop.new.self.items c.push-then-frame-named_terms.new.self.items c.push-then-frame-named_terms-2.new.self.items c.loop-frame.frames.items refl c.push-then-frame-named_terms.ensures.items c.push-then-frame-named_terms-2.ensures.items (popped c.in-Some.frame c.pop.new.self.items c.loop-frame.frames.items c.in-Some.ensures.items)

pub loop-frame-preserved-then-frame-named_terms : goal.loop-frame-preserved-then-frame-named_terms
loop-frame-preserved-then-frame-named_terms g c =
    entered (popped_stands c.in-Some.frame c.pop.new.self.items c.loop-frame.frames.items c.in-Some.ensures.items c.loop-frame.invariant) c.binder.result (omega (arith, c.if-frame-named_terms.true, c.named_terms.ensures)) (sym c.enters-walked.ensures ∙ asks_yes _ _ (sym c.in_ok-ask.ensures)) c.binder.ensures c.next.result c.enter.result c.next.ensures c.enter.ensures c.pop.new.self.items c.push-then-frame-named_terms.new.self.items c.push-then-frame-named_terms-2.new.self.items refl c.push-then-frame-named_terms.ensures.items c.push-then-frame-named_terms-2.ensures.items

pub invariant_of-known : goal.invariant_of-known
invariant_of-known g c = record {
  long = types_long (popped_stands c.in-Some.frame c.pop.new.self.items c.loop-frame.frames.items c.in-Some.ensures.items c.loop-frame.invariant);
  few = types_few (popped_stands c.in-Some.frame c.pop.new.self.items c.loop-frame.frames.items c.in-Some.ensures.items c.loop-frame.invariant);
  ground = types_ground (popped_stands c.in-Some.frame c.pop.new.self.items c.loop-frame.frames.items c.in-Some.ensures.items c.loop-frame.invariant);
}

pub judge-requires : goal.judge-requires
judge-requires g c = top_ready (popped_stands c.in-Some.frame c.pop.new.self.items c.loop-frame.frames.items c.in-Some.ensures.items c.loop-frame.invariant) (omega (arith, c.if-frame-named_terms.false, c.named_terms.ensures))

pub returns-in_err-found-clause-answer : goal.returns-in_err-found-clause-answer
returns-in_err-found-clause-answer g c =
    let p = err_from_is_err_and c.from_residual-in_err-found.result c.from_residual-in_err-found.ensures.1 in
    rw (p.1, p.2) (ap told (failed (popped_stands c.in-Some.frame c.pop.new.self.items c.loop-frame.frames.items c.in-Some.ensures.items c.loop-frame.invariant) c.lookup-bound.result c.judge.result c.lookup-bound.ensures c.judge.ensures (omega (arith, c.if-frame-named_terms.false, c.named_terms.ensures)) _ c.in_err-found.was))

pub returns-in_err-found-clause-table : goal.returns-in_err-found-clause-table
returns-in_err-found-clause-table g c = ap table_of (failed (popped_stands c.in-Some.frame c.pop.new.self.items c.loop-frame.frames.items c.in-Some.ensures.items c.loop-frame.invariant) c.lookup-bound.result c.judge.result c.lookup-bound.ensures c.judge.ensures (omega (arith, c.if-frame-named_terms.false, c.named_terms.ensures)) _ c.in_err-found.was)

pub loop-frame-preserved-in-Known : goal.loop-frame-preserved-in-Known
loop-frame-preserved-in-Known g c = known_stands (popped_stands c.in-Some.frame c.pop.new.self.items c.loop-frame.frames.items c.in-Some.ensures.items c.loop-frame.invariant) c.lookup-bound.result c.judge.result c.lookup-bound.ensures c.judge.ensures (omega (arith, c.if-frame-named_terms.false, c.named_terms.ensures)) c.in-Known.ty (c.in_ok-found.was ∙ ap Ok c.in-Known.is)

pub loop-frame-preserved : goal.loop-frame-preserved
loop-frame-preserved g c = fresh_stands (popped_stands c.in-Some.frame c.pop.new.self.items c.loop-frame.frames.items c.in-Some.ensures.items c.loop-frame.invariant) c.lookup-bound.result c.judge.result c.lookup-bound.ensures c.judge.ensures (omega (arith, c.if-frame-named_terms.false, c.named_terms.ensures)) c.in-New.entry (c.in_ok-found.was ∙ ap Ok c.in-New.is)
