use Rattle.std.proofs.Common.{ℕ, ◌+◌, ◌<◌, ◌≢◌, List, length, get_or, take, sym, ap, ◌∙◌, arith, length-take-le, get_or-set_other, get_or-take, get_or-set_same, below_more}
use mathlib.Core.Bool.{false≢true}
use Rattle.tables.specs.declared.entry.Entry.{Entry}
use Rattle.runs.specs.Reach.{no_entry, reach_of}
use Rattle.runs.proofs.Tags.{tagged_at, lower_at, small_at}
use Rattle.runs.proofs.Reaching.{lower_is, step_reach}
use Rattle.runs.proofs.Grounding.{tree_prefix}
use Rattle.runs.proofs.Using.{Passed, ground_by, pass_on, pass_off, pass_end}
use Rattle.runs.proofs.usable.scan.Goals as goal

pub returns-then-not-passes : goal.returns-then-not-passes
returns-then-not-passes g c =
    let role = (g.S.Scheme.meaning c.args.scheme.now).role in
    record {
      passed = sym (pass_off role c.args.used.now (length c.args.used.now) c.loop-i.i (omega arith) (sym c.if-not-passes.ensures)) ∙ c.loop-i.invariant.0;
      known = λ h. absurd (false≢true h);
    }

pub reach_step-requires : goal.reach_step-requires
reach_step-requires g c =
    let role = (g.S.Scheme.meaning c.args.scheme.now).role in
    let es : List Entry = c.args.used.now in
    let i : ℕ = c.loop-i.i in
    let us : List Entry = take (i + 1) es in
    let e : Entry = get_or es i no_entry in
    let all : Passed role es (i + 1) = below_more _ _ c.loop-i.invariant.1 (sym c.if-not-passes.ensures) in
    let G = ground_by role es (i + 1) (omega arith) all in
    let n = length-take-le (i + 1) es (omega arith) in
    let l : i < length us = omega arith in
    let p = get_or-take (i + 1) es i no_entry (omega arith) in
    (lower_is e i (tagged_at us i e G l p) (lower_at us i e G l p) (small_at us i e G l p), omega arith)

pub loop-i-preserved : goal.loop-i-preserved
loop-i-preserved g c =
    let role = (g.S.Scheme.meaning c.args.scheme.now).role in
    let es : List Entry = c.args.used.now in
    let i : ℕ = c.loop-i.i in
    let rs : List ℕ = c.loop-i.reach in
    let us : List Entry = take (i + 1) es in
    let e : Entry = get_or es i no_entry in
    let here = sym c.if-not-passes.ensures in
    let all : Passed role es (i + 1) = below_more _ _ c.loop-i.invariant.1 here in
    let G = ground_by role es (i + 1) (omega arith) all in
    let n = length-take-le (i + 1) es (omega arith) in
    let l : i < length us = omega arith in
    let p = get_or-take (i + 1) es i no_entry (omega arith) in
    let K = λ (k : ℕ) (h : k < i). c.loop-i.invariant.2 k h ∙ ap reach_of (tree_prefix es (i + 1) k (omega arith) (omega arith)) in
    let v = c.reach_step.ensures ∙ step_reach us rs i e G l p K in (
      sym (pass_on role es (length es) i (omega arith) here) ∙ c.loop-i.invariant.0,
      all,
      below_more _ _
          (λ k h. let ne : k ≢ i = omega arith in get_or-set_other rs i k _ 0 ne ∙ c.loop-i.invariant.2 k h)
          (get_or-set_same rs i _ 0 (omega arith) ∙ (v ∙ sym (ap reach_of (tree_prefix es (i + 1) i (omega arith) (omega arith))))),
    )

pub returns : goal.returns
returns g c =
    let role = (g.S.Scheme.meaning c.args.scheme.now).role in
    record {
      passed = sym (pass_end role c.args.used.now (length c.args.used.now) c.loop-i.i (omega arith)) ∙ c.loop-i.invariant.0;
      known = λ h k l. c.loop-i.invariant.2 k (omega arith);
    }
