use Rattle.std.proofs.Common.{ℕ, ◌<◌, ◌≢◌, List, length, get_or, sym, refl, ap, ◌∙◌, arith, length-take-le, get_or-set_other, get_or-set_same, below_more}
use Rattle.tables.specs.declared.entry.Entry.{Entry}
use Rattle.runs.specs.Reach.{no_entry, reach_of}
use Rattle.runs.proofs.Grounding.{tree_prefix}
use Rattle.runs.proofs.Tags.{tagged_at, lower_at, small_at}
use Rattle.runs.proofs.Reaching.{lower_is, step_reach}
use Rattle.runs.proofs.reach.fill.Goals as goal

pub reach_step-requires : goal.reach_step-requires
reach_step-requires c =
    let es : List Entry = c.args.terms.now in
    let i : ℕ = c.loop-i.i in
    let l : i < length es = omega arith in
    let g = c.requires.1.1.0 in
    let e : Entry = get_or es i no_entry in
    (lower_is e i (tagged_at es i e g l refl) (lower_at es i e g l refl) (small_at es i e g l refl), omega arith)

pub loop-i-preserved : goal.loop-i-preserved
loop-i-preserved c =
    let es : List Entry = c.args.terms.now in
    let i : ℕ = c.loop-i.i in
    let l : i < length es = omega arith in
    let e : Entry = get_or es i no_entry in
    below_more _ _
    (λ k h. let ne : k ≢ i = omega arith in get_or-set_other c.loop-i.reach i k _ 0 ne ∙ c.loop-i.invariant k h)
    (get_or-set_same c.loop-i.reach i _ 0 (omega arith) ∙ (c.reach_step.ensures ∙ step_reach es c.loop-i.reach i e c.requires.1.1.0 l refl c.loop-i.invariant))

pub loop-i-init : goal.loop-i-init
loop-i-init c =
    let es : List Entry = c.args.terms.now in
    let f : ℕ = c.args.from in
    let n = length-take-le f es (omega arith) in
    λ k h. c.requires.1.1.1 k (omega arith) ∙ sym (ap reach_of (tree_prefix es f k (omega arith) h))
