use Rattle.std.proofs.Common.{◌≡◌, ◌-◌, ◌*◌, ◌≤◌, set, replicate, sym, ap, ◌∙◌, ap₂, arith, length, length-set}
use Rattle.std.proofs.lemmas.List.{take-replicate, length-replicate}
use Rattle.codes.proofs.Reading.{code_within}
use Rattle.blocks.proofs.Rows.{rows_more, rows_most, rows_whole}
use Rattle.blocks.proofs.read.read_rows.Goals as goal

pub loop-i-init : goal.loop-i-init
loop-i-init c =
    let few : c.rows_after-count.result ≤ 64 = omega (arith, rows_most c.args.size, c.rows_after-count.ensures) in
    let all : c.rows_after-count.result ≡ c.rows_after-count.result - 0 = omega arith in
    let taken = take-replicate c.rows_after-count.result 64 0 few in
    (taken ∙ ap (λ k. replicate k 0) all, omega arith, omega arith, ap length taken ∙ length-replicate c.rows_after-count.result 0)

pub loop-i-preserved : goal.loop-i-preserved
loop-i-preserved c =
    let found = code_within c.args.bytes.now (8 * c.loop-i.i) c.in_ok-row.field-0 (sym c.read_code.ensures ∙ c.in_ok-row.was) in
    (ap₂ (λ r v. set r c.loop-i.i v) c.loop-i.invariant.0 found.1 ∙ rows_more _ c.loop-i.i c.args.bytes.now (omega arith), omega arith, omega arith, length-set c.loop-i.row-items c.loop-i.i _ ∙ c.loop-i.invariant.3)

pub returns : goal.returns
returns c = rows_whole c.args.size c.args.bytes.now c.loop-i.row-items _ c.loop-i.i c.rows_after-count.ensures (omega arith) c.loop-i.invariant.1 c.loop-i.invariant.0
