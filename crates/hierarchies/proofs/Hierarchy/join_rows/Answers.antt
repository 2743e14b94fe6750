use Rattle.std.proofs.Common.{sym, ap, drop, refl, ◌∙◌, arith}
use lib.Bits.{bit_or}
use Rattle.codes.specs.Bits.{holds_bit}
use Rattle.hierarchies.specs.Kind.{joined_rows}
use Rattle.hierarchies.specs.Rows.{joined_then, joined_else, row_and_rest}
use Rattle.hierarchies.proofs.Hierarchy.join_rows.Goals as goal

pub loop-j-preserved-then-holds : goal.loop-j-preserved-then-holds
loop-j-preserved-then-holds c =
    let s = c.in-Some.ensures.steps in
    let rows = c.args.self.now.rows in
    let here = row_and_rest rows _ _ _ (sym s.1 ∙ c.loop-j.invariant.1) in
    let held = ap (holds_bit c.args.code) (sym s.0.1.1) ∙ sym c.if-holds.ensures in
    (joined_then rows c.args.code _ _ _ c.loop-j.invariant.0 held (ap (bit_or c.loop-j.joined) here.0) ∙ ap (joined_rows rows c.args.code) (sym s.0.1.2), here.1 ∙ ap (λ k. drop k rows) (sym s.0.1.2), s.0.0 ∙ c.loop-j.invariant.2, omega arith)

pub loop-j-preserved : goal.loop-j-preserved
loop-j-preserved c =
    let s = c.in-Some.ensures.steps in
    let rows = c.args.self.now.rows in
    let here = row_and_rest rows _ _ _ (sym s.1 ∙ c.loop-j.invariant.1) in
    let held = ap (holds_bit c.args.code) (sym s.0.1.1) ∙ sym c.if-holds.ensures in
    (joined_else rows c.args.code _ _ _ c.loop-j.invariant.0 held refl ∙ ap (joined_rows rows c.args.code) (sym s.0.1.2), here.1 ∙ ap (λ k. drop k rows) (sym s.0.1.2), s.0.0 ∙ c.loop-j.invariant.2, omega arith)
