use Rattle.std.proofs.Common.{◌≤◌, eqb, sym, ap, ◌∙◌, arith}
use Rattle.std.proofs.lemmas.Bool.{le-ltb}
use Rattle.codes.proofs.Digits.{bit_above}
use Rattle.codes.proofs.bits.holds.Goals as goal

pub returns-else-j-lt64 : goal.returns-else-j-lt64
returns-else-j-lt64 c =
    let high : 64 ≤ c.args.j = omega arith in
    le-ltb c.args.j 64 high ∙ sym (ap (λ b. eqb b 1) (bit_above 64 c.args.j c.args.code high (omega arith)))
