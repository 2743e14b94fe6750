use Rattle.std.proofs.Common.{ℕ, ◌-◌, ◌/◌, ◌%◌, ◌^◌, ap, ◌∙◌}
use lib.Bits.{bit_and, and_mask}
use Rattle.std.proofs.lemmas.Nat.{one_shl}
use Rattle.pairs.proofs.Pair.split.Goals as goal

pub returns : goal.returns
returns g c =
    let code = c.args.code in
    let w = c.args.cut.width in
    record {
      sound = c.requires.sound;
      first = ap (λ (k : ℕ). code / 2 ^ k) c.requires.width;
      second = ap (λ (x : ℕ). bit_and code (x - 1)) (one_shl w 64 c.args.cut.inside) ∙ (and_mask code w ∙ ap (λ (k : ℕ). code % 2 ^ k) c.requires.width);
    }
