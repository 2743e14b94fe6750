use Rattle.std.proofs.Common.{◌^◌, ◌<◌, ◌≤◌, sym, ◌∙◌, arith, pow_mono}
use Rattle.std.proofs.lemmas.Bool.{le-leb, lt-ltb}
use Rattle.codes.proofs.bits.fits.Goals as goal

pub returns-then-width-ge64 : goal.returns-then-width-ge64
returns-then-width-ge64 c =
    let wide : 64 ≤ c.args.width = omega arith in
    let below : c.args.code < 2 ^ c.args.width = omega (arith, pow_mono wide) in
    le-leb 64 c.args.width wide ∙ sym (lt-ltb c.args.code (2 ^ c.args.width) below)
