use Rattle.std.proofs.Common.{◌≡◌, ◌∙◌, subst}
use Rattle.blocks.specs.Format.{Parsed}
use Rattle.blocks.specs.Kinds.{scheme_of}
use Rattle.station.specs.Sense.{ImageMeans}
use Rattle.station.proofs.judge.verdict.Goals as goal

pub returns-in-Ok-clause-sense : goal.returns-in-Ok-clause-sense
returns-in-Ok-clause-sense c p h =
    let q : Parsed = record { block = c.in-Ok.block; rest = c.in-Ok.image.now } in
    let e : q ≡ p = let both = c.in-Ok.ensures ∙ h in cc in
    subst (λ (x : Parsed). ImageMeans (scheme_of x.block) x.rest c.judge_image.result) e c.judge_image.ensures.sense
