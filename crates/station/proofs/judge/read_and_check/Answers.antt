use Rattle.std.proofs.Common.{◌≡◌, replicate, ap, ◌∙◌, ap₂}
use Rattle.roles.specs.Meaning.{Meaning}
use Rattle.jobs.specs.Reading.{types_left, terms_left}
use Rattle.station.specs.Verdicts.{checked_both, types_blank, terms_blank, after_reading}
use Rattle.station.proofs.Senses.{blank_entry}
use Rattle.station.proofs.judge.read_and_check.Goals as goal

pub returns-in-Ok : goal.returns-in-Ok
returns-in-Ok g c =
    let m : Meaning = g.S.Scheme.meaning c.args.scheme.now in
    let T : replicate 1536 c.default-types.result ≡ types_blank = ap (replicate 1536) (blank_entry c.default-types.result c.default-types.ensures) in
    let M : replicate 1024 c.default-terms.result ≡ terms_blank = ap (replicate 1024) (blank_entry c.default-terms.result c.default-terms.ensures) in
    c.check_both.ensures
    ∙ (ap₂ (checked_both m c.in-Ok.counts.types c.in-Ok.counts.terms) (c.in-Ok.ensures.types ∙ ap₂ (types_left m c.args.image.now) T M) (c.in-Ok.ensures.terms ∙ ap₂ (terms_left m c.args.image.now) T M)
    ∙ ap (after_reading m c.args.image.now) c.in-Ok.ensures.answer)
