use Rattle.std.proofs.Common.{sym, subst}
use Rattle.station.specs.Sense.{ImageMeans}
use Rattle.station.proofs.Senses.{image_means}
use Rattle.station.proofs.judge.judge_image.Goals as goal

pub returns : goal.returns
returns g c = record {
  exact = c.read_and_check.ensures;
  sense = subst (ImageMeans (g.S.Scheme.meaning c.args.scheme.now) c.args.image.now) (sym c.read_and_check.ensures) (image_means (g.S.Scheme.meaning c.args.scheme.now) (g.met.S.Scheme.lawful c.args.scheme.now) c.args.image.now);
}
