use Rattle.std.proofs.Common.{Err, refl, ap, ◌∙◌}
use Rattle.std.proofs.lemmas.Result.{err_from_is_err_and}
use Rattle.runs.specs.Run.{gone, refusal}
use Rattle.runs.proofs.Joining.{in_parts}
use Rattle.runs.proofs.Meaning.{ran, meant_err}
use Rattle.runs.proofs.Settling.{refused_so, went_so}
use Rattle.runs.proofs.run.Run.advance.Goals as goal

pub returns-in_err-ask : goal.returns-in_err-ask
returns-in_err-ask g c =
    let m = g.S.Scheme.meaning c.args.scheme.now in
    let x = c.args.self.now in
    let es = c.args.terms.now in
    let p = err_from_is_err_and c.from_residual.result c.from_residual.ensures.1 in
    let q = refused_so (refusal m x es c.args.budget) c.in_err-ask.field-0.0 x es (gone m x es c.args.budget) c.in_err-ask.ensures.asked in
    record {
      answer = p.1 ∙ (ap Err p.2 ∙ q.0);
      run = q.1;
      table = q.2;
      meaning = meant_err m x es c.args.budget c.from_residual.result c.in_err-ask.field-0.0 (p.1 ∙ ap Err p.2);
      parts = in_parts m x x es es c.args.budget q.1 q.2;
    }

pub returns : goal.returns
returns g c =
    let m = g.S.Scheme.meaning c.args.scheme.now in
    let x = c.args.self.now in
    let es = c.args.terms.now in
    let q = went_so m c.args.budget x c.go-made.new.self es c.go-made.new.terms c.go-made.result c.go-made.ensures (refusal m x es c.args.budget) c.in_ok-ask.field-0 c.in_ok-ask.ensures.asked in
    record {
      answer = q.0;
      run = q.1;
      table = q.2;
      meaning = ran m c.args.budget x c.go-made.new.self es c.go-made.new.terms c.ask.new.reach c.go-made.result (c.in_ok-ask.ensures.live refl) c.go-made.ensures;
      parts = in_parts m x c.go-made.new.self es c.go-made.new.terms c.args.budget q.1 q.2;
    }
