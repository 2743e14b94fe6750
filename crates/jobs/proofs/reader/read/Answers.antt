use Rattle.std.proofs.Common.{ℕ, List, length, Ok, sym, ap, ◌∙◌, arith}
use Rattle.roles.specs.Meaning.{Meaning}
use Rattle.std.proofs.lemmas.Result.{err_from_is_err_and}
use Rattle.tables.specs.declared.entry.Entry.{Entry}
use Rattle.tables.specs.Asking.{told}
use Rattle.jobs.specs.Asking.{left}
use Rattle.jobs.specs.Image.{types_told, terms_told, types_in, terms_in}
use Rattle.jobs.specs.Reading.{counts_told, filled}
use Rattle.jobs.proofs.Asked.{told_value}
use Rattle.jobs.proofs.ReadSteps.{no_outline, shape, space, no_entries, accepted, types_filled, terms_filled, refused}
use Rattle.jobs.proofs.reader.read.Goals as goal

pub examine-requires : goal.examine-requires
examine-requires g c = shape _ c.args.image.now _ _ c.in_ok-counts.counts c.in_ok-counts.ensures

pub decode-requires : goal.decode-requires
decode-requires g c =
    let m : Meaning = g.S.Scheme.meaning c.args.scheme.now in
    let o = shape m c.args.image.now _ _ c.in_ok-counts.counts c.in_ok-counts.ensures in
    let r = space m c.args.image.now _ _ c.in_ok-counts.counts c.in_ok-counts.ensures in
    record { long = o.long; types = omega (arith, r.types); terms = r.terms }

pub returns-in_err-counts : goal.returns-in_err-counts
returns-in_err-counts g c =
    let m : Meaning = g.S.Scheme.meaning c.args.scheme.now in
    let bs : List ℕ = c.args.image.now in
    let T : List Entry = c.args.types.now in
    let M : List Entry = c.args.terms.now in
    let p = err_from_is_err_and c.from_residual.result c.from_residual.ensures.1 in
    let r = refused m bs T M _ _ _ p.1 p.2 (no_outline m bs (length T) (length M) _ c.in_err-counts.ensures) in
    record { answer = r.answer; types = r.types; terms = r.terms }

pub returns-in_err-examine : goal.returns-in_err-examine
returns-in_err-examine g c =
    let m : Meaning = g.S.Scheme.meaning c.args.scheme.now in
    let bs : List ℕ = c.args.image.now in
    let T : List Entry = c.args.types.now in
    let M : List Entry = c.args.terms.now in
    let p = err_from_is_err_and c.from_residual-in_err-examine.result c.from_residual-in_err-examine.ensures.1 in
    let r = refused m bs T M _ _ _ p.1 p.2 (no_entries m bs (length T) (length M) c.in_ok-counts.counts c.in_ok-counts.ensures _ c.in_err-examine.ensures) in
    record { answer = r.answer; types = r.types; terms = r.terms }

pub returns : goal.returns
returns g c =
    let m : Meaning = g.S.Scheme.meaning c.args.scheme.now in
    let bs : List ℕ = c.args.image.now in
    let T : List Entry = c.args.types.now in
    let M : List Entry = c.args.terms.now in
    let k = c.in_ok-counts.counts in
    let yes = accepted m bs (length T) (length M) k c.in_ok-counts.ensures _ c.in_ok-examine.ensures in
    record {
      answer = ap Ok (told_value _ (counts_told bs) k c.in_ok-counts.ensures) ∙ sym (ap (λ z. told z (counts_told bs)) yes);
      types = c.decode.ensures.types ∙ (types_filled m bs (length T) (length M) k c.in_ok-counts.ensures T ∙ sym (ap (λ z. left z (filled (types_in bs (types_told bs) (terms_told bs)) T) T) yes));
      terms = c.decode.ensures.terms ∙ (terms_filled m bs (length T) (length M) k c.in_ok-counts.ensures M ∙ sym (ap (λ z. left z (filled (terms_in bs (types_told bs) (terms_told bs)) M) M) yes));
    }
