use Rattle.std.proofs.Common.{◌≡◌, ℕ, List, take, ap, ◌∙◌, ap₂, arith}
use Rattle.std.proofs.lemmas.List.FromFn.{length-map-range_with_len}
use Rattle.std.proofs.lemmas.List.{take_at}
use Rattle.tables.specs.declared.entry.Entry.{Entry}
use Rattle.tables.specs.Form.{entries_asked}
use Rattle.jobs.specs.Image.{types_in, terms_in}
use Rattle.jobs.proofs.Outlines.{form_is}
use Rattle.jobs.proofs.reader.examine.Goals as goal

pub returns : goal.returns
returns g c =
    let m = g.S.Scheme.meaning c.args.scheme.now in
    let bs : List ℕ = c.args.image.now in
    let t : ℕ = c.args.counts.types in
    let n : ℕ = c.args.counts.terms in
    let T : List Entry = c.decode.new.types in
    let M : List Entry = c.decode.new.terms in
    let at-t : take t T ≡ types_in bs t n = ap (take t) c.decode.ensures.types ∙ take_at (types_in bs t n) _ t (length-map-range_with_len _ 0 t) in
    let at_n : take n M ≡ terms_in bs t n = ap (take n) c.decode.ensures.terms ∙ take_at (terms_in bs t n) _ n (length-map-range_with_len _ 0 n) in
    c.form.ensures
    ∙ (form_is m bs t n T M c.requires (omega arith) (omega arith) ∙ ap₂ (λ (x y : List Entry). entries_asked m.role x y) at-t at_n)
