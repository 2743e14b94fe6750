use Rattle.std.proofs.Common.{◌≡◌, take, refl, ap, ◌∙◌}
use Rattle.codes.specs.Bytes.{bytes_of}
use Rattle.station.specs.Verdicts.{bound_told, place_told}
use Rattle.station.proofs.verdict.Verdict.bytes.Goals as goal

pub returns : goal.returns
returns c =
    let e1 : c.copy_from_slice.new.self ≡ take 2 (bytes_of 4 (place_told c.args.self.now.sufficient)) = c.copy_from_slice.ensures.after ∙ ap (take 2) (c.bytes32.ensures ∙ ap (bytes_of 4) c.place.ensures) in
    let e2 : c.copy_from_slice-2.new.self ≡ take 2 (bytes_of 4 (place_told c.args.self.now.necessary)) = c.copy_from_slice-2.ensures.after ∙ ap (take 2) (c.bytes32-2.ensures ∙ ap (bytes_of 4) c.place-2.ensures) in
    let e3 : c.copy_from_slice-3.new.self ≡ bytes_of 8 (bound_told c.args.self.now.sufficient) = c.copy_from_slice-3.ensures.after ∙ (c.bytes64.ensures ∙ ap (bytes_of 8) c.bound.ensures) in
    let e4 : c.copy_from_slice-4.new.self ≡ bytes_of 8 (bound_told c.args.self.now.necessary) = c.copy_from_slice-4.ensures.after ∙ (c.bytes64-2.ensures ∙ ap (bytes_of 8) c.bound-2.ensures) in
    rw (c.number.ensures, c.number-2.ensures, e1, e2, e3, e4) refl
