-- Tests that pass together are the same test. Assumes nothing.
use Rattle.std.proofs.Common.{◌≡◌, Bool, true, false, sym, refl}

pub iff : {p q : Bool} → (p ≡ true → q ≡ true) → (q ≡ true → p ≡ true) → p ≡ q
iff {p = true} {q = q} f g = sym (f refl)
iff {p = false} {q = true} f g = g refl
iff {p = false} {q = false} f g = refl
