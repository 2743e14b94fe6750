-- Raising by a role leaves exactly the remainder to need. Assumes nothing.
use Rattle.std.proofs.Common.{[]}
use Rattle.calculus.specs.Inference.{infer}
use Rattle.calculus.specs.Theorems.{RaisingNeedsRemainder}
use Rattle.calculus.proofs.Laws.{remainder_there, exactly}
use Rattle.calculus.proofs.Sound.{infer_sound}
use Rattle.calculus.proofs.Inversion.{bound_role}

pub raising_needs_remainder_lem : RaisingNeedsRemainder
unfolding infer
raising_needs_remainder_lem m L α e a b t h w =
    let c = remainder_there L b a (bound_role L (L.role_sound a w) (infer_sound L α [] e h)) w in
    (c.0, c.1, rw (h, c.1), λ x j i. exactly L c.1 i)
