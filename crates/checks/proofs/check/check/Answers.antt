use Rattle.std.proofs.Common.{ℕ, take, sym, subst}
use native.Mathlib.Nat.{sub-zero}
use Rattle.walks.specs.Places.{Walkable}
use Rattle.walks.proofs.Accepting.{walkable}
use Rattle.checks.proofs.check.check.Goals as goal

pub walk-requires : goal.walk-requires
walk-requires g c =
    subst (λ (n : ℕ). Walkable (g.S.Scheme.meaning c.args.scheme.now) c.args.counts.types c.args.types.now (take n c.args.terms.now)) (sym (sub-zero c.args.counts.terms))
    (walkable (g.S.Scheme.meaning c.args.scheme.now) c.args.counts.types c.args.counts.terms c.args.types.now c.args.terms.now (sym c.in_ok-form.ensures))
