-- The laws over two advances, from what the contract of `advance` says of its parts. Assumes nothing.
use Rattle.std.proofs.Common.{◌≡◌, ℕ, suc, ◌+◌, ◌-◌, ◌≤◌, true, Option, refl, sym, ap, ◌∙◌, subst, arith}
use Rattle.machine.specs.declared.condition.Condition.{Condition}
use Rattle.runs.specs.declared.fault.RunFault.{RunFault}
use Rattle.runs.specs.declared.run.Run.{Run}
use Rattle.runs.specs.Run.{gone, run_after, terms_after}
use Rattle.runs.specs.Usable.{usable}
use Rattle.runs.specs.Parts.{told_by, retold}
use Rattle.runs.proofs.Joining.{answered_yes, usable_after, told_more, in_parts}
use Rattle.run_laws.specs.Laws.{left_run, left_terms, AdvancesAdd, StaysUsable}

-- with budget left every condition is told as it is
told_as_it_is : (k : ℕ) (c : Condition) → 1 ≤ k → told_by k c ≡ c
told_as_it_is k c h =
    let e : suc (k - 1) ≡ k = omega arith in
    subst (λ (n : ℕ). told_by n c ≡ c) e (told_more (k - 1) c)

retold_as_it_is : (k : ℕ) (x : Run) → 1 ≤ k → retold k x ≡ x
retold_as_it_is k x h = ap (λ (c : Condition). record { role = x.role; steps = x.steps; used = x.used; current = x.current; condition = c }) (told_as_it_is k x.condition h)

pub advances_add_lem : AdvancesAdd
advances_add_lem m x es j k h =
    let y : Run = left_run m x es (j + k) in
    let P = in_parts m x y es (left_terms m x es (j + k)) (j + k) refl refl h j k refl in
    record {
      first = P.first;
      terms = P.terms;
      place = record { steps = ap (λ (z : Run). z.steps) P.run; used = ap (λ (z : Run). z.used) P.run; current = ap (λ (z : Run). z.current) P.run };
      run = λ l. P.run ∙ retold_as_it_is k y l;
    }

pub stays_usable_lem : StaysUsable
stays_usable_lem m x es k h =
    subst (λ (o : Option RunFault). usable m.role (terms_after o es (gone m x es k)) (run_after o x (gone m x es k)).used (run_after o x (gone m x es k)).current ≡ true) (sym h) (usable_after m x es k (answered_yes m x es k h))
