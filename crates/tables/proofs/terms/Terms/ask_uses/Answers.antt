use Rattle.std.proofs.Common.{◌≡◌, ℕ, ◌+◌, ◌-◌, ◌<◌, ◌≤◌, eqb, List, length, get_or, take, sym, ap, ◌∙◌, arith}
use Rattle.std.proofs.lemmas.List.{get_or-take, length-take-le}
use Rattle.std.proofs.lemmas.Result.{err_from_is_err_and}
use Rattle.tables.specs.declared.entry.Entry.{Entry}
use Rattle.tables.specs.declared.fault.FormFault.TheVariants.{Named}
use Rattle.tables.specs.Asking.{asks}
use Rattle.tables.specs.Form.{ask_use}
use Rattle.tables.specs.Uses.{uses}
use Rattle.tables.proofs.Asked.{each_ok, each_err}
use Rattle.tables.proofs.terms.Terms.ask_uses.Goals as goal

-- the count that is told, one of the first n, is the count that is meant
asked : (terms : List Entry) (us : List ℕ) (t n i : ℕ) → ((k : ℕ) → get_or us k 0 ≡ uses terms k) → i < n → asks (eqb (get_or (take n us) i 0) 1) (Named (t + i) (get_or (take n us) i 0)) ≡ ask_use t terms i
asked terms us t n i e h =
    ap (λ x. asks (eqb x 1) (Named (t + i) x)) (get_or-take n us i 0 h ∙ e i)

-- as long as there are counts, there are terms but for the last
within : (us : List ℕ) (n i : ℕ) → n ≤ length us → i < length (take n us) → i < n
within us n i h l = omega (arith, length-take-le n us h)

pub returns-in_err-ask : goal.returns-in_err-ask
returns-in_err-ask c =
    let terms : List Entry = c.args.self.now.entries.now in
    let h : c.loop-i.i < length terms - 1 = within c.uses-uses.result _ _ (omega arith) c.loop-i-test.true in
    let p = err_from_is_err_and c.from_residual.result c.from_residual.ensures.1 in
    let q = asked terms _ c.args.self.now.t _ _ c.uses-uses.ensures h in
    rw (p.1, p.2)
    (sym (each_err (ask_use c.args.self.now.t terms) _ _ _ h (c.in_err-ask.ensures ∙ q)) ∙ c.loop-i.invariant)

pub loop-i-preserved : goal.loop-i-preserved
loop-i-preserved c =
    let terms : List Entry = c.args.self.now.entries.now in
    let h : c.loop-i.i < length terms - 1 = within c.uses-uses.result _ _ (omega arith) c.loop-i-test.true in
    let q = asked terms _ c.args.self.now.t _ _ c.uses-uses.ensures h in
    sym (each_ok (ask_use c.args.self.now.t terms) _ _ _ h (c.in_ok-ask.ensures ∙ q)) ∙ c.loop-i.invariant
