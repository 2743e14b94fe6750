use Rattle.std.proofs.Common.{◌≡◌, ℕ, ◌+◌, ◌<◌, ◌≤◌, Bool, leb, List, length, get_or, take, set, Ok, sym, ap, ◌∙◌, arith, below_more}
use Rattle.std.proofs.lemmas.List.{length-set, get_or-set_same, get_or-set_other}
use Rattle.std.proofs.lemmas.Result.{err_from_is_err_and}
use Rattle.std.proofs.lemmas.Bool.{leb-true}
use Rattle.tables.specs.declared.entry.Entry.{Entry}
use Rattle.tables.specs.declared.fault.FormFault.TheVariants.{Size}
use Rattle.tables.specs.Asking.{asks}
use Rattle.tables.specs.Entries.{at}
use Rattle.tables.specs.Form.{type_asked, ask_type}
use Rattle.tables.specs.Sizes.{size_by, sizes, size}
use Rattle.tables.proofs.Asked.{each_ok, each_err, and_ok, and_err, asks_yes}
use Rattle.tables.proofs.Rooting.{type_yes}
use Rattle.tables.proofs.Sized.{size_is, sizes_more}
use Rattle.tables.proofs.size.ask_types.Goals as goal

-- the size that is told is the size that is meant
told : (role : ℕ → Bool) (T : List Entry) (xs : List ℕ) (i v : ℕ) → v ≡ size_by (at T i) xs → Ok tt ≡ type_asked role (at T i) i → take i xs ≡ sizes T i → v ≡ size T i
told role T xs i v e y s = e ∙ size_is T xs i (type_yes role (at T i) i (sym y)).1 s

-- so what was asked of it is what is left to ask of type i
asked : (role : ℕ → Bool) (T : List Entry) (xs : List ℕ) (i v : ℕ) → v ≡ size_by (at T i) xs → Ok tt ≡ type_asked role (at T i) i → take i xs ≡ sizes T i → asks (leb v 4096) (Size i v) ≡ ask_type role T i
asked role T xs i v e y s =
    ap (λ x. asks (leb x 4096) (Size i x)) (told role T xs i v e y s) ∙ sym (and_ok _ _ _ y)

-- a list of small numbers with one small number more
small : (xs : List ℕ) (i v : ℕ) → i < length xs → v ≤ 4096 → ((k : ℕ) → k < i → get_or xs k 0 ≤ 4096) → (k : ℕ) → k < i + 1 → get_or (set xs i v) k 0 ≤ 4096
small xs i v l h b =
    below_more _ _ (λ k q. rw (get_or-set_other xs i k v 0 (λ e. omega arith)) (b k q)) (rw (get_or-set_same xs i v 0 l) h)

pub returns-in_err-ask_type : goal.returns-in_err-ask_type
returns-in_err-ask_type g c =
    let p = err_from_is_err_and c.from_residual.result c.from_residual.ensures.1 in
    rw (p.1, p.2)
    (sym (each_err (ask_type (g.S.Scheme.meaning c.args.scheme.now).role c.args.types.now) _ _ _ c.loop-i-test.true (sym (and_err _ _ _ c.in_err-ask_type.ensures))) ∙ c.loop-i.invariant.3)

pub returns-in_err-ask : goal.returns-in_err-ask
returns-in_err-ask g c =
    let role : ℕ → Bool = (g.S.Scheme.meaning c.args.scheme.now).role in
    let T : List Entry = c.args.types.now in
    let p = err_from_is_err_and c.from_residual-in_err-ask.result c.from_residual-in_err-ask.ensures.1 in
    let q = asked role T c.loop-i.sizes c.loop-i.i _ c.written_out-size.ensures c.in_ok-ask_type.ensures c.loop-i.invariant.1 in
    rw (p.1, p.2) (sym (each_err (ask_type role T) _ _ _ c.loop-i-test.true (c.in_err-ask.ensures ∙ q)) ∙ c.loop-i.invariant.3)

pub loop-i-preserved : goal.loop-i-preserved
loop-i-preserved g c =
    let role : ℕ → Bool = (g.S.Scheme.meaning c.args.scheme.now).role in
    let T : List Entry = c.args.types.now in
    let xs : List ℕ = c.loop-i.sizes in
    let i : ℕ = c.loop-i.i in
    let v : ℕ = c.written_out-size.result in
    let is : v ≡ size T i = told role T xs i v c.written_out-size.ensures c.in_ok-ask_type.ensures c.loop-i.invariant.1 in
    let q = asked role T xs i v c.written_out-size.ensures c.in_ok-ask_type.ensures c.loop-i.invariant.1 in
    let room : i < length xs = omega (arith, c.loop-i.invariant.0) in (
      length-set xs i v ∙ c.loop-i.invariant.0,
      ap (λ x. take (i + 1) (set xs i x)) is ∙ sizes_more T xs i room c.loop-i.invariant.1,
      small xs i v room (leb-true v 4096 (asks_yes (leb v 4096) (Size i v) (sym c.in_ok-ask.ensures))) c.loop-i.invariant.2,
      sym (each_ok (ask_type role T) _ _ _ c.loop-i-test.true (c.in_ok-ask.ensures ∙ q)) ∙ c.loop-i.invariant.3,
    )
