-- Terms whose operands are as their tags ask name lower terms.
use Rattle.std.proofs.Common.{◌≡◌, ℕ, ◌+◌, Bool, true, List, length, Ok, sym, zero-add, arith}
use Rattle.std.proofs.lemmas.Bool.Decides.{nat_tests}
use Rattle.tables.specs.declared.entry.Entry.{Entry}
use Rattle.tables.specs.declared.fault.FormFault.TheVariants.{Tag, Operands, Role}
use Rattle.tables.specs.Asking.{asks, and_then, of_each}
use Rattle.tables.specs.Entries.{at, type_tag, type_operands, term_tag, term_operands, role_fits}
use Rattle.tables.specs.Form.{entry_asked, type_asked, term_asked, ask_term}
use Rattle.tables.specs.Lower.{Lower, Rooted}
use Rattle.tables.proofs.Asked.{and_first, and_second, asks_yes, each_yes}

-- tag, operands and role code of an entry that answered with yes
entry_yes : (role : ℕ → Bool) (e : Entry) (p : ℕ) (tagged fits : Bool) → entry_asked role e p tagged fits ≡ Ok tt → (tagged ≡ true) × (fits ≡ true) × (role_fits role e ≡ true)
entry_yes role e p tagged fits h =
    let a = asks tagged (Tag p e.tag) in
    let b = asks fits (Operands p) in
    let c = asks (role_fits role e) (Role p e.third) in
    let bc = and_second a (and_then b c) h in
    (asks_yes _ _ (and_first a (and_then b c) h), asks_yes _ _ (and_first b c bc), asks_yes _ _ (and_second b c bc))

pub term_yes : (role : ℕ → Bool) (e : Entry) (i t p : ℕ) → term_asked role e i t p ≡ Ok tt → (term_tag e.tag ≡ true) × (term_operands e i t ≡ true) × (role_fits role e ≡ true)
term_yes role e i t p h = entry_yes role e p (term_tag e.tag) (term_operands e i t) h

pub type_yes : (role : ℕ → Bool) (e : Entry) (i : ℕ) → type_asked role e i ≡ Ok tt → (type_tag e.tag ≡ true) × (type_operands e i ≡ true) × (role_fits role e ≡ true)
type_yes role e i h = entry_yes role e i (type_tag e.tag) (type_operands e i) h

pub operands_lower : (e : Entry) (i t : ℕ) → term_operands e i t ≡ true → Lower e i
operands_lower e i t h = record { first = λ l. grind (arith, nat_tests); second = λ l. grind (arith, nat_tests) }

pub rooted : (role : ℕ → Bool) (t : ℕ) (terms : List Entry) → of_each (ask_term role t terms) (length terms) 0 ≡ Ok tt → Rooted terms
rooted role t terms h i l =
    let e = sym (zero-add i) in
    let y = each_yes (ask_term role t terms) (length terms) 0 h i l in
    operands_lower (at terms i) i t (term_yes role (at terms i) i t (t + i) (rw (zero-add i) at y)).1
