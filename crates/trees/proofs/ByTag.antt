-- Cases by the tag of an entry.
use Rattle.std.proofs.Common.{◌≡◌, ℕ, ◌≤◌, true, leb, sym, subst, ⊎_elim, arith}
use Rattle.std.proofs.lemmas.Bool.{and_parts, leb-true, cases_eq}
use Rattle.tables.specs.declared.entry.Entry.{Entry}
use Rattle.tables.specs.Entries.{type_tag, term_tag}

-- the entry of a tag and three operands
abbrev pub made : ℕ → ℕ → ℕ → ℕ → Entry
made k f s c = record { tag = k; first = f; second = s; third = c }

-- a property of every entry of a tag
abbrev pub At : (Entry → Type 0) → ℕ → Type 0
At P k = (f s c : ℕ) → P (made k f s c)

-- it holds of an entry with that tag
pub retag : (P : Entry → Type 0) (e : Entry) (k : ℕ) → At P k → e.tag ≡ k → P e
retag P e k p q = subst (λ (z : ℕ). P (made z e.first e.second e.third)) (sym q) (p e.first e.second e.third)

pub by_type_tag : (P : Entry → Type 0) → At P 1 → At P 2 → At P 3 → At P 4 → (e : Entry) → type_tag e.tag ≡ true → P e
by_type_tag P p1 p2 p3 p4 e t =
    let b = and_parts (leb 1 e.tag) (leb e.tag 4) t in
    let low : 1 ≤ e.tag = leb-true 1 e.tag b.0 in
    let high : e.tag ≤ 4 = leb-true e.tag 4 b.1 in
    ⊎_elim (retag P e 1 p1) (λ n1.
    ⊎_elim (retag P e 2 p2) (λ n2.
    ⊎_elim (retag P e 3 p3) (λ n3.
    retag P e 4 p4 (omega arith)) (cases_eq e.tag 3)) (cases_eq e.tag 2)) (cases_eq e.tag 1)

pub by_term_tag : (P : Entry → Type 0) → At P 16 → At P 17 → At P 18 → At P 19 → At P 20 → At P 21 → At P 22 → At P 23 → At P 24 → At P 25 → At P 26 → (e : Entry) → term_tag e.tag ≡ true → P e
by_term_tag P p16 p17 p18 p19 p20 p21 p22 p23 p24 p25 p26 e t =
    let b = and_parts (leb 16 e.tag) (leb e.tag 26) t in
    let low : 16 ≤ e.tag = leb-true 16 e.tag b.0 in
    let high : e.tag ≤ 26 = leb-true e.tag 26 b.1 in
    ⊎_elim (retag P e 16 p16) (λ n16.
    ⊎_elim (retag P e 17 p17) (λ n17.
    ⊎_elim (retag P e 18 p18) (λ n18.
    ⊎_elim (retag P e 19 p19) (λ n19.
    ⊎_elim (retag P e 20 p20) (λ n20.
    ⊎_elim (retag P e 21 p21) (λ n21.
    ⊎_elim (retag P e 22 p22) (λ n22.
    ⊎_elim (retag P e 23 p23) (λ n23.
    ⊎_elim (retag P e 24 p24) (λ n24.
    ⊎_elim (retag P e 25 p25) (λ n25.
    retag P e 26 p26 (omega arith))
    (cases_eq e.tag 25)) (cases_eq e.tag 24)) (cases_eq e.tag 23)) (cases_eq e.tag 22)) (cases_eq e.tag 21))
    (cases_eq e.tag 20)) (cases_eq e.tag 19)) (cases_eq e.tag 18)) (cases_eq e.tag 17)) (cases_eq e.tag 16)
