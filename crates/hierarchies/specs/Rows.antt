-- Codes that hold the rows of their bits, and rows that are joined. Assumes nothing.
use Rattle.std.specs.Prelude.{◌≡◌, ℕ, zero, suc, ◌+◌, ◌^◌, ◌<◌, ◌≤◌, Bool, true, false, cond, not, ◌⊎◌, List, ◌∷◌, drop, slice_index, ◌≢◌, refl}
use Rattle.std.proofs.Common.{sym, ap, subst, ◌∙◌, inl, inr, arith, le_trans, add-one, add-zero, pow_pos, get_or-drop}
use Rattle.std.specs.Int.Bits.{bit_or}
use Rattle.std.proofs.lemmas.Nat.{or_lt}
use Rattle.std.proofs.lemmas.List.{drop-drop}
use Rattle.std.proofs.lemmas.Bool.{cond-true, cond-false, or_cases, or_left, or_right, not-true, not_from_false, eqb-true, eqb-false, eq-eqb, ne_eqb, cases_eq, cases_lt}
use Rattle.codes.specs.Bits.{bit, holds_bit, superset}
use Rattle.codes.proofs.Digits.{bit-or, bit_cases, zero_bit}
use Rattle.hierarchies.specs.Kind.{row, keeps_row, closed, joined_rows}
use Rattle.hierarchies.specs.Every.{every_at, every_by}

-- ---- a closed code

pub row_held : (n : ℕ) (rows : List ℕ) (c : ℕ) → closed n rows c ≡ true → (j : ℕ) → j < n → bit j c ≡ 1 → superset c (row rows j) ≡ true
row_held n rows c e j l h = pick (or_cases _ _ (every_at n (keeps_row rows c) e j l))
  where
    pick : (not (holds_bit c j) ≡ true) ⊎ (superset c (row rows j) ≡ true) → superset c (row rows j) ≡ true
    pick (inl f) = absurd (eqb-false (bit j c) 1 (not-true _ f) h)
    pick (inr f) = f

pub closed_by : (n : ℕ) (rows : List ℕ) (c : ℕ) → ((j : ℕ) → j < n → bit j c ≡ 1 → superset c (row rows j) ≡ true) → closed n rows c ≡ true
closed_by n rows c h = every_by n (keeps_row rows c) (λ j l. pick j l (cases_eq (bit j c) 1))
  where
    pick : (j : ℕ) → j < n → (bit j c ≡ 1) ⊎ (bit j c ≢ 1) → keeps_row rows c j ≡ true
    pick j l (inl e) = or_right _ _ (h j l e)
    pick j l (inr e) = or_left _ _ (not_from_false _ (ne_eqb (bit j c) 1 e))

-- ---- rows that are joined

-- a bit of the joined rows comes from the row of a bit of the code
pub record From (rows : List ℕ) (c n k : ℕ) : Type 0 where
  pub j : ℕ
  pub within : j < n
  pub held : bit j c ≡ 1
  pub has : bit k (row rows j) ≡ 1

pub joined_from : (rows : List ℕ) (c n k : ℕ) → bit k (joined_rows rows c n) ≡ 1 → From rows c n k
joined_from rows c zero k e = absurd (omega (arith, zero_bit k))
joined_from rows c (suc n) k e = go (holds_bit c n) refl e (joined_from rows c n k)
  where
    more : From rows c n k → From rows c (suc n) k
    more f = record { j = f.j; within = let w = f.within in omega arith; held = f.held; has = f.has }

    either : holds_bit c n ≡ true → bit k (bit_or (joined_rows rows c n) (row rows n)) ≡ 1 → (bit k (joined_rows rows c n) ≡ 1 → From rows c n k) → (bit k (row rows n) ≡ 1) ⊎ (bit k (row rows n) ≡ 0) → From rows c (suc n) k
    either o h ih (inl x) = record { j = n; within = omega arith; held = eqb-true _ _ o; has = x }
    either o h ih (inr x) = more (ih (omega (arith, bit-or k (joined_rows rows c n) (row rows n))))

    go : (t : Bool) → holds_bit c n ≡ t → bit k (cond t (bit_or (joined_rows rows c n) (row rows n)) (joined_rows rows c n)) ≡ 1 → (bit k (joined_rows rows c n) ≡ 1 → From rows c n k) → From rows c (suc n) k
    go false o h ih = more (ih h)
    go true o h ih = either o h ih (bit_cases k (row rows n))

-- and the row of each bit of the code is joined
pub joined_has : (rows : List ℕ) (c n j k : ℕ) → j < n → bit j c ≡ 1 → bit k (row rows j) ≤ bit k (joined_rows rows c n)
joined_has rows c zero j k l p = absurd (omega arith)
joined_has rows c (suc n) j k l p = pick (cases_lt j n) (joined_has rows c n j k)
  where
    up : (t : Bool) → bit k (joined_rows rows c n) ≤ bit k (cond t (bit_or (joined_rows rows c n) (row rows n)) (joined_rows rows c n))
    up true = omega (arith, bit-or k (joined_rows rows c n) (row rows n))
    up false = omega arith

    pick : (j < n) ⊎ (n ≤ j) → (j < n → bit j c ≡ 1 → bit k (row rows j) ≤ bit k (joined_rows rows c n)) → bit k (row rows j) ≤ bit k (joined_rows rows c (suc n))
    pick (inl h) ih = let x = ih h p in let y = up (holds_bit c n) in le_trans x y
    pick (inr h) ih =
        let same : j ≡ n = omega arith in
        let o : holds_bit c n ≡ true = subst (λ (i : ℕ). holds_bit c i ≡ true) same (eq-eqb _ _ p) in
        subst (λ (i : ℕ). bit k (row rows i) ≤ bit k (joined_rows rows c (suc n))) (sym same) (rw o (omega (arith, bit-or k (joined_rows rows c n) (row rows n))))

pub joined_lt : (rows : List ℕ) (c n w : ℕ) → ((j : ℕ) → j < n → row rows j < 2 ^ w) → joined_rows rows c n < 2 ^ w
joined_lt rows c zero w h = pow_pos w
joined_lt rows c (suc n) w h = go (holds_bit c n) (joined_lt rows c n w (λ j l. h j (omega arith)))
  where
    go : (t : Bool) → joined_rows rows c n < 2 ^ w → cond t (bit_or (joined_rows rows c n) (row rows n)) (joined_rows rows c n) < 2 ^ w
    go true ih = or_lt w _ _ ih (h n (omega arith))
    go false ih = ih

-- one row more, as a loop goes
pub joined_more : (rows : List ℕ) (c i : ℕ) → joined_rows rows c (i + 1) ≡ cond (holds_bit c i) (bit_or (joined_rows rows c i) (row rows i)) (joined_rows rows c i)
joined_more rows c i = ap (joined_rows rows c) (add-one i)

pub joined_then : (rows : List ℕ) (c i x y : ℕ) → x ≡ joined_rows rows c i → holds_bit c i ≡ true → y ≡ bit_or x (row rows i) → y ≡ joined_rows rows c (i + 1)
joined_then rows c i x y e o f = f ∙ ap (λ (z : ℕ). bit_or z (row rows i)) e ∙ sym (joined_more rows c i ∙ cond-true (holds_bit c i) _ _ o)

pub joined_else : (rows : List ℕ) (c i x y : ℕ) → x ≡ joined_rows rows c i → holds_bit c i ≡ false → y ≡ x → y ≡ joined_rows rows c (i + 1)
joined_else rows c i x y e o f = f ∙ e ∙ sym (joined_more rows c i ∙ cond-false (holds_bit c i) _ _ o)

-- the first of the rows from i on is row i, and those after it are the rows from i + 1 on
pub row_and_rest : (rows rest : List ℕ) (x i : ℕ) → x ∷ rest ≡ drop i rows → (x ≡ row rows i) × (rest ≡ drop (i + 1) rows)
row_and_rest rows rest x i e = (ap (λ l. slice_index l 0) e ∙ (get_or-drop i rows 0 0 ∙ ap (slice_index rows) (add-zero i)), ap (drop 1) e ∙ drop-drop 1 i rows)
