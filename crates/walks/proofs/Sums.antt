-- What a walk takes, entry by entry.
use Rattle.std.proofs.Common.{◌≡◌, ℕ, zero, suc, ◌+◌, ◌-◌, ◌<◌, ◌≤◌, Bool, List, get_or, refl, ap, ◌∙◌, ap₂, arith}
use Rattle.tables.specs.declared.entry.Entry.{Entry}
use Rattle.tables.specs.Entries.{at, names, operand_of}
use Rattle.tables.specs.Ladder.{ladder, rung}
use Rattle.tables.proofs.Ladders.{get_or_ladder}
use Rattle.walks.specs.Places.{Rooted}

-- what n operands of e from the s-th on take, if operand j takes p + c j
abbrev pub sum_rest : ℕ → Entry → (ℕ → ℕ) → ℕ → ℕ → ℕ
sum_rest p e c zero s = 0
sum_rest p e c (suc n) s = (p + c (operand_of e s)) + sum_rest p e c n (s + 1)

abbrev pub sum_step : ℕ → List Entry → ℕ → List ℕ → ℕ
sum_step p es k cs = 1 + sum_rest p (at es k) (λ i. get_or cs i 0) (names (at es k).tag) 0

unfoldable pub sum_of : ℕ → List Entry → ℕ → ℕ
sum_of p es k = rung (sum_step p es) k

-- how many entries the written-out tree of entry k has
abbrev pub size_of : List Entry → ℕ → ℕ
size_of es k = sum_of 0 es k

sum_same : (p : ℕ) (e : Entry) (w v : ℕ → ℕ) (b : ℕ) → ((i : ℕ) → i < b → w i ≡ v i) → (n s : ℕ) → ((i : ℕ) → s ≤ i → i < s + n → operand_of e i < b) → sum_rest p e w n s ≡ sum_rest p e v n s
sum_same p e w v b same zero s low = refl
sum_same p e w v b same (suc n) s low =
    ap₂ (λ x y. (p + x) + y) (same (operand_of e s) (low s (omega arith) (omega arith))) (sum_same p e w v b same n (s + 1) (λ i a c. low i (omega arith) (omega arith)))

pub sum_is : (role : ℕ → Bool) (t : ℕ) (es : List Entry) (p n k : ℕ) → Rooted role t es n → k < n → sum_of p es k ≡ 1 + sum_rest p (at es k) (sum_of p es) (names (at es k).tag - 0) 0
unfolding sum_of
sum_is role t es p n k g h =
    let z : names (at es k).tag ≡ names (at es k).tag - 0 = omega arith in
    ap (λ c. 1 + c)
    (sum_same p (at es k) (λ i. get_or (ladder (sum_step p es) k) i 0) (sum_of p es) k (λ i l. get_or_ladder (sum_step p es) k i 0 l) (names (at es k).tag) 0 (λ i a b. (g k h).low i (omega arith))
    ∙ ap (λ n. sum_rest p (at es k) (sum_of p es) n 0) z)
