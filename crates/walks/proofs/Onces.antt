-- If each entry below the last is named once, the written-out tree of the last has as many entries as the table.
use Rattle.std.proofs.Common.{◌≡◌, ℕ, zero, suc, ◌+◌, ◌-◌, ◌*◌, ◌<◌, ◌≤◌, Bool, true, false, cond, ◌&&◌, ◌||◌, eqb, ltb, ◌⊎◌, List, length, take, sym, refl, ap, ◌∙◌, ap₂, inl, inr, add-mul, one-mul, zero-mul, add-one, arith}
use Rattle.std.proofs.lemmas.List.{take_all}
use Rattle.std.proofs.lemmas.Bool.{cases_eq, ne_eqb, eq-eqb}
use Rattle.tables.specs.declared.entry.Entry.{Entry}
use Rattle.tables.specs.Entries.{at, names, operand_of}
use Rattle.tables.specs.Uses.{hits, uses}
use Rattle.tables.proofs.Used.{uses-more}
use Rattle.walks.specs.Places.{Rooted}
use Rattle.walks.proofs.Sums.{sum_rest, sum_of, size_of, sum_is}

abbrev sum : (ℕ → ℕ) → ℕ → ℕ
sum f zero = 0
sum f (suc n) = sum f n + f n

sum_same : (f g : ℕ → ℕ) (n : ℕ) → ((i : ℕ) → i < n → f i ≡ g i) → sum f n ≡ sum g n
sum_same f g zero h = refl
sum_same f g (suc n) h = ap₂ (λ a b. a + b) (sum_same f g n (λ i l. h i (omega arith))) (h n (omega arith))

sum_add : (f g : ℕ → ℕ) (n : ℕ) → sum (λ i. f i + g i) n ≡ sum f n + sum g n
sum_add f g zero = refl
sum_add f g (suc n) = let h = sum_add f g n in omega arith

sum_zero : (f : ℕ → ℕ) (n : ℕ) → ((i : ℕ) → i < n → f i ≡ 0) → sum f n ≡ 0
sum_zero f zero h = refl
sum_zero f (suc n) h = let a = sum_zero f n (λ i l. h i (omega arith)) in let b = h n (omega arith) in omega arith

sum_ones : (f : ℕ → ℕ) (n : ℕ) → sum (λ i. 1 + f i) n ≡ n + sum f n
sum_ones f zero = refl
sum_ones f (suc n) = let h = sum_ones f n in omega arith

abbrev one : ℕ → ℕ → ℕ
one x i = cond (eqb i x) 1 0

one_at : (x i s : ℕ) → x ≡ i → one x i * s ≡ s
one_at x i s h = ap (λ b. cond b 1 0 * s) (eq-eqb i x (sym h)) ∙ one-mul s

one_off : (x i s : ℕ) → (x ≡ i → ⊥) → one x i * s ≡ 0
one_off x i s h = ap (λ b. cond b 1 0 * s) (ne_eqb i x (λ e. h (sym e))) ∙ zero-mul s

pick : (s : ℕ → ℕ) (x n : ℕ) → x < n → sum (λ i. one x i * s i) n ≡ s x
pick s x zero h = let z : ⊥ = omega arith in absurd z
pick s x (suc n) h = go (λ l. pick s x n l) (cases_eq x n)
  where
    go : (x < n → sum (λ i. one x i * s i) n ≡ s x) → (x ≡ n) ⊎ (x ≡ n → ⊥) → sum (λ i. one x i * s i) (suc n) ≡ s x
    go ih (inl e) =
        let a = sum_zero (λ i. one x i * s i) n (λ i l. one_off x i (s i) (omega arith)) in
        let b = one_at x n (s n) e in
        let c : s n ≡ s x = ap s (sym e) in
        omega arith
    go ih (inr e) =
        let a = ih (omega arith) in
        let b = one_off x n (s n) e in
        omega arith

-- how many of n operands of e, from the j-th on, are i
abbrev hit_rest : Entry → ℕ → ℕ → ℕ → ℕ
hit_rest e zero j i = 0
hit_rest e (suc n) j i = one (operand_of e j) i + hit_rest e n (j + 1) i

pub names_most : (t : ℕ) → names t ≤ 2
names_most t = go (eqb t 16 || eqb t 17) (eqb t 19 || eqb t 24)
  where
    go : (a b : Bool) → cond a 0 (cond b 2 1) ≤ 2
    go true b = omega arith
    go false true = omega arith
    go false false = omega arith

hits_are : (e : Entry) (i : ℕ) → hits e i ≡ hit_rest e (names e.tag) 0 i
hits_are e i = go (names e.tag) (names_most e.tag)
  where
    go : (n : ℕ) → n ≤ 2 → cond (ltb 0 n && eqb i e.first) 1 0 + cond (ltb 1 n && eqb i e.second) 1 0 ≡ hit_rest e n 0 i
    go zero h = refl
    go (suc zero) h = refl
    go (suc (suc zero)) h = omega arith
    go (suc (suc (suc n))) h = let z : ⊥ = omega arith in absurd z

row : (e : Entry) (s : ℕ → ℕ) (n c j : ℕ) → ((q : ℕ) → j ≤ q → q < j + c → operand_of e q < n) → sum (λ i. hit_rest e c j i * s i) n ≡ sum_rest 0 e s c j
row e s n zero j low = sum_zero (λ i. 0 * s i) n (λ i l. zero-mul (s i))
row e s n (suc c) j low =
    let a : sum (λ i. (one (operand_of e j) i + hit_rest e c (j + 1) i) * s i) n ≡ sum (λ i. one (operand_of e j) i * s i + hit_rest e c (j + 1) i * s i) n = sum_same (λ i. (one (operand_of e j) i + hit_rest e c (j + 1) i) * s i) (λ i. one (operand_of e j) i * s i + hit_rest e c (j + 1) i * s i) n (λ i l. add-mul (one (operand_of e j) i) (hit_rest e c (j + 1) i) (s i)) in
    let b = sum_add (λ i. one (operand_of e j) i * s i) (λ i. hit_rest e c (j + 1) i * s i) n in
    let d = pick s (operand_of e j) n (low j (omega arith) (omega arith)) in
    let r = row e s n c (j + 1) (λ q x y. low q (omega arith) (omega arith)) in
    omega arith

swap : (h : ℕ → ℕ → ℕ) (s : ℕ → ℕ) (n m : ℕ) → sum (λ i. sum (λ k. h k i) m * s i) n ≡ sum (λ k. sum (λ i. h k i * s i) n) m
swap h s n zero = sum_zero (λ i. 0 * s i) n (λ i l. zero-mul (s i))
swap h s n (suc m) =
    let a : sum (λ i. (sum (λ k. h k i) m + h m i) * s i) n ≡ sum (λ i. sum (λ k. h k i) m * s i + h m i * s i) n = sum_same (λ i. (sum (λ k. h k i) m + h m i) * s i) (λ i. sum (λ k. h k i) m * s i + h m i * s i) n (λ i l. add-mul (sum (λ k. h k i) m) (h m i) (s i)) in
    let b = sum_add (λ i. sum (λ k. h k i) m * s i) (λ i. h m i * s i) n in
    let c = swap h s n m in
    omega arith

hit_none : (e : Entry) (x c j : ℕ) → ((q : ℕ) → j ≤ q → q < j + c → operand_of e q < x) → hit_rest e c j x ≡ 0
hit_none e x zero j low = refl
hit_none e x (suc c) j low =
    let l = low j (omega arith) (omega arith) in
    let a : one (operand_of e j) x ≡ 0 = ap (λ b. cond b 1 0) (ne_eqb x (operand_of e j) (omega arith)) in
    let b = hit_none e x c (j + 1) (λ q y z. low q (omega arith) (omega arith)) in
    omega arith

-- the uses by the first n entries, as a sum
uses_sum : (es : List Entry) (i n : ℕ) → n ≤ length es → uses (take n es) i ≡ sum (λ k. hit_rest (at es k) (names (at es k).tag) 0 i) n
uses_sum es i zero h = refl
uses_sum es i (suc n) h =
    ap (λ z. uses (take z es) i) (sym (add-one n))
    ∙ (uses-more es n i (omega arith) ∙ ap₂ (λ a b. a + b) (uses_sum es i n (omega arith)) (hits_are (at es n) i))

pub once_size : (role : ℕ → Bool) (t : ℕ) (es : List Entry) (root : ℕ) → length es ≡ root + 1 → Rooted role t es (root + 1) → ((i : ℕ) → i < root → uses es i ≡ 1) → size_of es root ≡ root + 1
once_size role t es root len rt o =
    let s : ℕ → ℕ = size_of es in
    let H : ℕ → ℕ → ℕ = λ k i. hit_rest (at es k) (names (at es k).tag) 0 i in
    let n : ℕ = suc root in
    let e : root + 1 ≡ suc root = add-one root in
    let a : sum s n ≡ sum (λ k. 1 + sum (λ i. H k i * s i) n) n = sum_same s (λ k. 1 + sum (λ i. H k i * s i) n) n (λ k l. each k l) in
    let b = sum_ones (λ k. sum (λ i. H k i * s i) n) n in
    let c = swap H s n n in
    let d : sum (λ i. sum (λ k. H k i) n * s i) root ≡ sum s root = sum_same (λ i. sum (λ k. H k i) n * s i) s root (λ i l. ap (λ q. q * s i) (once_at i l) ∙ one-mul (s i)) in
    let f : sum (λ k. H k root) n * s root ≡ 0 = ap (λ q. q * s root) (sum_zero (λ k. H k root) n (λ k l. hit_none (at es k) root (names (at es k).tag) 0 (λ q x y. low_of k l q (omega arith)))) ∙ zero-mul (s root) in
    omega arith
  where
    once_at : (i : ℕ) → i < root → sum (λ k. hit_rest (at es k) (names (at es k).tag) 0 i) (suc root) ≡ 1
    once_at i l = sym (uses_sum es i (suc root) (omega arith)) ∙ (ap (λ q. uses q i) (take_all (suc root) es (omega arith)) ∙ o i l)

    low_of : (k : ℕ) → k < suc root → (q : ℕ) → q < names (at es k).tag → operand_of (at es k) q < root
    low_of k l q h = omega (arith, (rt k (omega arith)).low q h)

    each : (k : ℕ) → k < suc root → size_of es k ≡ 1 + sum (λ i. hit_rest (at es k) (names (at es k).tag) 0 i * size_of es i) (suc root)
    each k l =
        let z : names (at es k).tag - 0 ≡ names (at es k).tag = omega arith in
        let r = row (at es k) (size_of es) (suc root) (names (at es k).tag) 0 (λ q x y. omega (arith, low_of k l q (omega arith))) in
        sum_is role t es 0 (root + 1) k rt (omega arith) ∙ (ap (λ c. 1 + sum_rest 0 (at es k) (sum_of 0 es) c 0) z ∙ ap (λ c. 1 + c) (sym r))
