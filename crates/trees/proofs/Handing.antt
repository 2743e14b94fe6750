-- Where every term but the last is named once, the depth of a term is the one that the entry naming it hands down.
use Rattle.std.proofs.Common.{◌≡◌, ℕ, zero, suc, ◌+◌, ◌-◌, ◌<◌, ◌≤◌, Bool, true, false, cond, ◌&&◌, eqb, ltb, ◌⊎◌, List, [], ◌∷◌, length, get_or, take, drop, set, sym, refl, ap, ◌∙◌, inl, inr, ⊎_elim, add-one, arith}
use Rattle.std.proofs.lemmas.List.{get_or-set_same, get_or-set_other, drop_all}
use Rattle.std.proofs.lemmas.Bool.{eqb-true, eqb-false, ne_eqb, ltb-true, cases_Bool, cases_lt, and_left, and_right, false≢true}
use Rattle.tables.specs.declared.entry.Entry.{Entry}
use Rattle.tables.specs.Depths.{binds_first, binds_second, hand_first, hand, depths_from, depths}
use Rattle.tables.specs.Entries.{at, names}
use Rattle.tables.specs.Lower.{Lower, Rooted}
use Rattle.tables.specs.Uses.{hits, uses}
use Rattle.tables.proofs.Handed.{length_down, length_depths, depths_more}
use Rattle.tables.proofs.Used.{uses-more, uses-none}

-- a write elsewhere, or none
keep : (b : Bool) (x v j : ℕ) (ds : List ℕ) → (b && eqb j x) ≡ false → get_or (cond b (set ds x v) ds) j 0 ≡ get_or ds j 0
keep true x v j ds h = get_or-set_other ds x j v 0 (eqb-false j x h)
keep false x v j ds h = refl

-- a write here
put : (b : Bool) (x v j : ℕ) (ds : List ℕ) → (b && eqb j x) ≡ true → j < length ds → get_or (cond b (set ds x v) ds) j 0 ≡ v
put true x v j ds h l = ap (λ k. get_or (set ds k v) j 0) (sym (eqb-true j x h)) ∙ get_or-set_same ds j v 0 l
put false x v j ds h l = absurd (false≢true h)

-- the two parts of a count
abbrev pub by_first : Entry → ℕ → Bool
by_first e j = ltb 0 (names e.tag) && eqb j e.first

abbrev pub by_second : Entry → ℕ → Bool
by_second e j = ltb 1 (names e.tag) && eqb j e.second

none_first : (p q : Bool) → ◌≡◌ {A = ℕ} (cond p 1 0 + cond q 1 0) 0 → p ≡ false
none_first true true h = let z : ⊥ = omega arith in absurd z
none_first true false h = let z : ⊥ = omega arith in absurd z
none_first false q h = refl

none_second : (p q : Bool) → ◌≡◌ {A = ℕ} (cond p 1 0 + cond q 1 0) 0 → q ≡ false
none_second true true h = let z : ⊥ = omega arith in absurd z
none_second false true h = let z : ⊥ = omega arith in absurd z
none_second p false h = refl

one_first : (p q : Bool) → cond p 1 0 + cond q 1 0 ≤ 1 → p ≡ true → q ≡ false
one_first true true h e = let z : ⊥ = omega arith in absurd z
one_first false true h e = absurd (false≢true e)
one_first p false h e = refl

some_first : (p q : Bool) → p ≡ true → 1 ≤ cond p 1 0 + cond q 1 0
some_first true true e = omega arith
some_first true false e = omega arith
some_first false q e = absurd (false≢true e)

some_second : (p q : Bool) → q ≡ true → 1 ≤ cond p 1 0 + cond q 1 0
some_second true true e = omega arith
some_second false true e = omega arith
some_second p false e = absurd (false≢true e)

-- an entry that does not name j leaves its depth
hand_keeps : (e : Entry) (d j : ℕ) (ds : List ℕ) → hits e j ≡ 0 → get_or (hand e d ds) j 0 ≡ get_or ds j 0
hand_keeps e d j ds h =
    keep (ltb 1 (names e.tag)) e.second (d + binds_second e.tag) j (hand_first e d ds) (none_second (by_first e j) (by_second e j) h)
    ∙ keep (ltb 0 (names e.tag)) e.first (d + binds_first e.tag) j ds (none_first (by_first e j) (by_second e j) h)

-- an entry that names j once hands its own depth down
hand_first_is : (e : Entry) (d j : ℕ) (ds : List ℕ) → hits e j ≤ 1 → by_first e j ≡ true → j < length ds → get_or (hand e d ds) j 0 ≡ d + binds_first e.tag
hand_first_is e d j ds h b l =
    keep (ltb 1 (names e.tag)) e.second (d + binds_second e.tag) j (hand_first e d ds) (one_first (by_first e j) (by_second e j) h b)
    ∙ put (ltb 0 (names e.tag)) e.first (d + binds_first e.tag) j ds b l

hand_second_is : (e : Entry) (d j : ℕ) (ds : List ℕ) → by_second e j ≡ true → j < length ds → get_or (hand e d ds) j 0 ≡ d + binds_second e.tag
hand_second_is e d j ds b l =
    let long : length (hand_first e d ds) ≡ length ds = length_down e 0 d ds in
    put (ltb 1 (names e.tag)) e.second (d + binds_second e.tag) j (hand_first e d ds) b (omega arith)

pub hits_above : (e : Entry) (k i : ℕ) → Lower e k → k ≤ i → hits e i ≡ 0
hits_above e k i low h =
    let first : by_first e i ≡ false = ⊎_elim (λ t. and_right (ltb 0 (names e.tag)) _ (ne_eqb i e.first (λ q. let z : e.first < k = low.first (ltb-true 0 (names e.tag) t) in omega arith))) (λ t. and_left _ (eqb i e.first) t) (cases_Bool (ltb 0 (names e.tag))) in
    let second : by_second e i ≡ false = ⊎_elim (λ t. and_right (ltb 1 (names e.tag)) _ (ne_eqb i e.second (λ q. let z : e.second < k = low.second (ltb-true 1 (names e.tag) t) in omega arith))) (λ t. and_left _ (eqb i e.second) t) (cases_Bool (ltb 1 (names e.tag))) in
    ap (λ b. cond b 1 0 + cond (by_second e i) 1 0) first ∙ ap (λ b. 0 + cond b 1 0) second

-- the first terms name no higher one
low_unused : (M : List Entry) → Rooted M → (k i : ℕ) → k ≤ length M → k ≤ i + 1 → uses (take k M) i ≡ 0
low_unused M rt zero i l h = refl
low_unused M rt (suc k) i l h =
    ap (λ z. uses (take z M) i) (sym (add-one k))
    ∙ (uses-more M k i (omega arith) ∙ omega (arith, low_unused M rt k i (omega arith) (omega arith), hits_above (at M k) k i (rt k (omega arith)) (omega arith)))

-- terms that do not name j leave its depth
pub depth_kept : (M : List Entry) (j k : ℕ) → k ≤ length M → uses (take k M) j ≡ 0 → get_or (depths M) j 0 ≡ get_or (depths_from k (drop k M)) j 0
depth_kept M j zero l h = refl
depth_kept M j (suc k) l h =
    let sum : uses (take k M) j + hits (at M k) j ≡ 0 = sym (uses-more M k j (omega arith)) ∙ (ap (λ z. uses (take z M) j) (add-one k) ∙ h) in
    depth_kept M j k (omega arith) (omega arith)
    ∙ (ap (λ ds. get_or ds j 0) (sym (depths_more M k (omega arith)))
    ∙ (hand_keeps (at M k) _ j (depths_from (k + 1) (drop (k + 1) M)) (omega arith) ∙ ap (λ z. get_or (depths_from z (drop z M)) j 0) (add-one k)))

uses_front : (es : List Entry) (k j : ℕ) → uses (take k es) j ≤ uses es j
uses_front es zero j = omega arith
uses_front [] (suc k) j = omega arith
uses_front (e ∷ es) (suc k) j = omega (arith, uses_front es k j)

module _ (M : List Entry) (rt : Rooted M) (few : length M ≤ 1024) where
  -- the last term stands at depth 0
  pub depth_last : 1 ≤ length M → get_or (depths M) (length M - 1) 0 ≡ 0
  depth_last h =
      depth_kept M (length M - 1) (length M) (omega arith) (low_unused M rt (length M) (length M - 1) (omega arith) (omega arith))
      ∙ (ap (λ l. get_or (depths_from (length M) l) (length M - 1) 0) (drop_all (length M) M (omega arith)) ∙ uses-none 1024 (length M - 1))

  module _ (i j : ℕ) (l : i < length M) (lj : j < 1024) (once : uses M j ≡ 1) where
    -- what term i hands down to j, where it is the one that names j
    depth_of : 1 ≤ hits (at M i) j → get_or (depths M) j 0 ≡ get_or (hand (at M i) (get_or (depths M) i 0) (depths_from (i + 1) (drop (i + 1) M))) j 0
    depth_of some =
        let sum : uses (take (i + 1) M) j ≡ uses (take i M) j + hits (at M i) j = uses-more M i j l in
        let own : get_or (depths M) i 0 ≡ get_or (depths_from (i + 1) (drop (i + 1) M)) i 0 = depth_kept M i (i + 1) (omega arith) (low_unused M rt (i + 1) i (omega arith) (omega arith)) in
        depth_kept M j i (omega arith) (omega (arith, uses_front M (i + 1) j))
        ∙ (ap (λ ds. get_or ds j 0) (sym (depths_more M i l)) ∙ ap (λ d. get_or (hand (at M i) d (depths_from (i + 1) (drop (i + 1) M))) j 0) (sym own))

    once_here : hits (at M i) j ≤ 1
    once_here = omega (arith, uses-more M i j l, uses_front M (i + 1) j)

    pub depth_first_lem : by_first (at M i) j ≡ true → get_or (depths M) j 0 ≡ get_or (depths M) i 0 + binds_first (at M i).tag
    depth_first_lem b =
        let long : length (depths_from (i + 1) (drop (i + 1) M)) ≡ 1024 = length_depths (i + 1) (drop (i + 1) M) in
        depth_of (some_first (by_first (at M i) j) (by_second (at M i) j) b) ∙ hand_first_is (at M i) _ j (depths_from (i + 1) (drop (i + 1) M)) once_here b (omega arith)

    pub depth_second_lem : by_second (at M i) j ≡ true → get_or (depths M) j 0 ≡ get_or (depths M) i 0 + binds_second (at M i).tag
    depth_second_lem b =
        let long : length (depths_from (i + 1) (drop (i + 1) M)) ≡ 1024 = length_depths (i + 1) (drop (i + 1) M) in
        depth_of (some_second (by_first (at M i) j) (by_second (at M i) j) b) ∙ hand_second_is (at M i) _ j (depths_from (i + 1) (drop (i + 1) M)) b (omega arith)

-- a term that is named has an entry that names it
pub parent : (es : List Entry) (j : ℕ) → 1 ≤ uses es j → (i : ℕ) × (i < length es) × (1 ≤ hits (at es i) j)
parent [] j h = let z : ⊥ = omega arith in absurd z
parent (e ∷ es) j h = go (λ l. parent es j l) (cases_lt 0 (hits e j))
  where
    go : (1 ≤ uses es j → (i : ℕ) × (i < length es) × (1 ≤ hits (at es i) j)) → (0 < hits e j) ⊎ (hits e j ≤ 0) → (i : ℕ) × (i < length (e ∷ es)) × (1 ≤ hits (at (e ∷ es) i) j)
    go ih (inl l) = (0, omega arith, omega arith)
    go ih (inr l) = let p = ih (omega arith) in (suc p.0, (let q : p.0 < length es = p.1 in omega arith), p.2)

-- by one of its operands
pub by_either : (p q : Bool) → 1 ≤ cond p 1 0 + cond q 1 0 → (p ≡ true) ⊎ (q ≡ true)
by_either true q h = inl refl
by_either false true h = inr refl
by_either false false h = let z : ⊥ = omega arith in absurd z
