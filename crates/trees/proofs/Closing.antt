-- The term of a formed job is closed.
use Rattle.std.proofs.Common.{◌≡◌, ℕ, zero, suc, ◌+◌, ◌-◌, ◌<◌, ◌≤◌, Bool, true, eqb, ltb, ◌⊎◌, List, length, get_or, sym, refl, ap, ◌∙◌, inl, inr, ⊎_elim, add-zero, add-one, arith, lit<}
use Rattle.std.proofs.lemmas.Bool.{and_parts, and_from, eq-eqb, eqb-true, lt-ltb, ltb-true, cases_lt}
use Rattle.calculus.specs.Substitution.{closed}
use Rattle.calculus.specs.Syntax.{Ty, Term}
use Rattle.tables.specs.declared.entry.Entry.{Entry}
use Rattle.tables.specs.Depths.{binds_first, binds_second, depths, bound_at}
use Rattle.tables.specs.Entries.{at, names, term_tag}
use Rattle.tables.specs.Lower.{Rooted}
use Rattle.tables.specs.Uses.{hits}
use Rattle.trees.specs.Facts.{BoundClosed}
use Rattle.trees.specs.Formed.{Threaded, Bound}
use Rattle.trees.specs.Trees.{type_of, term_by, term_of}
use Rattle.trees.proofs.ByTag.{by_term_tag}
use Rattle.trees.proofs.Handing.{depth_last, depth_first_lem, depth_second_lem, by_first, by_second, by_either, parent, hits_above}
use Rattle.trees.proofs.Unfolding.{lower, term_unfold}

-- the operands are closed, each at its depth
abbrev First : (ℕ → Term) → ℕ → Entry → Type 0
First w d e = 0 < names e.tag → closed (d + binds_first e.tag) (w e.first) ≡ true

abbrev Second : (ℕ → Term) → ℕ → Entry → Type 0
Second w d e = 1 < names e.tag → closed (d + binds_second e.tag) (w e.second) ≡ true

-- with no binder on the way, and with one
same_depth : (d : ℕ) (e : Term) → closed (d + 0) e ≡ true → closed d e ≡ true
same_depth d e h = ap (λ k. closed k e) (sym (add-zero d)) ∙ h

one_deeper : (d : ℕ) (e : Term) → closed (d + 1) e ≡ true → closed (suc d) e ≡ true
one_deeper d e h = ap (λ k. closed k e) (sym (add-one d)) ∙ h

node_closed : (claim : ℕ → Ty) (w : ℕ → Term) (d : ℕ) (e : Entry) → term_tag e.tag ≡ true → First w d e → Second w d e → bound_at e d ≡ true → closed d (term_by claim e w) ≡ true
node_closed claim w d =
    by_term_tag (λ e. First w d e → Second w d e → bound_at e d ≡ true → closed d (term_by claim e w) ≡ true)
    (λ f s c p q b. refl)
    (λ f s c p q b. b)
    (λ f s c p q b. one_deeper d (w f) (p (lit< tt)))
    (λ f s c p q b. and_from _ _ (same_depth d (w f) (p (lit< tt))) (same_depth d (w s) (q (lit< tt))))
    (λ f s c p q b. same_depth d (w f) (p (lit< tt)))
    (λ f s c p q b. same_depth d (w f) (p (lit< tt)))
    (λ f s c p q b. same_depth d (w f) (p (lit< tt)))
    (λ f s c p q b. same_depth d (w f) (p (lit< tt)))
    (λ f s c p q b. and_from _ _ (same_depth d (w f) (p (lit< tt))) (one_deeper d (w s) (q (lit< tt))))
    (λ f s c p q b. same_depth d (w f) (p (lit< tt)))
    (λ f s c p q b. same_depth d (w f) (p (lit< tt)))

-- what a closed term says of its parts
pub record Parts (w : ℕ → Term) (d : ℕ) (e : Entry) : Type 0 where
  pub first : First w d e
  pub second : Second w d e
  pub here : bound_at e d ≡ true

down : (d : ℕ) (e : Term) → closed d e ≡ true → closed (d + 0) e ≡ true
down d e h = ap (λ k. closed k e) (add-zero d) ∙ h

down_one : (d : ℕ) (e : Term) → closed (suc d) e ≡ true → closed (d + 1) e ≡ true
down_one d e h = ap (λ k. closed k e) (add-one d) ∙ h

none : {X : Type 0} → 1 < 1 → X
none h = let z : ⊥ = omega arith in absurd z

never : {X : Type 0} → 0 < 0 → X
never h = let z : ⊥ = omega arith in absurd z

below : {X : Type 0} → 1 < 0 → X
below h = let z : ⊥ = omega arith in absurd z

node_parts : (claim : ℕ → Ty) (w : ℕ → Term) (d : ℕ) (e : Entry) → term_tag e.tag ≡ true → closed d (term_by claim e w) ≡ true → Parts w d e
node_parts claim w d =
    by_term_tag (λ e. closed d (term_by claim e w) ≡ true → Parts w d e)
    (λ f s c h. record { first = never; second = below; here = refl })
    (λ f s c h. record { first = never; second = below; here = h })
    (λ f s c h. record { first = λ l. down_one d (w f) h; second = none; here = refl })
    (λ f s c h. let p = and_parts (closed d (w f)) (closed d (w s)) h in record { first = λ l. down d (w f) p.0; second = λ l. down d (w s) p.1; here = refl })
    (λ f s c h. record { first = λ l. down d (w f) h; second = none; here = refl })
    (λ f s c h. record { first = λ l. down d (w f) h; second = none; here = refl })
    (λ f s c h. record { first = λ l. down d (w f) h; second = none; here = refl })
    (λ f s c h. record { first = λ l. down d (w f) h; second = none; here = refl })
    (λ f s c h. let p = and_parts (closed d (w f)) (closed (suc d) (w s)) h in record { first = λ l. down d (w f) p.0; second = λ l. down_one d (w s) p.1; here = refl })
    (λ f s c h. record { first = λ l. down d (w f) h; second = none; here = refl })
    (λ f s c h. record { first = λ l. down d (w f) h; second = none; here = refl })

module _ (role : ℕ → Bool) (types terms : List Entry) (tree : Threaded role (length types) terms) (few : length terms ≤ 1024) where
  abbrev depth : ℕ → ℕ
  depth k = get_or (depths terms) k 0

  low : Rooted terms
  low = lower role types terms tree

  closed_below : Bound terms → (b k : ℕ) → k < b → k < length terms → closed (get_or (depths terms) k 0) (term_of types terms k) ≡ true
  closed_below bound zero k h l = let z : ⊥ = omega arith in absurd z
  closed_below bound (suc b) k h l =
      let e : Entry = at terms k in
      ap (closed (depth k)) (term_unfold role types terms tree k l)
      ∙ node_closed (type_of types) (term_of types terms) (depth k) e (tree.fit k l).tag
      (λ n.
      let j : e.first < k = (low k l).first n in
      let once = tree.once e.first (omega arith) in
      ap (λ d. closed d (term_of types terms e.first)) (sym (depth_first_lem terms low few k e.first l (omega arith) once (and_from _ _ (lt-ltb 0 (names e.tag) n) (eq-eqb e.first e.first refl))))
      ∙ closed_below bound b e.first (omega arith) (omega arith))
      (λ n.
      let j : e.second < k = (low k l).second n in
      let once = tree.once e.second (omega arith) in
      ap (λ d. closed d (term_of types terms e.second)) (sym (depth_second_lem terms low few k e.second l (omega arith) once (and_from _ _ (lt-ltb 1 (names e.tag) n) (eq-eqb e.second e.second refl))))
      ∙ closed_below bound b e.second (omega arith) (omega arith))
      (bound k l)

  pub closed_last : Bound terms → 1 ≤ length terms → closed 0 (term_of types terms (length terms - 1)) ≡ true
  closed_last bound some =
      ap (λ d. closed d (term_of types terms (length terms - 1))) (sym (depth_last terms low few some))
      ∙ closed_below bound (length terms) (length terms - 1) (omega arith) (omega arith)

  -- the parts of a term that is closed at its depth
  parts : (k : ℕ) → k < length terms → closed (get_or (depths terms) k 0) (term_of types terms k) ≡ true → Parts (term_of types terms) (get_or (depths terms) k 0) (at terms k)
  parts k l h =
      node_parts (type_of types) (term_of types terms) (depth k) (at terms k) (tree.fit k l).tag (ap (closed (depth k)) (sym (term_unfold role types terms tree k l)) ∙ h)

  -- what names j hands its closedness down
  handed : (i j : ℕ) → i < length terms → j < length terms - 1 → 1 ≤ hits (at terms i) j → closed (get_or (depths terms) i 0) (term_of types terms i) ≡ true → closed (get_or (depths terms) j 0) (term_of types terms j) ≡ true
  handed i j l lj some h =
      let e : Entry = at terms i in
      let p = parts i l h in
      ⊎_elim
      (λ b.
      let q = and_parts (ltb 0 (names e.tag)) (eqb j e.first) b in
      ap (λ d. closed d (term_of types terms j)) (depth_first_lem terms low few i j l (omega arith) (tree.once j lj) b)
      ∙ (ap (λ k. closed (depth i + binds_first e.tag) (term_of types terms k)) (eqb-true j e.first q.1) ∙ p.first (ltb-true 0 (names e.tag) q.0)))
      (λ b.
      let q = and_parts (ltb 1 (names e.tag)) (eqb j e.second) b in
      ap (λ d. closed d (term_of types terms j)) (depth_second_lem terms low few i j l (omega arith) (tree.once j lj) b)
      ∙ (ap (λ k. closed (depth i + binds_second e.tag) (term_of types terms k)) (eqb-true j e.second q.1) ∙ p.second (ltb-true 1 (names e.tag) q.0)))
      (by_either (by_first e j) (by_second e j) some)

  module _ (some : 1 ≤ length terms) (job : closed 0 (term_of types terms (length terms - 1)) ≡ true) where
    closed_above : (b j : ℕ) → length terms - j ≤ b → j < length terms → closed (get_or (depths terms) j 0) (term_of types terms j) ≡ true
    closed_above zero j h l = let z : ⊥ = omega arith in absurd z
    closed_above (suc b) j h l = go (λ i q r. closed_above b i q r) (cases_lt j (length terms - 1))
      where
        go : ((i : ℕ) → length terms - i ≤ b → i < length terms → closed (get_or (depths terms) i 0) (term_of types terms i) ≡ true) → (j < length terms - 1) ⊎ (length terms - 1 ≤ j) → closed (get_or (depths terms) j 0) (term_of types terms j) ≡ true
        go ih (inl lj) =
            let one = tree.once j lj in
            let p = parent terms j (omega arith) in
            let i : ℕ = p.0 in
            let li : i < length terms = p.1 in
            let hit : 1 ≤ hits (at terms i) j = p.2 in
            let up : j < i = ⊎_elim (λ q. q) (λ q. let z = hits_above (at terms i) i j (low i li) q in omega arith) (cases_lt j i) in
            handed i j li lj hit (ih i (omega arith) li)
        go ih (inr last) =
            let e : j ≡ length terms - 1 = omega arith in
            ap (λ k. closed (get_or (depths terms) k 0) (term_of types terms k)) e ∙ (ap (λ d. closed d (term_of types terms (length terms - 1))) (depth_last terms low few some) ∙ job)

    bound_all : Bound terms
    bound_all k l = (parts k l (closed_above (length terms) k (omega arith) l)).here

pub bound_closed : BoundClosed
bound_closed role types terms tree some few =
    ((λ b. closed_last role types terms tree few b some), bound_all role types terms tree few some)
