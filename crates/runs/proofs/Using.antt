-- Entries that pass are ground, and a reach of 0 tells a closed tree. Assumes nothing.
use Rattle.std.proofs.Common.{◌≡◌, ℕ, zero, suc, ◌+◌, ◌-◌, ◌<◌, ◌≤◌, Bool, true, false, ◌&&◌, eqb, ltb, leb, List, length, get_or, take, sym, refl, ap, ◌∙◌, subst, ⊎_elim, true≢false, arith, length-take-le, get_or-take}
use Rattle.std.proofs.lemmas.List.{get_or_past}
use Rattle.std.proofs.lemmas.Bool.{and_parts, and_from, ltb-true, lt-ltb, leb-true, le-leb, lt-leb, eqb-true, cases_Bool, cases_eq}
use Rattle.tables.specs.declared.entry.Entry.{Entry}
use Rattle.tables.specs.Entries.{term_tag, role_fits}
use Rattle.machine.specs.Labelled.{constants, variables, One, Two, head, Tree, stray, leaf, one, two, trees, tree, inside, beside, closed}
use Rattle.machine.specs.Theorems.{rooted, Lower}
use Rattle.machine.proofs.Growing.{length_trees, Whole}
use Rattle.runs.specs.Reach.{no_entry, outside, outside_two, reach_of, Tagged, Ground, Known}
use Rattle.runs.specs.Usable.{plain_operands, passes, all_pass, usable}
use Rattle.runs.specs.Table.{Live}
use Rattle.runs.proofs.Tags.{by_tag, tree_at, below_all}
use Rattle.runs.proofs.Reaching.{closed_reach, by_outside, by_outside_two}

tagged : (e : Entry) → term_tag e.tag ≡ true → Tagged e
tagged e h = let b = and_parts (leb 16 e.tag) (leb e.tag 26) h in (leb-true 16 e.tag b.0, leb-true e.tag 26 b.1)

-- one lower operand, or two
first_of : (f s t i : ℕ) (b : Bool) → (ltb f i && eqb s 0 && b) ≡ true → f < i
first_of f s t i b h = ltb-true f i (and_parts (ltb f i) (eqb s 0) (and_parts (ltb f i && eqb s 0) b h).0).0

both_of : (f s t i : ℕ) → (ltb f i && ltb s i && eqb t 0) ≡ true → (f < i) × (s < i)
both_of f s t i h =
    let p = and_parts (ltb f i) (ltb s i) (and_parts (ltb f i && ltb s i) (eqb t 0) h).0 in
    (ltb-true f i p.0, ltb-true s i p.1)

lower_by : (i : ℕ) (e : Entry) → Tagged e → plain_operands e i ≡ true → Lower i e (head e)
lower_by i e t =
    by_tag (λ x. plain_operands x i ≡ true → Lower i x (head x))
    (λ f s t h. tt) (λ f s t h. tt) (λ f s t h. ltb-true f i h) (λ f s t h. both_of f s t i h)
    (λ f s t h. first_of f s t i (eqb t 0) h) (λ f s t h. first_of f s t i true h) (λ f s t h. first_of f s t i (eqb t 0) h) (λ f s t h. first_of f s t i (eqb t 0) h)
    (λ f s t h. both_of f s t i h) (λ f s t h. first_of f s t i true h) (λ f s t h. first_of f s t i true h) e t

small_by : (i : ℕ) (e : Entry) → Tagged e → plain_operands e i ≡ true → e.tag ≡ 17 → e.first < 1024
small_by i e t =
    by_tag (λ x. plain_operands x i ≡ true → x.tag ≡ 17 → x.first < 1024)
    (λ f s t h q. omega arith) (λ f s t h q. ltb-true f 1024 (and_parts (ltb f 1024) (eqb s 0) (and_parts (ltb f 1024 && eqb s 0) (eqb t 0) h).0).0)
    (λ f s t h q. omega arith) (λ f s t h q. omega arith) (λ f s t h q. omega arith) (λ f s t h q. omega arith) (λ f s t h q. omega arith)
    (λ f s t h q. omega arith) (λ f s t h q. omega arith) (λ f s t h q. omega arith) (λ f s t h q. omega arith) e t

module _ (role : ℕ → Bool) where
  -- what an entry that passes is
  abbrev Good : ℕ → Entry → Type 0
  Good i e = Tagged e × Lower i e (head e) × (e.tag ≡ 17 → e.first < 1024)

  good : (i : ℕ) (e : Entry) → passes role e i ≡ true → Good i e
  good i e h =
      let p = (and_parts (term_tag e.tag && plain_operands e i) (role_fits role e) h).0 in
      let q = and_parts (term_tag e.tag) (plain_operands e i) p in
      let t = tagged e q.0 in
      (t, lower_by i e t q.1, small_by i e t q.1)

  -- entries below n that pass
  abbrev pub Passed : List Entry → ℕ → Type 0
  Passed es n = (k : ℕ) → k < n → passes role (get_or es k no_entry) k ≡ true

  pub ground_by : (es : List Entry) (n : ℕ) → n ≤ length es → Passed es n → Ground (take n es)
  ground_by es n l h =
      let size = length-take-le n es l in
      let each : (k : ℕ) → k < length (take n es) → Good k (get_or (take n es) k no_entry) =
      λ k q. let w : k < n = omega arith in subst (λ (x : Entry). Good k x) (sym (get_or-take n es k no_entry w)) (good k (get_or es k no_entry) (h k w)) in
      record { tagged = λ k q. (each k q).0; lowered = λ k q. (each k q).1; small = λ k q. (each k q).2 }

  -- the scan, one entry on
  pub pass_on : (es : List Entry) (u i : ℕ) → i < u → passes role (get_or es i no_entry) i ≡ true → all_pass role es (u - i) i ≡ all_pass role es (u - (i + 1)) (i + 1)
  pass_on es u i l h =
      let e : u - i ≡ suc (u - (i + 1)) = omega arith in
      ap (λ (k : ℕ). all_pass role es k i) e ∙ ap (λ (b : Bool). b && all_pass role es (u - (i + 1)) (i + 1)) h

  pub pass_off : (es : List Entry) (u i : ℕ) → i < u → passes role (get_or es i no_entry) i ≡ false → all_pass role es (u - i) i ≡ false
  pass_off es u i l h =
      let e : u - i ≡ suc (u - (i + 1)) = omega arith in
      ap (λ (k : ℕ). all_pass role es k i) e ∙ ap (λ (b : Bool). b && all_pass role es (u - (i + 1)) (i + 1)) h

  pub pass_end : (es : List Entry) (u i : ℕ) → u ≤ i → all_pass role es (u - i) i ≡ true
  pass_end es u i l = let e : u - i ≡ 0 = omega arith in ap (λ (k : ℕ). all_pass role es k i) e

  pub passed_by : (es : List Entry) (k i : ℕ) → all_pass role es k i ≡ true → (j : ℕ) → i ≤ j → j < i + k → passes role (get_or es j no_entry) j ≡ true
  passed_by es zero i h j a b = absurd (omega arith)
  passed_by es (suc k) i h j a b =
      let p = and_parts (passes role (get_or es i no_entry) i) (all_pass role es k (i + 1)) h in
      ⊎_elim (λ q. subst (λ (x : ℕ). passes role (get_or es x no_entry) x ≡ true) (sym q) p.0)
      (λ q. passed_by es k (i + 1) p.1 j (omega arith) (omega arith)) (cases_eq j i)

  -- in the first part of a table
  take_each : (es : List Entry) (u k i : ℕ) → i + k ≤ u → all_pass role (take u es) k i ≡ all_pass role es k i
  take_each es u zero i h = refl
  take_each es u (suc k) i h =
      ap (λ (e : Entry). passes role e i && all_pass role (take u es) k (i + 1)) (get_or-take u es i no_entry (omega arith))
      ∙ ap (λ (b : Bool). passes role (get_or es i no_entry) i && b) (take_each es u k (i + 1) (omega arith))

  pub pass_take : (es : List Entry) (u : ℕ) → u ≤ length es → all_pass role (take u es) (length (take u es)) 0 ≡ all_pass role es u 0
  pass_take es u l = ap (λ (n : ℕ). all_pass role (take u es) n 0) (length-take-le u es l) ∙ take_each es u u 0 (omega arith)

-- a whole tree whose reach is at most d is closed below d binders
outside_back : (h : One) (r d : ℕ) → outside h r ≤ d → r ≤ inside h d
outside_back h r d = by_outside h (λ f g. g r ≤ d → r ≤ f d) (λ k. omega arith) (λ k. k)

outside_two_back : (h : Two) (r d : ℕ) → outside_two h r ≤ d → r ≤ beside h d
outside_two_back h r d = by_outside_two h (λ f g. g r ≤ d → r ≤ f d) (λ k. omega arith) (λ k. k)

reach_closed : (d : ℕ) (t : Tree) → Whole t → reach_of t ≤ d → closed d t ≡ true
reach_closed d stray w h = absurd w
reach_closed d (leaf i (constants k p)) w h = refl
reach_closed d (leaf i (variables k)) w h = lt-ltb k d (omega arith)
reach_closed d (one i x t) w h = reach_closed (inside x d) t w (outside_back x (reach_of t) d h)
reach_closed d (two i x t u) w h =
    and_from (closed d t) (closed (beside x d) u) (reach_closed d t w.0 (omega arith))
    (reach_closed (beside x d) u w.1 (outside_two_back x (reach_of u) d (omega arith)))

-- the trees of ground entries are whole
module _ (us : List Entry) (G : Ground us) where
  whole_rooted : (i : ℕ) (e : Entry) → Tagged e → Lower i e (head e) → ((k : ℕ) → k < i → Whole (tree us k)) → Whole (rooted i (tree us e.first) (tree us e.second) (head e))
  whole_rooted i e t l below =
      by_tag (λ x. Lower i x (head x) → Whole (rooted i (tree us x.first) (tree us x.second) (head x)))
      (λ f s t l. tt) (λ f s t l. tt) (λ f s t l. below f l) (λ f s t l. (below f l.0, below s l.1))
      (λ f s t l. below f l) (λ f s t l. below f l) (λ f s t l. below f l) (λ f s t l. below f l) (λ f s t l. (below f l.0, below s l.1))
      (λ f s t l. below f l) (λ f s t l. below f l) e t l

  whole_below : (k : ℕ) → k < length us → Whole (tree us k)
  whole_below =
      below_all (λ k. Whole (tree us k)) (length us)
      (λ i q b. subst Whole (sym (tree_at us i (get_or us i no_entry) G q refl)) (whole_rooted i (get_or us i no_entry) (G.tagged i q) (G.lowered i q) b))

  pub closed_is : (c : ℕ) → c < length us → (r : ℕ) → r ≡ reach_of (tree us c) → closed 0 (tree us c) ≡ eqb r 0
  closed_is c l r e = ⊎_elim (λ h. h ∙ sym (yes (closed_reach 0 (tree us c) h))) (λ h. h ∙ sym (no h)) (cases_Bool (closed 0 (tree us c)))
    where
      yes : reach_of (tree us c) ≤ 0 → eqb r 0 ≡ true
      yes h = let z : r ≡ 0 = omega arith in ap (λ (x : ℕ). eqb x 0) z

      other : eqb r 0 ≡ true → closed 0 (tree us c) ≡ true
      other q = let z = eqb-true r 0 q in reach_closed 0 (tree us c) (whole_below c l) (omega arith)

      no : closed 0 (tree us c) ≡ false → eqb r 0 ≡ false
      no h = ⊎_elim (λ q. absurd (true≢false (sym (other q) ∙ h))) (λ q. q) (cases_Bool (eqb r 0))

  pub open_past : (c : ℕ) → length us ≤ c → closed 0 (tree us c) ≡ false
  open_past c l = ap (closed 0) (get_or_past (trees us) c stray (subst (λ (n : ℕ). n ≤ c) (sym (length_trees us)) l))

-- the question as a whole: too long a table, too many used, one that does not pass
module _ (role : ℕ → Bool) (es : List Entry) (u c : ℕ) where
  pub too_long : 16384 < length es → false ≡ usable role es u c
  too_long h = sym (ap (λ (b : Bool). b && leb u (length es) && all_pass role es u 0 && closed 0 (tree (take u es) c)) (lt-leb (length es) 16384 h))

  pub too_many : length es ≤ 16384 → length es < u → false ≡ usable role es u c
  too_many s h =
      sym (ap (λ (b : Bool). b && leb u (length es) && all_pass role es u 0 && closed 0 (tree (take u es) c)) (le-leb (length es) 16384 s)
      ∙ ap (λ (b : Bool). b && all_pass role es u 0 && closed 0 (tree (take u es) c)) (lt-leb u (length es) h))

  pub none_pass : length es ≤ 16384 → u ≤ length es → all_pass role es u 0 ≡ false → false ≡ usable role es u c
  none_pass s l h =
      sym (ap (λ (b : Bool). b && leb u (length es) && all_pass role es u 0 && closed 0 (tree (take u es) c)) (le-leb (length es) 16384 s)
      ∙ (ap (λ (b : Bool). b && all_pass role es u 0 && closed 0 (tree (take u es) c)) (le-leb u (length es) l)
      ∙ ap (λ (b : Bool). b && closed 0 (tree (take u es) c)) h))

-- and where the table is not too long and the used entries pass
module _ (role : ℕ → Bool) (es : List Entry) (u c : ℕ) (short : length es ≤ 16384) (low : u ≤ length es) (pass : all_pass role es u 0 ≡ true) where
  used_ground : Ground (take u es)
  used_ground = ground_by role es u low (λ k l. passed_by role es u 0 pass k (omega arith) (omega arith))

  rest_is : usable role es u c ≡ closed 0 (tree (take u es) c)
  rest_is =
      ap (λ (b : Bool). b && leb u (length es) && all_pass role es u 0 && closed 0 (tree (take u es) c)) (le-leb (length es) 16384 short)
      ∙ (ap (λ (b : Bool). b && all_pass role es u 0 && closed 0 (tree (take u es) c)) (le-leb u (length es) low)
      ∙ ap (λ (b : Bool). b && closed 0 (tree (take u es) c)) pass)

  pub not_past : u ≤ c → false ≡ usable role es u c
  not_past h = let s = length-take-le u es low in sym (rest_is ∙ open_past (take u es) used_ground c (omega arith))

  -- with the reaches known
  module _ (rs : List ℕ) (known : Known (take u es) rs) (h : c < u) where
    here : c < length (take u es)
    here = let s = length-take-le u es low in omega arith

    pub by_reach : eqb (get_or rs c 0) 0 ≡ usable role es u c
    by_reach = sym (rest_is ∙ closed_is (take u es) used_ground c here (get_or rs c 0) (known c here))

    pub live_by : length rs ≡ 16384 → eqb (get_or rs c 0) 0 ≡ true → Live es rs u c
    live_by n q = record {
      ground = used_ground;
      known = known;
      shut = closed_is (take u es) used_ground c here (get_or rs c 0) (known c here) ∙ q;
      low = low;
      reaching = omega arith;
      present = h;
    }
