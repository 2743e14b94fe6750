-- The frames of a walk stay within their stack, and the types that they hold within the table.
use Rattle.std.proofs.Common.{◌≡◌, ℕ, suc, ◌+◌, ◌-◌, ◌<◌, ◌≤◌, Bool, true, false, cond, eqb, ◌⊎◌, List, [], ◌∷◌, ◌++◌, length, get_or, set, Some, Err, sym, refl, ap, ◌∙◌, subst, ap₂, subst₂, inl, inr, add-one, arith}
use mathlib.Core.Bool.{false≢true}
use Rattle.std.proofs.lemmas.Bool.{cases_eq, ne_eqb, eqb-true}
use Rattle.std.proofs.lemmas.List.{get_or-set_same, get_or-set_other, length-set}
use Rattle.std.specs.Option.{option_to_list}
use Rattle.roles.specs.Meaning.{Meaning, Lawful}
use Rattle.calculus.specs.Subtyping.{System, sufficient, necessary}
use Rattle.tables.specs.declared.entry.Entry.{Entry}
use Rattle.tables.specs.Asking.{asks}
use Rattle.tables.specs.Depths.{depths}
use Rattle.tables.specs.Entries.{at, binds, names, no_entry, operand_of}
use Rattle.walks.specs.declared.fault.TypingFault.{TypingFault}
use Rattle.walks.specs.declared.fault.TypingFault.TheVariants.{NoComputation}
use Rattle.walks.specs.Places.{Low, Grounded, Placed, Rooted, Walkable}
use Rattle.walks.specs.Rules.{Judged, known, fresh, claim_of}
use Rattle.walks.specs.Walk.{Walked, going, stopped, and_then, settled, walk_of}
use Rattle.walks.proofs.Goods.{Good}
use Rattle.walks.proofs.Onces.{names_most, once_size}
use Rattle.walks.proofs.Placing.{ground, rooted}
use Rattle.walks.proofs.Sums.{sum_rest, sum_of, sum_is}
use Rattle.walks.proofs.TypeTrees.{ground_more}
use Rattle.checks.specs.declared.walk.Frame.{Frame}
use Rattle.checks.specs.Frames.{enters_of, binder_of, deeper_of, env, opened, advanced}
use Rattle.checks.specs.Judge.{bound_of, judge_of, Ready}
use Rattle.checks.proofs.Depths.{root_depth, depth_down, bound_here}
use Rattle.checks.proofs.Envs.{env_same, env_more, env_low}
use Rattle.checks.proofs.Judges.{judge_good}
use Rattle.checks.proofs.Stacks.{stack, pushed, popped, pushed_two}
use Rattle.checks.proofs.Walks.{under, todo, walk_is, todo_more, todo_stop, todo_done, run, pend, pend_stopped, frame_sum, pend_sum}

-- a frame above i others
pub record Sits (es T : List Entry) (u root : ℕ) (bs : List ℕ) (i : ℕ) (F : Frame) : Type 0 where
  pub low : F.number + i ≤ root
  pub deep : F.depth ≤ i
  -- the depth is that of its term
  pub owed : F.depth ≡ get_or (depths es) F.number 0
  -- the types that it looks at are there
  pub kept : 2 ≤ F.stage → F.first < u
  pub lets : 2 ≤ F.stage → (at es F.number).tag ≡ 24 → (at T F.first).tag ≡ 4
  pub bound : (k : ℕ) → k < F.depth → get_or bs k 0 < u

-- so do all of a stack, of which none is deeper than d, nor than the one above it
abbrev pub AllSit : List Entry → List Entry → ℕ → ℕ → List ℕ → ℕ → List Frame → Type 0
AllSit es T u root bs d [] = Unit {0}
AllSit es T u root bs d (F ∷ fs) = (F.depth ≤ d) × Sits es T u root bs (length fs) F × AllSit es T u root bs F.depth fs

-- the type found last is there, if it is looked at
abbrev pub Seen : ℕ → ℕ → List Frame → Type 0
Seen u v [] = v < u
Seen u v (F ∷ fs) = 0 < F.stage → v < u

pub record Fits (m : Meaning) (t : ℕ) (es T : List Entry) (u v : ℕ) (bs : List ℕ) (fs : List Frame) : Type 0 where
  pub binders : length bs ≡ 1024
  pub since : t ≤ u
  pub ground : Grounded m.role T u
  pub sit : AllSit es T u (length es - 1) bs 1024 fs
  pub seen : Seen u v fs

-- a type more does not matter
sit_grown : (es T : List Entry) (u root : ℕ) (bs : List ℕ) (x : Entry) (d : ℕ) (fs : List Frame) → AllSit es T u root bs d fs → AllSit es (set T u x) (u + 1) root bs d fs
sit_grown es T u root bs x d [] s = tt
sit_grown es T u root bs x d (F ∷ fs) s = (s.0, here, sit_grown es T u root bs x F.depth fs s.2)
  where
    here : Sits es (set T u x) (u + 1) root bs (length fs) F
    here = record {
      low = s.1.low;
      deep = s.1.deep;
      owed = s.1.owed;
      kept = λ h. omega (arith, s.1.kept h);
      lets = λ h z. ap (λ (y : Entry). y.tag) (get_or-set_other T u F.first x no_entry (omega (arith, s.1.kept h))) ∙ s.1.lets h z;
      bound = λ k l. omega (arith, s.1.bound k l);
    }

-- nor does a binder that is deeper
sit_bound : (es T : List Entry) (u root : ℕ) (bs : List ℕ) (b y : ℕ) (d : ℕ) (fs : List Frame) → d ≤ b → AllSit es T u root bs d fs → AllSit es T u root (set bs b y) d fs
sit_bound es T u root bs b y d [] h s = tt
sit_bound es T u root bs b y d (F ∷ fs) h s = (s.0, here, sit_bound es T u root bs b y F.depth fs (omega (arith, s.0)) s.2)
  where
    here : Sits es T u root (set bs b y) (length fs) F
    here = record {
      low = s.1.low;
      deep = s.1.deep;
      owed = s.1.owed;
      kept = s.1.kept;
      lets = s.1.lets;
      bound = λ k l. rw (get_or-set_other bs b k y 0 (omega (arith, s.0))) (s.1.bound k l);
    }

sit_under : (es T : List Entry) (u root : ℕ) (bs : List ℕ) (d c : ℕ) (fs : List Frame) → d ≤ c → AllSit es T u root bs d fs → AllSit es T u root bs c fs
sit_under es T u root bs d c [] h s = tt
sit_under es T u root bs d c (F ∷ fs) h s = (omega (arith, s.0), s.1, s.2)

pend_same : (m : Meaning) (α : System) (t : ℕ) (es T : List Entry) (u root : ℕ) (bs : List ℕ) (b y d : ℕ) (fs : List Frame) → d ≤ b → AllSit es T u root bs d fs → (w : Walked) → pend m α t es (set bs b y) fs w ≡ pend m α t es bs fs w
pend_same m α t es T u root bs b y d [] h s w = refl
pend_same m α t es T u root bs b y d (F ∷ fs) h s w =
    ap (λ Γ. pend m α t es (set bs b y) fs (and_then w (todo m α t es F.number F.stage F.first Γ))) (env_same bs b y F.depth (omega (arith, s.0)))
    ∙ pend_same m α t es T u root bs b y F.depth fs (omega (arith, s.0)) s.2 (run m α t es bs F w)

claim_low : (β : System) (t : ℕ) (E : Entry) → (E.second < t) × (E.third < t) → claim_of β E < t
claim_low sufficient t E h = h.0
claim_low necessary t E h = h.1

binder_low : (role : ℕ → Bool) (α : System) (t k : ℕ) (T : List Entry) (u v : ℕ) (E : Entry) (s : ℕ) → binds E.tag s ≡ true → enters_of T E s v ≡ true → Placed role t k E → t ≤ u → Grounded role T u → (0 < s → v < u) → binder_of α T E s v < u
binder_low role α t k T u v E s b en pl tu g sv = go (cases_eq E.tag 18) (cases_eq E.tag 24) (cases_eq s 1)
  where
    go : (E.tag ≡ 18) ⊎ (E.tag ≡ 18 → ⊥) → (E.tag ≡ 24) ⊎ (E.tag ≡ 24 → ⊥) → (s ≡ 1) ⊎ (s ≡ 1 → ⊥) → binder_of α T E s v < u
    go (inl h) p q = let c = claim_low α t E (pl.claim h) in let z : binder_of α T E s v ≡ claim_of α E = ap (λ n. cond (eqb n 18) (claim_of α E) (cond (eqb n 24) (cond (eqb s 1) (at T v).first 0) 0)) h in omega arith
    go (inr n) (inl h) (inl i) =
        let z : eqb (at T v).tag 4 ≡ true = rw (h, i) at en in
        let vu : v < u = sv (omega arith) in
        let l = g v vu in
        let y : (at T v).first < u = omega (arith, l.one (omega (arith, eqb-true (at T v).tag 4 z))) in
        rw (h, i) y
    go (inr n) (inl h) (inr o) = absurd (no_two (eqb s 0) (rw (h, ne_eqb s 1 o) at b))
      where
        no_two : (c : Bool) → cond c false false ≡ true → ⊥
        no_two true q = false≢true q
        no_two false q = false≢true q
    go (inr n) (inr o) q = absurd (no_one (eqb s 0) (eqb s 1) (rw (ne_eqb E.tag 18 n, ne_eqb E.tag 24 o) at b))
      where
        no_one : (c d : Bool) → cond c false (cond d false false) ≡ true → ⊥
        no_one true d q = false≢true q
        no_one false true q = false≢true q
        no_one false false q = false≢true q

module _ (m : Meaning) (L : Lawful m) (α : System) (t : ℕ) (T₀ es : List Entry) (wk : Walkable m t T₀ es) where
  abbrev root : ℕ
  root = length es - 1

  whole : length es ≡ root + 1
  whole = omega (arith, wk.some)

  rt : Rooted m.role t es (root + 1)
  rt = subst (Rooted m.role t es) whole (rooted m t T₀ es wk)

  -- where a walk begins
  start_fits : (bs : List ℕ) → length bs ≡ 1024 → Fits m t es T₀ t 0 bs (opened root 0 ∷ [])
  start_fits bs l = record {
    binders = l;
    since = omega arith;
    ground = ground m t T₀ es wk;
    sit = (
      omega arith,
      record {
        low = omega arith;
        deep = omega arith;
        owed = sym (root_depth m t T₀ es wk);
        kept = λ h. let y : ⊥ = omega arith in absurd y;
        lets = λ h. let y : ⊥ = omega arith in absurd y;
        bound = λ k h. let y : ⊥ = omega arith in absurd y;
      },
      tt,
    );
    seen = λ h. let y : ⊥ = omega arith in absurd y;
  }

  start_sum : pend_sum m α t es 0 (opened root 0 ∷ []) ≡ length es
  start_sum =
      let b = sum_is m.role t es 0 (root + 1) root rt (omega arith) in
      let c = once_size m.role t es root whole rt (λ i l. wk.formed.threaded.once i (omega (arith, wk.some))) in
      omega arith

  start_pend : (bs : List ℕ) → pend m α t es bs (opened root 0 ∷ []) (going T₀ t 0) ≡ walk_of m α t es root [] T₀ t
  start_pend bs = sym (walk_is m α t es (root + 1) root rt (omega arith) [] T₀ t 0)

  module _ (T : List Entry) (u v : ℕ) (bs : List ℕ) (F : Frame) (fs : List Frame) (f : Fits m t es T u v bs (F ∷ fs)) where
    abbrev E : Entry
    E = at es F.number

    abbrev sits : Sits es T u root bs (length fs) F
    sits = f.sit.1

    here : F.number < length es
    here = omega (arith, sits.low, wk.some)

    placed : Placed m.role t F.number E
    placed = rt F.number (omega (arith, sits.low))

    v_there : 0 < F.stage → v < u
    v_there h = f.seen h

    -- the entry is finished
    ready : names E.tag ≤ F.stage → Ready m T u E F.first v
    ready h = record {
      sound = wk.sound;
      own = (t, F.number, f.since, placed);
      one = λ o. v_there (omega arith);
      two = λ o. sits.kept (omega arith);
      first = λ z. let n : names E.tag ≡ 2 = ap names z in sits.lets (omega arith) z;
    }

    -- a variable has its binder
    variable_bound : E.tag ≡ 17 → E.first < F.depth
    variable_bound z = let q = bound_here m t T₀ es wk F.number here z in let d = sits.owed in omega arith

    bound_low : E.tag ≡ 17 → bound_of (env bs F.depth) E < u
    bound_low z =
        let q : bound_of (env bs F.depth) E ≡ get_or (env bs F.depth) E.first 0 = ap (λ k. cond (eqb k 17) (get_or (env bs F.depth) E.first 0) 0) z in
        let l = env_low bs u F.depth E.first (variable_bound z) sits.bound in
        omega arith

    -- the frame is popped
    pop_same : (x : ℕ) → x < u → Fits m t es T u x bs fs
    pop_same x h = record {
      binders = f.binders;
      since = f.since;
      ground = f.ground;
      sit = sit_under es T u root bs F.depth 1024 fs f.sit.0 f.sit.2;
      seen = go fs;
    }
      where
        go : (gs : List Frame) → Seen u x gs
        go [] = h
        go (G ∷ gs) = λ _. h

    pop_fresh : (x : Entry) → Low m.role u x → u < length T → Fits m t es (set T u x) (u + 1) u bs fs
    pop_fresh x h lt = record {
      binders = f.binders;
      since = omega (arith, f.since);
      ground = ground_more m.role T u x lt h f.ground;
      sit = sit_grown es T u root bs x 1024 fs (sit_under es T u root bs F.depth 1024 fs f.sit.0 f.sit.2);
      seen = go fs;
    }
      where
        go : (gs : List Frame) → Seen (u + 1) u gs
        go [] = omega arith
        go (G ∷ gs) = λ _. omega arith

    -- what is told of the finished entry, and what is left then
    module _ (b : ℕ) (J : Judged) (be : b ≡ bound_of (env bs F.depth) E) (Je : J ≡ judge_of m α (t + F.number) T E F.first v b) (h : names E.tag ≤ F.stage) where
      told : judge_of m α (t + F.number) T E F.first v (bound_of (env bs F.depth) E) ≡ J
      told = ap (judge_of m α (t + F.number) T E F.first v) (sym be) ∙ sym Je

      finish_pend : pend m α t es bs fs (settled J T u) ≡ pend m α t es bs (F ∷ fs) (going T u v)
      finish_pend =
          sym (ap (pend m α t es bs fs) (todo_done m α t es F.number F.stage F.first (env bs F.depth) T u v h)
          ∙ ap (λ q. pend m α t es bs fs (settled q T u)) told)

      finish_good : Good m.role u J
      finish_good =
          subst (Good m.role u) told (judge_good m L α (t + F.number) T u F.first v f.ground (bound_of (env bs F.depth) E) E (ready h) bound_low)

    -- an operand is refused
    stop_pend : F.stage < names E.tag → enters_of T E F.stage v ≡ false → pend m α t es bs (F ∷ fs) (going T u v) ≡ stopped T (NoComputation (t + F.number))
    stop_pend h en =
        ap (pend m α t es bs fs) (todo_stop m α t es F.number F.stage F.first (env bs F.depth) T u v h en)
        ∙ pend_stopped m α t es bs fs T (NoComputation (t + F.number))

    -- an operand is entered
    module _ (y : ℕ) (more : F.stage < names E.tag) (en : enters_of T E F.stage v ≡ true) (ye : y ≡ binder_of α T E F.stage v) where
      abbrev x : ℕ
      x = operand_of E F.stage

      abbrev d : ℕ
      d = deeper_of E F.stage F.depth

      abbrev fs' : List Frame
      fs' = opened x d ∷ advanced F v ∷ fs

      abbrev bs' : List ℕ
      bs' = set bs F.depth y

      x_low : x < F.number
      x_low = placed.low F.stage more

      room : length fs + 2 ≤ 1024
      room = omega (arith, x_low, sits.low, wk.few)

      room_b : F.depth < length bs
      room_b = omega (arith, f.binders, sits.deep, room)

      env' : env bs' d ≡ under α T E F.stage v (env bs F.depth)
      env' = go (binds E.tag F.stage)
        where
          go : (b : Bool) → env bs' (F.depth + cond b 1 0) ≡ cond b (binder_of α T E F.stage v ∷ env bs F.depth) (env bs F.depth)
          go true = ap (env bs') (add-one F.depth) ∙ (env_more bs F.depth y room_b ∙ ap (λ z. z ∷ env bs F.depth) ye)
          go false = let z : F.depth + 0 ≡ F.depth = omega arith in ap (env bs') z ∙ env_same bs F.depth y F.depth (omega arith)

      abbrev W : Walked
      W = walk_of m α t es x (under α T E F.stage v (env bs F.depth)) T u

      push_pend : pend m α t es bs' fs' (going T u v) ≡ pend m α t es bs (F ∷ fs) (going T u v)
      push_pend =
          ap (λ w. pend m α t es bs' (advanced F v ∷ fs) w) (sym (walk_is m α t es (root + 1) x rt (omega (arith, x_low, sits.low)) (env bs' d) T u v))
          ∙ (ap (λ Γ. pend m α t es bs' (advanced F v ∷ fs) (walk_of m α t es x Γ T u)) env'
          ∙ (ap (λ Γ. pend m α t es bs' fs (and_then W (todo m α t es F.number (F.stage + 1) v Γ))) (env_same bs F.depth y F.depth (omega arith))
          ∙ (ap (pend m α t es bs' fs) (sym (todo_more m α t es F.number F.stage F.first (env bs F.depth) T u v more en))
          ∙ pend_same m α t es T u root bs F.depth y F.depth fs (omega arith) f.sit.2 (run m α t es bs F (going T u v)))))

      push_sum : (p : ℕ) → p + pend_sum m α t es p fs' ≡ pend_sum m α t es p (F ∷ fs)
      push_sum p =
          let c4 : frame_sum m α t es p (opened x d) ≡ sum_of p es x = sym (sum_is m.role t es p (root + 1) x rt (omega (arith, x_low, sits.low))) in
          let z : names E.tag - F.stage ≡ suc (names E.tag - (F.stage + 1)) = omega arith in
          let c5 : frame_sum m α t es p F ≡ 1 + ((p + sum_of p es x) + sum_rest p E (sum_of p es) (names E.tag - (F.stage + 1)) (F.stage + 1)) =
          ap (λ n. 1 + sum_rest p E (sum_of p es) n F.stage) z in
          omega arith

      d_near : (F.depth ≤ d) × (d ≤ F.depth + 1)
      d_near = go (binds E.tag F.stage)
        where
          go : (b : Bool) → (F.depth ≤ F.depth + cond b 1 0) × (F.depth + cond b 1 0 ≤ F.depth + 1)
          go true = (omega arith, omega arith)
          go false = (omega arith, omega arith)

      two_stages : F.stage ≤ 1
      two_stages = omega (arith, names_most E.tag)

      -- the first operand of a let that goes on is a computation
      first_let : E.tag ≡ 24 → F.stage ≡ 1 → (at T v).tag ≡ 4
      first_let z y = eqb-true (at T v).tag 4 (ap₂ (λ a b. cond (eqb a 24) (cond (eqb b 1) (eqb (at T v).tag 4) true) true) (sym z) (sym y) ∙ en)

      old_bound : (k : ℕ) → k < F.depth → get_or bs' k 0 < u
      old_bound k h = rw (get_or-set_other bs F.depth k y 0 (omega arith)) (sits.bound k h)

      new_bound : (k : ℕ) → k < d → get_or bs' k 0 < u
      new_bound k h = go (binds E.tag F.stage) refl (cases_eq k F.depth)
        where
          go : (b : Bool) → binds E.tag F.stage ≡ b → (k ≡ F.depth) ⊎ (k ≡ F.depth → ⊥) → get_or bs' k 0 < u
          go b q (inr n) = old_bound k (omega (arith, d_near))
          go true q (inl z) =
              let w = binder_low m.role α t F.number T u v E F.stage q en placed f.since f.ground v_there in
              rw (z, get_or-set_same bs F.depth y 0 room_b) (omega arith)
          go false q (inl z) =
              let w : d ≡ F.depth + 0 = ap (λ b. F.depth + cond b 1 0) q in
              let b : ⊥ = omega arith in
              absurd b

      stays : Sits es T u root bs' (length fs) (advanced F v)
      stays = record {
        low = sits.low;
        deep = sits.deep;
        owed = sits.owed;
        kept = λ h. v_there (omega arith);
        lets = λ h z. first_let z (omega (arith, two_stages));
        bound = old_bound;
      }

      enters : Sits es T u root bs' (length (advanced F v ∷ fs)) (opened x d)
      enters = record {
        low = omega (arith, x_low, sits.low);
        deep = omega (arith, d_near, sits.deep);
        owed = ap (deeper_of E F.stage) sits.owed ∙ sym (depth_down m t T₀ es wk F.number here F.stage two_stages more);
        kept = λ h. let y : ⊥ = omega arith in absurd y;
        lets = λ h. let y : ⊥ = omega arith in absurd y;
        bound = new_bound;
      }

      push_fits : Fits m t es T u v bs' fs'
      push_fits = record {
        binders = length-set bs F.depth y ∙ f.binders;
        since = f.since;
        ground = f.ground;
        sit = (omega (arith, d_near, sits.deep, room), enters, (d_near.0, stays, sit_bound es T u root bs F.depth y F.depth fs (omega arith) f.sit.2));
        seen = λ h. let y : ⊥ = omega arith in absurd y;
      }

no_told : {F : Type 0} (b : Bool) (f c : F) → Err c ≡ asks b f → (b ≡ false) × (c ≡ f)
no_told true f c h = (cc, cc)
no_told false f c h = (refl, cc)

-- where a walk stands: what the frames leave to do gives the answer, and there is room for the types that they make
pub record Stands (m : Meaning) (α : System) (t : ℕ) (T₀ es T : List Entry) (u v : ℕ) (bs : List ℕ) (fs : List Frame) : Type 0 where
  pub lawful : Lawful m
  pub walkable : Walkable m t T₀ es
  pub long : length T ≡ length T₀
  pub fits : Fits m t es T u v bs fs
  pub room : u + pend_sum m α t es 0 fs ≤ t + length es
  pub leads : pend m α t es bs fs (going T u v) ≡ walk_of m α t es (length es - 1) [] T₀ t

pub begins : (m : Meaning) (L : Lawful m) (α : System) (t : ℕ) (T₀ es : List Entry) → Walkable m t T₀ es → (bs : List ℕ) → length bs ≡ 1024 → (F : Frame) → F ≡ opened (length es - 1) 0 → (xs zs : List Frame) → xs ≡ [] → zs ≡ xs ++ F ∷ [] → Stands m α t T₀ es T₀ t 0 bs (stack zs)
begins m L α t T₀ es wk bs l F q xs zs o p =
    subst (Stands m α t T₀ es T₀ t 0 bs) (sym (pushed xs (F ∷ []) zs p ∙ (ap (λ (z : List Frame). F ∷ stack z) o ∙ ap (λ (H : Frame). H ∷ []) q)))
    (record { lawful = L; walkable = wk; long = refl; fits = start_fits m L α t T₀ es wk bs l; room = omega (arith, start_sum m L α t T₀ es wk); leads = start_pend m L α t T₀ es wk bs })

pub popped_stands : {m : Meaning} {α : System} {t : ℕ} {T₀ es T : List Entry} {u v : ℕ} {bs : List ℕ} (F : Frame) (xs zs : List Frame) → zs ≡ xs ++ option_to_list (Some F) → Stands m α t T₀ es T u v bs (stack zs) → Stands m α t T₀ es T u v bs (F ∷ stack xs)
popped_stands {m} {α} {t} {T₀} {es} {T} {u} {v} {bs} F xs zs q w = subst (Stands m α t T₀ es T u v bs) (popped F xs zs q) w

-- the frame on top
module _ {m : Meaning} {α : System} {t : ℕ} {T₀ es T : List Entry} {u v : ℕ} {bs : List ℕ} {F : Frame} {fs : List Frame} (w : Stands m α t T₀ es T u v bs (F ∷ fs)) where
  abbrev L : Lawful m
  L = w.lawful

  abbrev wk : Walkable m t T₀ es
  wk = w.walkable

  abbrev answer : Walked
  answer = walk_of m α t es (length es - 1) [] T₀ t

  abbrev top : Entry
  top = at es F.number

  pub there : F.number < length es
  there = here m L α t T₀ es wk T u v bs F fs w.fits

  pub owns : Placed m.role t F.number top
  owns = placed m L α t T₀ es wk T u v bs F fs w.fits

  free : u < length T
  free = omega (arith, w.long, w.room, wk.room)

  pub types_long : u ≤ length T
  types_long = omega (arith, free)

  pub types_few : u ≤ 2048
  types_few = omega (arith, w.room, wk.small, wk.few)

  pub types_ground : Grounded m.role T u
  types_ground = w.fits.ground

  pub found_there : 0 < F.stage → v < length T
  found_there h = omega (arith, free, w.fits.seen h)

  pub deep : F.depth < 1024
  deep = omega (arith, w.fits.sit.1.deep, w.fits.sit.1.low, wk.few, wk.some)

  pub top_ready : names top.tag ≤ F.stage → Ready m T u top F.first v
  top_ready h = ready m L α t T₀ es wk T u v bs F fs w.fits h

  pub top_bound : top.tag ≡ 17 → top.first < F.depth
  top_bound h = variable_bound m L α t T₀ es wk T u v bs F fs w.fits h

  pub binders_long : length bs ≡ 1024
  binders_long = w.fits.binders

  -- an operand is refused
  pub refused : (b : Bool) (c : TypingFault) → F.stage < names top.tag → b ≡ enters_of T top F.stage v → Err c ≡ asks b (NoComputation (t + F.number)) → stopped T c ≡ answer
  refused b c h en q =
      let n = no_told b (NoComputation (t + F.number)) c q in
      ap (stopped T) n.1 ∙ (sym (stop_pend m L α t T₀ es wk T u v bs F fs w.fits h (sym en ∙ n.0)) ∙ w.leads)

  -- an operand is entered
  module _ (y : ℕ) (more : F.stage < names top.tag) (en : enters_of T top F.stage v ≡ true) (ye : y ≡ binder_of α T top F.stage v) (A B : Frame) (ae : A ≡ advanced F v) (be : B ≡ opened (operand_of top F.stage) (deeper_of top F.stage F.depth)) where
    pub two_more : (n : ℕ) → length fs ≡ n → n + 2 ≤ 1024
    two_more n q = omega (arith, room m L α t T₀ es wk T u v bs F fs w.fits y more en ye)

    sum_more : (p : ℕ) → p + pend_sum m α t es p (B ∷ A ∷ fs) ≡ pend_sum m α t es p (F ∷ fs)
    sum_more p = ap₂ (λ (a b : Frame). p + pend_sum m α t es p (b ∷ a ∷ fs)) ae be ∙ push_sum m L α t T₀ es wk T u v bs F fs w.fits y more en ye p

    stands : Stands m α t T₀ es T u v (set bs F.depth y) (B ∷ A ∷ fs)
    stands = record {
      lawful = L;
      walkable = wk;
      long = w.long;
      fits = subst₂ (λ (a b : Frame). Fits m t es T u v (set bs F.depth y) (b ∷ a ∷ fs)) (sym ae) (sym be) (push_fits m L α t T₀ es wk T u v bs F fs w.fits y more en ye);
      room = omega (arith, sum_more 0, w.room);
      leads = ap₂ (λ (a b : Frame). pend m α t es (set bs F.depth y) (b ∷ a ∷ fs) (going T u v)) ae be ∙ (push_pend m L α t T₀ es wk T u v bs F fs w.fits y more en ye ∙ w.leads);
    }

    pub entered : (xs ys zs : List Frame) → fs ≡ stack xs → ys ≡ xs ++ A ∷ [] → zs ≡ ys ++ B ∷ [] → Stands m α t T₀ es T u v (set bs F.depth y) (stack zs)
    entered xs ys zs o p q = subst (Stands m α t T₀ es T u v (set bs F.depth y)) (sym (pushed_two A B xs ys zs p q ∙ ap (λ z. B ∷ A ∷ z) (sym o))) stands

    pub entered_less : (xs ys zs ws : List Frame) → fs ≡ stack xs → ys ≡ xs ++ A ∷ [] → zs ≡ ys ++ B ∷ [] → stack ws ≡ F ∷ fs → pend_sum m α t es 1 (stack zs) < pend_sum m α t es 1 (stack ws)
    entered_less xs ys zs ws o p q r =
        subst₂ (λ (a b : List Frame). pend_sum m α t es 1 a < pend_sum m α t es 1 b) (sym (pushed_two A B xs ys zs p q ∙ ap (λ z. B ∷ A ∷ z) (sym o))) (sym r)
        (omega (arith, sum_more 1))

  -- a term is finished
  module _ (b : ℕ) (J : Judged) (be : b ≡ bound_of (env bs F.depth) top) (Je : J ≡ judge_of m α (t + F.number) T top F.first v b) (h : names top.tag ≤ F.stage) where
    finish : pend m α t es bs fs (settled J T u) ≡ answer
    finish = finish_pend m L α t T₀ es wk T u v bs F fs w.fits b J be Je h ∙ w.leads

    goods : Good m.role u J
    goods = finish_good m L α t T₀ es wk T u v bs F fs w.fits b J be Je h

    pub failed : (c : TypingFault) → J ≡ Err c → stopped T c ≡ answer
    failed c q = sym (ap (λ (j : Judged). pend m α t es bs fs (settled j T u)) q ∙ pend_stopped m α t es bs fs T c) ∙ finish

    pub known_stands : (x : ℕ) → J ≡ known x → Stands m α t T₀ es T u x bs fs
    known_stands x q = record {
      lawful = L;
      walkable = wk;
      long = w.long;
      fits = pop_same m L α t T₀ es wk T u v bs F fs w.fits x (subst (Good m.role u) q goods);
      room = omega (arith, w.room);
      leads = ap (λ (j : Judged). pend m α t es bs fs (settled j T u)) (sym q) ∙ finish;
    }

    pub fresh_stands : (x : Entry) → J ≡ fresh x → Stands m α t T₀ es (set T u x) (u + 1) u bs fs
    fresh_stands x q = record {
      lawful = L;
      walkable = wk;
      long = length-set T u x ∙ w.long;
      fits = pop_fresh m L α t T₀ es wk T u v bs F fs w.fits x (subst (Good m.role u) q goods) free;
      room = omega (arith, w.room);
      leads = ap (λ (j : Judged). pend m α t es bs fs (settled j T u)) (sym q) ∙ finish;
    }
