-- Entries that a step appends pass as those before them did. Assumes nothing.
use Rattle.std.proofs.Common.{◌≡◌, ℕ, zero, suc, ◌+◌, ◌<◌, ◌≤◌, Bool, true, false, cond, ◌&&◌, ◌||◌, eqb, ltb, ◌⊎◌, List, [], ◌∷◌, ◌++◌, length, get_or, take, Some, sym, refl, ap, ◌∙◌, subst, inl, inr, ⊎_elim, true≢false, append_assoc, arith, length-append}
use Rattle.std.proofs.lemmas.List.{length_push}
use Rattle.std.proofs.lemmas.Bool.{and_parts, and_from, lt-ltb}
use Rattle.roles.specs.Meaning.{Meaning}
use Rattle.tables.specs.declared.entry.Entry.{Entry}
use Rattle.tables.specs.Entries.{term_tag, role_fits}
use Rattle.machine.specs.Labelled.{constants, variables, One, abstracts, fixes, guards, checks, units, raises, restricts, Two, applies, lets, head, entry_one, entry_two, Tree, stray, leaf, one, two, trees, tree, inside, beside}
use Rattle.machine.specs.Plans.{Plan, old, new_one, new_two, Written, write, free, replace, Met, ready, makes, refused, misfit, step}
use Rattle.machine.specs.Theorems.{rooted, Lower, Closed}
use Rattle.machine.specs.Turns.{State, turned, moved, room, pushed, once, walk}
use Rattle.machine.proofs.Growing.{append-nil, length_trees, HeldPlan, closed_whole, trees_held}
use Rattle.machine.proofs.Stable.{Stable, MetBy, step_stable}
use Rattle.machine.proofs.Keeping.{step_held}
use Rattle.machine.proofs.Walking.{some_of, none_of, cond_some, after_some}
use Rattle.machine.proofs.Agreeing.{turns_close_lem}
use Rattle.runs.specs.Reach.{no_entry, Tagged, Ground}
use Rattle.runs.specs.Usable.{plain_operands, passes, all_pass}
use Rattle.runs.proofs.Tags.{by_tag, tree_at, below_all}
use Rattle.runs.proofs.Grounding.{LowPlan, low_up, snoc_all, held_low}
use Rattle.runs.proofs.Using.{Passed, ground_by, open_past}

module _ (role : ℕ → Bool) where
  -- the role codes in a tree are roles
  abbrev CodedOne : One → Type 0
  CodedOne (abstracts c₁ c₂) = Unit {0}
  CodedOne fixes = Unit {0}
  CodedOne (guards a) = role a ≡ true
  CodedOne checks = Unit {0}
  CodedOne units = Unit {0}
  CodedOne (raises a) = role a ≡ true
  CodedOne (restricts a) = role a ≡ true

  abbrev Coded : Tree → Type 0
  Coded stray = Unit {0}
  Coded (leaf i h) = Unit {0}
  Coded (one i h t) = CodedOne h × Coded t
  Coded (two i h t u) = Coded t × Coded u

  abbrev CodedPlan : Plan → Type 0
  CodedPlan (old t) = Coded t
  CodedPlan (new_one h p) = CodedOne h × CodedPlan p
  CodedPlan (new_two h p q) = CodedPlan p × CodedPlan q

  cond_coded : (b : Bool) (p q : Plan) → CodedPlan p → CodedPlan q → CodedPlan (cond b p q)
  cond_coded true p q h k = h
  cond_coded false p q h k = k

  replace_coded : (d : ℕ) (n t : Tree) → Coded n → Coded t → CodedPlan (replace d n t)
  replace_coded d n stray k h = h
  replace_coded d n (leaf i (constants a p)) k h = h
  replace_coded d n (leaf i (variables a)) k h = cond_coded (eqb a d) (old n) (old (leaf i (variables a))) k h
  replace_coded d n (one i x t) k h =
      cond_coded (free (inside x d) t) (new_one x (replace (inside x d) n t)) (old (one i x t)) (h.0, replace_coded (inside x d) n t k h.1) h
  replace_coded d n (two i x t u) k h =
      cond_coded (free d t || free (beside x d) u) (new_two x (replace d n t) (replace (beside x d) n u)) (old (two i x t u))
      (replace_coded d n t k h.0, replace_coded (beside x d) n u k h.1) h

  stable : Stable Coded Coded CodedPlan
  stable = record {
    whole = λ t h. h;
    body = λ i c₁ c₂ t h. h.1;
    inner = λ i x t w h. h.1;
    left = λ i x t u h. h.0;
    right = λ i t u h. h.1;
    scope = λ i t u h. h.1;
    placed = λ n t h k. replace_coded 0 n t h k;
    unit_new = λ t h. (tt, h);
    one_new = λ i x t p w h q. (h.0, q);
    two_new = λ i x t u p h q. (q, h.1);
  }

  -- every entry of the list passes
  abbrev pub Passing : List Entry → Type 0
  Passing us = Passed role us (length us)

  ground : (us : List Entry) → Passing us → Ground us
  ground us h =
      let e : take (length us) us ≡ us = all us in
      subst Ground e (ground_by role us (length us) (omega arith) h)
    where
      all : (xs : List Entry) → take (length xs) xs ≡ xs
      all [] = refl
      all (x ∷ xs) = ap (λ (z : List Entry). x ∷ z) (all xs)

  module _ (us : List Entry) (P : Passing us) where
    code_of : (k : ℕ) → k < length us → role_fits role (get_or us k no_entry) ≡ true
    code_of k l = (and_parts (term_tag (get_or us k no_entry).tag && plain_operands (get_or us k no_entry) k) (role_fits role (get_or us k no_entry)) (P k l)).1

    lower_coded : (i : ℕ) (e : Entry) → Tagged e → Lower i e (head e) → role_fits role e ≡ true → ((k : ℕ) → k < i → Coded (tree us k)) → Coded (rooted i (tree us e.first) (tree us e.second) (head e))
    lower_coded i e g =
        by_tag (λ x. Lower i x (head x) → role_fits role x ≡ true → ((k : ℕ) → k < i → Coded (tree us k)) → Coded (rooted i (tree us x.first) (tree us x.second) (head x)))
        (λ f s c l h b. tt) (λ f s c l h b. tt) (λ f s c l h b. (tt, b f l)) (λ f s c l h b. (b f l.0, b s l.1)) (λ f s c l h b. (tt, b f l)) (λ f s c l h b. (h, b f l))
        (λ f s c l h b. (tt, b f l)) (λ f s c l h b. (tt, b f l)) (λ f s c l h b. (b f l.0, b s l.1)) (λ f s c l h b. (h, b f l)) (λ f s c l h b. (h, b f l)) e g

    coded_below : (k : ℕ) → k < length us → Coded (tree us k)
    coded_below =
        let G = ground us P in
        below_all (λ k. Coded (tree us k)) (length us)
        (λ i q b. subst Coded (sym (tree_at us i (get_or us i no_entry) G q refl)) (lower_coded i (get_or us i no_entry) (G.tagged i q) (G.lowered i q) (code_of i q) b))

  -- new entries pass
  new_one_passes : (n j : ℕ) (h : One) → j < n → CodedOne h → passes role (entry_one h j) n ≡ true
  new_one_passes n j (abstracts c₁ c₂) l k = ap (λ (b : Bool). b && true) (lt-ltb j n l)
  new_one_passes n j fixes l k = ap (λ (b : Bool). b && true && true && true) (lt-ltb j n l)
  new_one_passes n j (guards a) l k = and_from (ltb j n && true && true) (role a) (ap (λ (b : Bool). b && true && true) (lt-ltb j n l)) k
  new_one_passes n j checks l k = ap (λ (b : Bool). b && true && true && true) (lt-ltb j n l)
  new_one_passes n j units l k = ap (λ (b : Bool). b && true && true && true) (lt-ltb j n l)
  new_one_passes n j (raises a) l k = and_from (ltb j n && true && true) (role a) (ap (λ (b : Bool). b && true && true) (lt-ltb j n l)) k
  new_one_passes n j (restricts a) l k = and_from (ltb j n && true && true) (role a) (ap (λ (b : Bool). b && true && true) (lt-ltb j n l)) k

  both : (n i j : ℕ) → i < n → j < n → (ltb i n && ltb j n) ≡ true
  both n i j k l = and_from (ltb i n) (ltb j n) (lt-ltb i n k) (lt-ltb j n l)

  new_two_passes : (n i j : ℕ) (h : Two) → i < n → j < n → passes role (entry_two h i j) n ≡ true
  new_two_passes n i j applies k l = ap (λ (b : Bool). b && true && true) (both n i j k l)
  new_two_passes n i j lets k l = ap (λ (b : Bool). b && true && true) (both n i j k l)

  snoc_passes : (us xs : List Entry) (x : Entry) → Passing (us ++ xs) → passes role x (length (us ++ xs)) ≡ true → Passing (us ++ (xs ++ (x ∷ [])))
  snoc_passes us xs x P h =
      subst Passing (append_assoc us xs (x ∷ [])) (snoc_all (λ k y. passes role y k ≡ true) (us ++ xs) x P h)

  write_passes : (us : List Entry) (p : Plan) → Passing us → LowPlan (length us) p → CodedPlan p → Passing (us ++ (write (length us) p).entries) × ((write (length us) p).place < length us + length (write (length us) p).entries)
  write_passes us (old t) P l c = (subst Passing (sym (append-nil us)) P, omega arith)
  write_passes us (new_one h p) P l c =
      let w : Written = write (length us) p in
      let i = write_passes us p P l c.1 in
      let n = length-append us w.entries in
      let k = length_push w.entries (entry_one h w.place) in
      (snoc_passes us w.entries (entry_one h w.place) i.0 (new_one_passes (length (us ++ w.entries)) w.place h (omega (arith, i.1)) c.0), omega arith)
  write_passes us (new_two h p q) P l c =
      let b : ℕ = length us in
      let w : Written = write b p in
      let d : ℕ = b + length w.entries in
      let v : Written = write d q in
      let i = write_passes us p P l.0 c.0 in
      let n : length (us ++ w.entries) ≡ d = length-append us w.entries in
      let F : ℕ → Type 0 = λ y. Passing ((us ++ w.entries) ++ (write y q).entries) × ((write y q).place < length (us ++ w.entries) + length (write y q).entries) in
      let j : F d = subst F n (write_passes (us ++ w.entries) q i.0 (low_up b (length (us ++ w.entries)) q (omega arith) l.1) c.1) in
      let xs : List Entry = w.entries ++ v.entries in
      let x : Entry = entry_two h w.place v.place in
      let P₂ : Passing (us ++ xs) = subst Passing (append_assoc us w.entries v.entries) j.0 in
      let m = length-append us xs in
      let o = length-append w.entries v.entries in
      let k = length_push xs x in
      (snoc_passes us xs x P₂ (new_two_passes (length (us ++ xs)) w.place v.place h (omega (arith, i.1)) (omega (arith, j.1))), omega arith)

  -- a state that can go on
  abbrev pub Fine : State → Type 0
  Fine s = Passing s.used × Closed s

  present : (s : State) → Fine s → s.current < length s.used
  present s F =
      ⊎_elim (λ h. h) (λ h. absurd (true≢false (sym F.1 ∙ open_past s.used (ground s.used F.0) s.current (omega arith)))) (less s.current (length s.used))
    where
      less : (a b : ℕ) → (a < b) ⊎ (a < b → ⊥)
      less a zero = inr (λ h. omega arith)
      less zero (suc b) = inl (omega arith)
      less (suc a) (suc b) = ⊎_elim (λ h. inl (omega arith)) (λ h. inr (λ k. h (omega arith))) (less a b)

  module _ (m : Meaning) (r places : ℕ) where
    once_by : (s s' : State) (o : Met) → step m r (tree s.used s.current) ≡ o → Fine s → pushed places s (turned (length s.used) o) ≡ Some s' → Fine s'
    once_by s s' ready e F k = absurd (none_of k)
    once_by s s' (makes p) e F k =
        let t = tree s.used s.current in
        let w = write (length s.used) p in
        let c = cond_some (room places s w.entries) (moved s w.entries w.place) s' k in
        let held : HeldPlan (trees s.used) p = subst (MetBy (HeldPlan (trees s.used))) e (step_held (trees s.used) m r t (trees_held s.used s.current (closed_whole 0 t F.1))) in
        let low : LowPlan (length s.used) p = subst (λ (n : ℕ). LowPlan n p) (length_trees s.used) (held_low (trees s.used) p held) in
        let coded : CodedPlan p = subst (MetBy CodedPlan) e (step_stable Coded Coded CodedPlan stable m r t (coded_below s.used F.0 s.current (present s F))) in
        subst Fine c.1 ((write_passes s.used p F.0 low coded).0, turns_close_lem m r s w.entries w.place F.1 (ap (turned (length s.used)) e))
    once_by s s' (refused i a x) e F k = absurd (none_of k)
    once_by s s' (misfit i) e F k = absurd (none_of k)

    pub walk_fine : (k : ℕ) (s s' : State) → Fine s → walk m r places k s ≡ Some s' → Fine s'
    unfolding walk
    walk_fine zero s s' F e = subst Fine (some_of e) F
    walk_fine (suc k) s s' F e =
        let a = after_some m r places (once m r places s) (λ x. walk m r places k x) s' e in
        walk_fine k a.0 s' (once_by s a.0 (step m r (tree s.used s.current)) refl F a.1) a.2

  -- entries that pass are answered with yes
  pub all_by : (es : List Entry) (k i : ℕ) → ((j : ℕ) → i ≤ j → j < i + k → passes role (get_or es j no_entry) j ≡ true) → all_pass role es k i ≡ true
  all_by es zero i h = refl
  all_by es (suc k) i h = and_from (passes role (get_or es i no_entry) i) (all_pass role es k (i + 1)) (h i (omega arith) (omega arith)) (all_by es k (i + 1) (λ j a b. h j (omega arith) (omega arith)))
