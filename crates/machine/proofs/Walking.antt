-- Walks on lists: each step that is made is one of the calculus, and a greater role makes the same. Assumes nothing.
use Rattle.std.proofs.Common.{◌≡◌, ℕ, zero, suc, ◌+◌, ◌<◌, ◌≤◌, Bool, true, false, cond, ◌⊎◌, List, [], ◌++◌, length, get_or, Some, None, Option, sym, refl, ap, ◌∙◌, subst, inl, inr, append_assoc, suc-add, zero-add, arith, length-append, leb-true}
use Rattle.roles.specs.Meaning.{Meaning, Lawful}
use Rattle.calculus.specs.Syntax.{Ty}
use Rattle.calculus.specs.Steps as calc
use Rattle.calculus.specs.Steps.{Value, Step, Steps, no_step, IsRoleFault, IsShapeFault}
use Rattle.calculus.specs.Next as calculus
use Rattle.calculus.specs.Next.{Outcome, value, goes_to, next}
use Rattle.calculus.proofs.Outcomes.{next_decides_lem}
use Rattle.tables.specs.declared.entry.Entry.{Entry}
use Rattle.machine.specs.Labelled.{Tree, stray, trees, tree, erase}
use Rattle.machine.specs.Plans.{Plan, write, Met, ready, makes, refused, misfit, step}
use Rattle.machine.specs.Turns.{State, Turn, rests, moves, role_fault, shape_fault, turned, turn, moved, Advanced, idle, one_more, room, push, advance, pushed, once, after, walk, term, Agrees, added_to}
use Rattle.machine.specs.declared.condition.Condition.{Condition}
use Rattle.machine.specs.declared.condition.Condition.TheVariants.{Going, Finished, RoleFault, ShapeFault, TableFull}
use Rattle.machine.proofs.Growing.{append-nil, Held, HeldPlan, grow_append, length_trees, held_at, lay, lay_meant, meant, Fits, grows}
use Rattle.machine.proofs.Erasing.{said, step_said}
use Rattle.machine.proofs.Keeping.{step_held, Kept, step_kept}
use Rattle.machine.proofs.Stable.{MetBy}

-- the current tree and its parts stand in the table
abbrev pub Sound : State → Type 0
Sound s = Held (trees s.used) (tree s.used s.current)

-- a plan over held trees, written: the new current tree is what is laid, and held
module _ (es : List Entry) (p : Plan) (h : HeldPlan (trees es) p) where
  laid : Fits (trees es) (write (length es) p) (lay (length (trees es)) p)
  laid = subst (λ (n : ℕ). Fits (trees es) (write n p) (lay (length (trees es)) p)) (length_trees es) (grows (trees es) p h)

  all_trees : trees (es ++ (write (length es) p).entries) ≡ trees es ++ (lay (length (trees es)) p).fresh
  all_trees = grow_append [] es (write (length es) p).entries ∙ laid.grown

  pub planted_at : tree (es ++ (write (length es) p).entries) (write (length es) p).place ≡ (lay (length (trees es)) p).whole
  planted_at =
      let l = lay (length (trees es)) p in
      ap (λ (x : List Tree). get_or x (write (length es) p).place stray) all_trees
      ∙ ap (λ (n : ℕ). get_or (trees es ++ l.fresh) n stray) laid.placed
      ∙ held_at (trees es ++ l.fresh) l.whole laid.held

  pub planted_held : Held (trees (es ++ (write (length es) p).entries)) (tree (es ++ (write (length es) p).entries) (write (length es) p).place)
  planted_held =
      subst (λ (t : Tree). Held (trees (es ++ (write (length es) p).entries)) t) (sym planted_at)
      (subst (λ (x : List Tree). Held x (lay (length (trees es)) p).whole) (sym all_trees) laid.held)

planned : (claim : ℕ → Ty) (es : List Entry) (p : Plan) → HeldPlan (trees es) p →
    Held (trees (es ++ (write (length es) p).entries)) (tree (es ++ (write (length es) p).entries) (write (length es) p).place)
    × (erase claim (tree (es ++ (write (length es) p).entries) (write (length es) p).place) ≡ meant claim p)
planned claim es p h = (planted_held es p h, ap (erase claim) (planted_at es p h) ∙ lay_meant claim (length (trees es)) p)

pub some_of : {A : Type 0} {x y : A} → Some x ≡ Some y → x ≡ y
some_of e = cc

pub none_of : {A : Type 0} {x : A} → None ≡ Some x → ⊥
none_of {A} {x} e = let z : ◌≡◌ {A = ℕ} 0 1 = cc in omega arith

-- a test passed
pub cond_some : {A : Type 0} (b : Bool) (x y : A) → cond b (Some x) None ≡ Some y → (b ≡ true) × (x ≡ y)
cond_some true x y e = (refl, some_of e)
cond_some false x y e = absurd (none_of e)

module _ (m : Meaning) (r cap : ℕ) where
  once_by : (claim : ℕ → Ty) (s s' : State) (o : Met) → step m r (tree s.used s.current) ≡ o → Sound s → pushed cap s (turned (length s.used) o) ≡ Some s' →
      Step m r (term claim s) (term claim s') × Sound s'
  once_by claim s s' ready e h k = absurd (none_of k)
  once_by claim s s' (makes p) e h k =
      let w = write (length s.used) p in
      let c = cond_some (room cap s w.entries) (moved s w.entries w.place) s' k in
      let held : HeldPlan (trees s.used) p = subst (MetBy (HeldPlan (trees s.used))) e (step_held (trees s.used) m r (tree s.used s.current) h) in
      let g = planned claim s.used p held in
      let n : next m r (term claim s) ≡ goes_to (meant claim p) = sym (step_said claim m r (tree s.used s.current)) ∙ ap (said claim) e in
      let q : Step m r (term claim s) (meant claim p) = (next_decides_lem m r (term claim s) (goes_to (meant claim p))).0 n in
      (subst (λ (x : State). Step m r (term claim s) (term claim x)) c.1 (subst (Step m r (term claim s)) (sym g.1) q), subst Sound c.1 g.0)
  once_by claim s s' (refused i a x) e h k = absurd (none_of k)
  once_by claim s s' (misfit i) e h k = absurd (none_of k)

  -- a step of the machine is a step of the calculus, and what stands in the table still does
  pub once_step : (claim : ℕ → Ty) (s s' : State) → Sound s → once m r cap s ≡ Some s' → Step m r (term claim s) (term claim s') × Sound s'
  once_step claim s s' h k = once_by claim s s' (step m r (tree s.used s.current)) refl h k

  turn_by : (claim : ℕ → Ty) (s : State) (o : Met) → step m r (tree s.used s.current) ≡ o → Sound s → Agrees m r claim s (turned (length s.used) o)
  turn_by claim s ready e h = let n = sym (step_said claim m r (tree s.used s.current)) ∙ ap (said claim) e in (next_decides_lem m r (term claim s) value).0 n
  turn_by claim s (makes p) e h =
      let held : HeldPlan (trees s.used) p = subst (MetBy (HeldPlan (trees s.used))) e (step_held (trees s.used) m r (tree s.used s.current) h) in
      let g = planned claim s.used p held in
      let n : next m r (term claim s) ≡ goes_to (meant claim p) = sym (step_said claim m r (tree s.used s.current)) ∙ ap (said claim) e in
      subst (Step m r (term claim s)) (sym g.1) ((next_decides_lem m r (term claim s) (goes_to (meant claim p))).0 n)
  turn_by claim s (refused i a x) e h = let n = sym (step_said claim m r (tree s.used s.current)) ∙ ap (said claim) e in (next_decides_lem m r (term claim s) calculus.role_fault).0 n
  turn_by claim s (misfit i) e h = let n = sym (step_said claim m r (tree s.used s.current)) ∙ ap (said claim) e in (next_decides_lem m r (term claim s) calculus.shape_fault).0 n

  -- a turn is what the calculus says of the current term
  pub turn_agrees : (claim : ℕ → Ty) (s : State) → Sound s → Agrees m r claim s (turn m r s)
  turn_agrees claim s h = turn_by claim s (step m r (tree s.used s.current)) refl h

  pub after_some : (x : Option State) (f : State → Option State) (s' : State) → after x f ≡ Some s' → (t : State) × (x ≡ Some t) × (f t ≡ Some s')
  after_some None f s' e = absurd (none_of e)
  after_some (Some t) f s' e = (t, refl, e)

  pub walk_steps : (claim : ℕ → Ty) (k : ℕ) (s s' : State) → Sound s → walk m r cap k s ≡ Some s' → Steps m r k (term claim s) (term claim s') × Sound s'
  unfolding walk
  walk_steps claim zero s s' h e = let i = some_of e in (subst (λ (x : State). Steps m r zero (term claim s) (term claim x)) i no_step, subst Sound i h)
  walk_steps claim (suc k) s s' h e =
      let a = after_some (once m r cap s) (λ x. walk m r cap k x) s' e in
      let o = once_step claim s a.0 h a.1 in
      let i = walk_steps claim k a.0 s' o.1 a.2 in
      (calc.one_more o.0 i.0, i.1)

  pub walk_add : (j k : ℕ) (s : State) → walk m r cap (j + k) s ≡ after (walk m r cap j s) (λ x. walk m r cap k x)
  unfolding walk
  walk_add zero k s = ap (λ n. walk m r cap n s) (zero-add k)
  walk_add (suc j) k s = ap (λ n. walk m r cap n s) (suc-add j k) ∙ go (once m r cap s) (λ x. walk_add j k x)
    where
      go : (x : Option State) → ((t : State) → walk m r cap (j + k) t ≡ after (walk m r cap j t) (λ x. walk m r cap k x)) →
          after x (λ t. walk m r cap (j + k) t) ≡ after (after x (λ t. walk m r cap j t)) (λ t. walk m r cap k t)
      go None h = refl
      go (Some t) h = h t

-- the same turn, if it is a value or a step
abbrev pub KeptTurn : Turn → Turn → Type 0
KeptTurn rests v = v ≡ rests
KeptTurn (moves new c) v = v ≡ moves new c
KeptTurn (role_fault i a r) v = Unit {0}
KeptTurn (shape_fault i) v = Unit {0}

turned_kept : (b : ℕ) (o v : Met) → Kept o v → KeptTurn (turned b o) (turned b v)
turned_kept b ready v h = ap (turned b) h
turned_kept b (makes p) v h = ap (turned b) h
turned_kept b (refused i a r) v h = tt
turned_kept b (misfit i) v h = tt

pushed_kept : (cap : ℕ) (s s' : State) (x y : Turn) → KeptTurn x y → pushed cap s x ≡ Some s' → pushed cap s y ≡ Some s'
pushed_kept cap s s' rests y h e = absurd (none_of e)
pushed_kept cap s s' (moves new c) y h e = ap (pushed cap s) h ∙ e
pushed_kept cap s s' (role_fault i a r) y h e = absurd (none_of e)
pushed_kept cap s s' (shape_fault i) y h e = absurd (none_of e)

module _ (m : Meaning) (L : Lawful m) (r q cap : ℕ) (d : m.dom q r ≡ true) where
  pub turn_kept : (s : State) → KeptTurn (turn m r s) (turn m q s)
  turn_kept s = turned_kept (length s.used) (step m r (tree s.used s.current)) (step m q (tree s.used s.current)) (step_kept m L r q (tree s.used s.current) d)

  pub once_kept : (s s' : State) → once m r cap s ≡ Some s' → once m q cap s ≡ Some s'
  once_kept s s' e = pushed_kept cap s s' (turn m r s) (turn m q s) (turn_kept s) e

  -- a greater role walks the same way
  pub walk_kept : (k : ℕ) (s s' : State) → walk m r cap k s ≡ Some s' → walk m q cap k s ≡ Some s'
  unfolding walk
  walk_kept zero s s' e = e
  walk_kept (suc k) s s' e =
      let a = after_some m r cap (once m r cap s) (λ x. walk m r cap k x) s' e in
      ap (λ x. after x (λ t. walk m q cap k t)) (once_kept s a.0 a.1) ∙ walk_kept k a.0 s' a.2

-- what an advance from s with the budget k tells
abbrev pub Told : Meaning → ℕ → ℕ → ℕ → ℕ → State → Condition → Type 0
Told m r cap k made s Going = (made ≡ k) × ((new : List Entry) × (c : ℕ) × (turn m r s ≡ moves new c))
Told m r cap k made s Finished = turn m r s ≡ rests
Told m r cap k made s (RoleFault i a x) = turn m r s ≡ role_fault i a x
Told m r cap k made s (ShapeFault i) = turn m r s ≡ shape_fault i
Told m r cap k made s TableFull = (made < k) × ((new : List Entry) × (c : ℕ) × (turn m r s ≡ moves new c) × (room cap s new ≡ false))

pub record Tells (m : Meaning) (r cap k : ℕ) (s : State) (a : Advanced) : Type 0 where
  pub walked : walk m r cap a.made s ≡ Some a.state
  pub within : a.made ≤ k
  pub spent : (a.made ≡ k) ⊎ (once m r cap a.state ≡ None)
  pub told : Told m r cap k a.made a.state a.condition

module _ (m : Meaning) (r cap : ℕ) where
  idle_tells : (s : State) (x : Turn) → turn m r s ≡ x → Tells m r cap 0 s (idle s x)
  unfolding walk
  idle_tells s rests e = record { walked = refl; within = omega arith; spent = inl refl; told = e }
  idle_tells s (moves new c) e = record { walked = refl; within = omega arith; spent = inl refl; told = (refl, (new, c, e)) }
  idle_tells s (role_fault i a x) e = record { walked = refl; within = omega arith; spent = inl refl; told = e }
  idle_tells s (shape_fault i) e = record { walked = refl; within = omega arith; spent = inl refl; told = e }

  more_told : (k made : ℕ) (s : State) (c : Condition) → Told m r cap k made s c → Told m r cap (suc k) (suc made) s c
  more_told k made s Going h = (ap suc h.0, h.1)
  more_told k made s Finished h = h
  more_told k made s (RoleFault i a x) h = h
  more_told k made s (ShapeFault i) h = h
  more_told k made s TableFull h = (omega arith, h.1)

  more_spent : (k made : ℕ) (o : Option State) → (made ≡ k) ⊎ (o ≡ None) → (suc made ≡ suc k) ⊎ (o ≡ None)
  more_spent k made o (inl e) = inl (ap suc e)
  more_spent k made o (inr e) = inr e

  cond_tells : (k : ℕ) (s : State) (new : List Entry) (c : ℕ) (b : Bool) (f : Advanced) → turn m r s ≡ moves new c → room cap s new ≡ b → Tells m r cap k (moved s new c) f →
      Tells m r cap (suc k) s (cond b (one_more f) (record { made = 0; state = s; condition = TableFull }))
  unfolding walk
  cond_tells k s new c true f e h g =
      let o : once m r cap s ≡ Some (moved s new c) = ap (pushed cap s) e ∙ ap (λ b. cond b (Some (moved s new c)) None) h in
      record {
        walked = ap (λ x. after x (λ t. walk m r cap f.made t)) o ∙ g.walked;
        within = omega (arith, g.within);
        spent = more_spent k f.made (once m r cap f.state) g.spent;
        told = more_told k f.made f.state f.condition g.told;
      }
  cond_tells k s new c false f e h g =
      record {
        walked = refl;
        within = omega arith;
        spent = inr (ap (pushed cap s) e ∙ ap (λ b. cond b (Some (moved s new c)) None) h);
        told = (omega arith, (new, c, e, h));
      }

  push_tells : (k : ℕ) (s : State) (x : Turn) (f : State → Advanced) → turn m r s ≡ x → ((t : State) → Tells m r cap k t (f t)) → Tells m r cap (suc k) s (push cap s x f)
  unfolding walk
  push_tells k s rests f e h = record { walked = refl; within = omega arith; spent = inr (ap (pushed cap s) e); told = e }
  push_tells k s (moves new c) f e h = cond_tells k s new c (room cap s new) (f (moved s new c)) e refl (h (moved s new c))
  push_tells k s (role_fault i a y) f e h = record { walked = refl; within = omega arith; spent = inr (ap (pushed cap s) e); told = e }
  push_tells k s (shape_fault i) f e h = record { walked = refl; within = omega arith; spent = inr (ap (pushed cap s) e); told = e }

  pub advance_tells : (k : ℕ) (s : State) → Tells m r cap k s (advance m r cap k s)
  unfolding advance
  advance_tells zero s = idle_tells s (turn m r s) refl
  advance_tells (suc k) s = push_tells k s (turn m r s) (λ x. advance m r cap k x) refl (λ x. advance_tells k x)

-- what a walk leaves as it was: the used entries, to which it adds within the table
pub record Extends (cap : ℕ) (s s' : State) : Type 0 where
  pub added : List Entry
  pub kept : s'.used ≡ s.used ++ added
  pub fits : length s.used ≤ cap → length s'.used ≤ cap

module _ (m : Meaning) (r cap : ℕ) where
  pushed_extends : (s s' : State) (x : Turn) → pushed cap s x ≡ Some s' → Extends cap s s'
  pushed_extends s s' rests e = absurd (none_of e)
  pushed_extends s s' (moves new c) e =
      let k = cond_some (room cap s new) (moved s new c) s' e in
      let l : length (s.used ++ new) ≤ cap = subst (λ (n : ℕ). n ≤ cap) (sym (length-append s.used new)) (leb-true (length s.used + length new) cap k.0) in
      record { added = new; kept = ap (λ (x : State). x.used) (sym k.1); fits = λ _. subst (λ (x : State). length x.used ≤ cap) k.1 l }
  pushed_extends s s' (role_fault i a x) e = absurd (none_of e)
  pushed_extends s s' (shape_fault i) e = absurd (none_of e)

  pub walk_extends : (k : ℕ) (s s' : State) → walk m r cap k s ≡ Some s' → Extends cap s s'
  unfolding walk
  walk_extends zero s s' e =
      let i = some_of e in
      record { added = []; kept = ap (λ (x : State). x.used) (sym i) ∙ sym (append-nil s.used); fits = λ h. subst (λ (x : State). length x.used ≤ cap) i h }
  walk_extends (suc k) s s' e =
      let a = after_some m r cap (once m r cap s) (λ x. walk m r cap k x) s' e in
      let f = pushed_extends s a.0 (turn m r s) a.1 in
      let g = walk_extends k a.0 s' a.2 in
      record {
        added = f.added ++ g.added;
        kept = g.kept ∙ ap (λ (x : List Entry). x ++ g.added) f.kept ∙ append_assoc s.used f.added g.added;
        fits = λ h. g.fits (f.fits h);
      }

  -- where no step fits, a walk has none
  pub walk_still : (k : ℕ) (s s' : State) → once m r cap s ≡ None → walk m r cap k s ≡ Some s' → (k ≡ 0) × (s ≡ s')
  unfolding walk
  walk_still zero s s' n e = (refl, some_of e)
  walk_still (suc k) s s' n e = absurd (none_of (sym (ap (λ x. after x (λ t. walk m r cap k t)) n) ∙ e))

-- an advance of j and then one of k is an advance of j + k
added_none : (a : Advanced) → added_to 0 a ≡ a
added_none a = λ i. record { made = zero-add a.made i; state = a.state; condition = a.condition }

added_more : (j : ℕ) (a : Advanced) → one_more (added_to j a) ≡ added_to (suc j) a
added_more j a = ap (λ (n : ℕ). let z : Advanced = record { made = n; state = a.state; condition = a.condition } in z) (sym (suc-add j a.made))

idle_state : (s : State) (x : Turn) → (idle s x).state ≡ s
idle_state s rests = refl
idle_state s (moves new c) = refl
idle_state s (role_fault i a r) = refl
idle_state s (shape_fault i) = refl

module _ (m : Meaning) (r cap : ℕ) where
  on_cond : (j k : ℕ) (b : Bool) (f g : Advanced) (z : Advanced) → z.made ≡ 0 → (f.made ≡ j → g ≡ added_to j (advance m r cap k f.state)) →
      (cond b (one_more f) z).made ≡ suc j → cond b (one_more g) z ≡ added_to (suc j) (advance m r cap k (cond b (one_more f) z).state)
  on_cond j k true f g z n h e = ap one_more (h (omega arith)) ∙ added_more j (advance m r cap k f.state)
  on_cond j k false f g z n h e = absurd (omega arith)

  on_push : (j k : ℕ) (s : State) (x : Turn) → ((t : State) → (advance m r cap j t).made ≡ j → advance m r cap (j + k) t ≡ added_to j (advance m r cap k (advance m r cap j t).state)) →
      (push cap s x (λ t. advance m r cap j t)).made ≡ suc j →
      push cap s x (λ t. advance m r cap (j + k) t) ≡ added_to (suc j) (advance m r cap k (push cap s x (λ t. advance m r cap j t)).state)
  on_push j k s rests h e = absurd (omega arith)
  on_push j k s (moves new c) h e =
      on_cond j k (room cap s new) (advance m r cap j (moved s new c)) (advance m r cap (j + k) (moved s new c)) (record { made = 0; state = s; condition = TableFull }) refl (h (moved s new c)) e
  on_push j k s (role_fault i a y) h e = absurd (omega arith)
  on_push j k s (shape_fault i) h e = absurd (omega arith)

  -- where the first spends its budget
  pub advance_on : (j k : ℕ) (s : State) → (advance m r cap j s).made ≡ j → advance m r cap (j + k) s ≡ added_to j (advance m r cap k (advance m r cap j s).state)
  unfolding advance
  advance_on zero k s e =
      ap (λ n. advance m r cap n s) (zero-add k) ∙ sym (added_none (advance m r cap k s)) ∙ ap (λ x. added_to 0 (advance m r cap k x)) (sym (idle_state s (turn m r s)))
  advance_on (suc j) k s e = ap (λ n. advance m r cap n s) (suc-add j k) ∙ on_push j k s (turn m r s) (λ t h. advance_on j k t h) e

  off_cond : (j : ℕ) (b : Bool) (f g : Advanced) (z : Advanced) → (f.made < j → g ≡ f) → (cond b (one_more f) z).made < suc j → cond b (one_more g) z ≡ cond b (one_more f) z
  off_cond j true f g z h e = ap one_more (h (omega arith))
  off_cond j false f g z h e = refl

  off_push : (j k : ℕ) (s : State) (x : Turn) → ((t : State) → (advance m r cap j t).made < j → advance m r cap (j + k) t ≡ advance m r cap j t) →
      (push cap s x (λ t. advance m r cap j t)).made < suc j →
      push cap s x (λ t. advance m r cap (j + k) t) ≡ push cap s x (λ t. advance m r cap j t)
  off_push j k s rests h e = refl
  off_push j k s (moves new c) h e =
      off_cond j (room cap s new) (advance m r cap j (moved s new c)) (advance m r cap (j + k) (moved s new c)) (record { made = 0; state = s; condition = TableFull }) (h (moved s new c)) e
  off_push j k s (role_fault i a y) h e = refl
  off_push j k s (shape_fault i) h e = refl

  -- and where it does not
  pub advance_off : (j k : ℕ) (s : State) → (advance m r cap j s).made < j → advance m r cap (j + k) s ≡ advance m r cap j s
  unfolding advance
  advance_off zero k s e = absurd (omega arith)
  advance_off (suc j) k s e = ap (λ n. advance m r cap n s) (suc-add j k) ∙ off_push j k s (turn m r s) (λ t h. advance_off j k t h) e
