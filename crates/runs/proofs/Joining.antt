-- Advances one after the other. Assumes nothing.
use Rattle.std.proofs.Common.{◌≡◌, ℕ, zero, suc, ◌+◌, ◌-◌, ◌^◌, ◌<◌, ◌≤◌, Bool, true, false, cond, ◌&&◌, ltb, leb, ◌⊎◌, List, ◌++◌, length, take, drop, Some, None, Option, sym, refl, ap, ◌∙◌, subst, subst₂, ⊎_elim, true≢false, arith, length-append, length-drop, length-take-le, get_or-take, drop-drop, take_at, drop_at}
use mathlib.Core.Bool.{false≢true}
use Rattle.std.proofs.lemmas.List.{get_or_append_left}
use Rattle.std.proofs.lemmas.Bool.{and_parts, and_from, ltb-true, lt-ltb, leb-true, le-leb, cases_Bool, cases_eq}
use Rattle.roles.specs.Meaning.{Meaning}
use Rattle.tables.specs.declared.entry.Entry.{Entry}
use Rattle.machine.specs.Labelled.{tree, closed}
use Rattle.machine.specs.Conditions.{ends}
use Rattle.machine.specs.Turns.{State, Turn, rests, moves, role_fault, shape_fault, turn, moved, Advanced, idle, one_more, push, advance, added_to}
use Rattle.machine.specs.declared.condition.Condition.{Condition}
use Rattle.machine.specs.declared.condition.Condition.TheVariants.{Going, Finished, RoleFault, ShapeFault, TableFull}
use Rattle.machine.proofs.Walking.{walk_extends, Told, Tells, advance_tells, advance_on, advance_off}
use Rattle.runs.specs.declared.fault.RunFault.{RunFault}
use Rattle.runs.specs.declared.fault.RunFault.TheVariants.{Ended}
use Rattle.runs.specs.declared.run.Run.{Run}
use Rattle.runs.specs.Reach.{no_entry}
use Rattle.runs.specs.Table.{state}
use Rattle.runs.specs.Usable.{passes, all_pass, usable}
use Rattle.runs.specs.Run.{refusal, gone, settled, run_after, terms_after}
use Rattle.runs.proofs.Using.{passed_by}
use Rattle.runs.specs.Parts.{left_run, left_terms, told_by, retold, unless_ended, Parted, InParts}
use Rattle.runs.proofs.Passing.{Fine, walk_fine, all_by}

-- tests, answered
yes : {A : Type 0} (b : Bool) (x y : A) → b ≡ true → cond b x y ≡ x
yes b x y h = ap (λ (z : Bool). cond z x y) h

not_so : {A : Type 0} (b : Bool) (x y : A) → b ≡ false → cond b x y ≡ y
not_so b x y h = ap (λ (z : Bool). cond z x y) h

was_yes : (b : Bool) (o : Option RunFault) (f : RunFault) → cond b o (Some f) ≡ None → (b ≡ true) × (o ≡ None)
was_yes true o f h = (refl, h)
was_yes false o f h = let z : ◌≡◌ {A = ℕ} 0 1 = cc in let y : ⊥ = omega arith in absurd y

was_no : (b : Bool) (o : Option RunFault) (f : RunFault) → cond b (Some f) o ≡ None → (b ≡ false) × (o ≡ None)
was_no true o f h = let z : ◌≡◌ {A = ℕ} 0 1 = cc in let y : ⊥ = omega arith in absurd y
was_no false o f h = (refl, h)

-- all questions of an advance answered with yes
pub record Yes (m : Meaning) (x : Run) (es : List Entry) (k : ℕ) : Type 0 where
  pub sound : m.sound ≡ true
  pub role : m.role x.role ≡ true
  pub fit : usable m.role es x.used x.current ≡ true
  pub unended : ends x.condition ≡ false
  pub below : x.steps + k < 2 ^ 32

pub answered_yes : (m : Meaning) (x : Run) (es : List Entry) (k : ℕ) → refusal m x es k ≡ None → Yes m x es k
answered_yes m x es k h =
    let a = was_yes m.sound _ _ h in
    let b = was_yes (m.role x.role) _ _ a.1 in
    let c = was_yes (usable m.role es x.used x.current) _ _ b.1 in
    let d = was_no (ends x.condition) _ _ c.1 in
    let e = was_yes (ltb (x.steps + k) (2 ^ 32)) _ _ d.1 in
    record { sound = a.0; role = b.0; fit = c.0; unended = d.0; below = ltb-true (x.steps + k) (2 ^ 32) e.0 }

yes_answered : (m : Meaning) (x : Run) (es : List Entry) (k : ℕ) → Yes m x es k → refusal m x es k ≡ None
yes_answered m x es k Y =
    yes m.sound _ _ Y.sound
    ∙ (yes (m.role x.role) _ _ Y.role
    ∙ (yes (usable m.role es x.used x.current) _ _ Y.fit
    ∙ (not_so (ends x.condition) _ _ Y.unended ∙ yes (ltb (x.steps + k) (2 ^ 32)) _ _ (lt-ltb (x.steps + k) (2 ^ 32) Y.below))))

has_ended : (m : Meaning) (x : Run) (es : List Entry) (k : ℕ) → m.sound ≡ true → m.role x.role ≡ true → usable m.role es x.used x.current ≡ true → ends x.condition ≡ true →
    refusal m x es k ≡ Some (Ended x.condition)
has_ended m x es k a b c d =
    yes m.sound _ _ a ∙ (yes (m.role x.role) _ _ b ∙ (yes (usable m.role es x.used x.current) _ _ c ∙ yes (ends x.condition) _ _ d))

-- a condition is told as it is, but for a full table with no budget
pub told_more : (k : ℕ) (c : Condition) → told_by (suc k) c ≡ c
told_more k Going = refl
told_more k Finished = refl
told_more k (RoleFault i a x) = refl
told_more k (ShapeFault i) = refl
told_more k TableFull = refl

told_ended : (k : ℕ) (c : Condition) → ends c ≡ true → told_by k c ≡ c
told_ended k Going e = refl
told_ended k Finished e = refl
told_ended k (RoleFault i a x) e = refl
told_ended k (ShapeFault i) e = refl
told_ended k TableFull e = absurd (false≢true e)

told_idle : (s : State) (t : Turn) → told_by 0 (idle s t).condition ≡ (idle s t).condition
told_idle s rests = refl
told_idle s (moves new c) = refl
told_idle s (role_fault i a c) = refl
told_idle s (shape_fault i) = refl

-- an advance from where another stopped short or ended makes no step
module _ (m : Meaning) (r places : ℕ) where
  told_advance : (k : ℕ) (s : State) → told_by k (advance m r places k s).condition ≡ (advance m r places k s).condition
  unfolding advance
  told_advance zero s = told_idle s (turn m r s)
  told_advance (suc k) s = told_more k (advance m r places (suc k) s).condition

  none_ended : (j n k : ℕ) (s : State) (c : Condition) → Told m r places j n s c → ends c ≡ true → advance m r places k s ≡ record { made = 0; state = s; condition = c }
  unfolding advance
  none_ended j n k s Going T e = absurd (false≢true e)
  none_ended j n zero s Finished T e = ap (idle s) T
  none_ended j n (suc k) s Finished T e = ap (λ (t : Turn). push places s t (λ s'. advance m r places k s')) T
  none_ended j n zero s (RoleFault i a x) T e = ap (idle s) T
  none_ended j n (suc k) s (RoleFault i a x) T e = ap (λ (t : Turn). push places s t (λ s'. advance m r places k s')) T
  none_ended j n zero s (ShapeFault i) T e = ap (idle s) T
  none_ended j n (suc k) s (ShapeFault i) T e = ap (λ (t : Turn). push places s t (λ s'. advance m r places k s')) T
  none_ended j n k s TableFull T e = absurd (false≢true e)

  abbrev Short : ℕ → State → Condition → Advanced → Type 0
  Short k s c b = (b.made ≡ 0) × (b.state ≡ s) × (b.condition ≡ told_by k c)

  none_short : (j n k : ℕ) (s : State) (c : Condition) → Told m r places j n s c → ends c ≡ false → n < j → Short k s c (advance m r places k s)
  unfolding advance
  none_short j n k s Going T e l = absurd (omega (arith, T.0))
  none_short j n k s Finished T e l = absurd (true≢false e)
  none_short j n k s (RoleFault i a x) T e l = absurd (true≢false e)
  none_short j n k s (ShapeFault i) T e l = absurd (true≢false e)
  none_short j n zero s TableFull T e l =
      subst (λ (b : Advanced). Short 0 s TableFull b) (sym (ap (idle s) T.1.2)) (refl, refl, refl)
  none_short j n (suc k) s TableFull T e l =
      let f : Advanced = record { made = 0; state = s; condition = TableFull } in
      let g : advance m r places (suc k) s ≡ f =
      ap (λ (t : Turn). push places s t (λ s'. advance m r places k s')) T.1.2
      ∙ ap (λ (b : Bool). cond b (one_more (advance m r places k (moved s T.1.0 T.1.1))) f) T.1.3 in
      subst (λ (b : Advanced). Short (suc k) s TableFull b) (sym g) (refl, refl, refl)

-- after an accepted advance
module _ (m : Meaning) (x : Run) (es : List Entry) (j : ℕ) (Y : Yes m x es j) where
  abbrev a : Advanced
  a = gone m x es j

  abbrev s : State
  s = state es x.used x.current

  abbrev u : ℕ
  u = length a.state.used

  abbrev y : Run
  y = settled x a

  abbrev fs : List Entry
  fs = a.state.used ++ drop u es

  fit_parts : (length es ≤ 16384) × (x.used ≤ length es) × (all_pass m.role es x.used 0 ≡ true) × (closed 0 (tree (take x.used es) x.current) ≡ true)
  fit_parts =
      let p = and_parts (leb (length es) 16384 && leb x.used (length es) && all_pass m.role es x.used 0) (closed 0 (tree (take x.used es) x.current)) Y.fit in
      let q = and_parts (leb (length es) 16384 && leb x.used (length es)) (all_pass m.role es x.used 0) p.0 in
      let r = and_parts (leb (length es) 16384) (leb x.used (length es)) q.0 in
      (leb-true (length es) 16384 r.0, leb-true x.used (length es) r.1, q.1, p.1)

  tells : Tells m x.role (length es) j s a
  tells = advance_tells m x.role (length es) j s

  front : length s.used ≡ x.used
  front = length-take-le x.used es fit_parts.1

  fits : u ≤ length es
  fits = (walk_extends m x.role (length es) a.made s a.state tells.walked).fits (let p = fit_parts.1 in let q = front in omega arith)

  long : length fs ≡ length es
  long = let p = length-append a.state.used (drop u es) in let q = length-drop u es in let r = fits in omega arith

  used_is : take u fs ≡ a.state.used
  used_is = take_at a.state.used (drop u es) u refl

  state_is : state fs u a.state.current ≡ a.state
  state_is = ap (λ (z : List Entry). record { used = z; current = a.state.current }) used_is

  rest_is : (v : ℕ) → u ≤ v → drop v fs ≡ drop v es
  rest_is v l =
      let e : v ≡ u + (v - u) = omega arith in
      let d : (zs : List Entry) → drop v zs ≡ drop (v - u) (drop u zs) = λ zs. ap (λ (n : ℕ). drop n zs) e ∙ sym (drop-drop (v - u) u zs) in
      d fs ∙ (ap (drop (v - u)) (drop_at a.state.used (drop u es) u refl) ∙ sym (d es))

  fine : Fine m.role a.state
  fine =
      let p = fit_parts.1 in
      let q = front in
      walk_fine m.role m x.role (length es) a.made s a.state
      ((λ k l. subst (λ (e : Entry). passes m.role e k ≡ true) (sym (get_or-take x.used es k no_entry (omega arith))) (passed_by m.role es x.used 0 fit_parts.2 k (omega arith) (omega arith))), fit_parts.3)
      tells.walked

  pub usable_after : usable m.role fs u a.state.current ≡ true
  usable_after =
      let p = fit_parts.0 in
      let q = fits in
      let w = long in
      let all : all_pass m.role fs u 0 ≡ true =
      all_by m.role fs u 0 (λ k b l. subst (λ (e : Entry). passes m.role e k ≡ true) (sym (get_or_append_left a.state.used (drop u es) no_entry k (omega arith))) (fine.0 k (omega arith))) in
      let shut : closed 0 (tree (take u fs) a.state.current) ≡ true = subst (λ (z : List Entry). closed 0 (tree z a.state.current) ≡ true) (sym used_is) fine.1 in
      and_from (leb (length fs) 16384 && leb u (length fs) && all_pass m.role fs u 0) (closed 0 (tree (take u fs) a.state.current))
      (and_from (leb (length fs) 16384 && leb u (length fs)) (all_pass m.role fs u 0)
      (and_from (leb (length fs) 16384) (leb u (length fs)) (le-leb (length fs) 16384 (omega arith)) (le-leb u (length fs) (omega arith))) all) shut

  module _ (k : ℕ) (B : x.steps + (j + k) < 2 ^ 32) where
    abbrev b : Advanced
    b = advance m x.role (length es) k a.state

    abbrev whole : Advanced
    whole = gone m x es (j + k)

    next_is : gone m y fs k ≡ b
    next_is = ap (λ (n : ℕ). advance m x.role n k (state fs u a.state.current)) long ∙ ap (λ (z : State). advance m x.role (length es) k z) state_is

    -- the advance by both budgets, by the two
    record Both : Type 0 where
      pub made : whole.made ≡ a.made + b.made
      pub there : whole.state ≡ b.state
      pub told : b.condition ≡ told_by k whole.condition

    both_spent : a.made ≡ j → Both
    both_spent e =
        let w = advance_on m x.role (length es) j k s e in
        let c = ap (λ (z : Advanced). z.condition) w in
        record { made = ap (λ (z : Advanced). z.made) w ∙ ap (λ (n : ℕ). n + b.made) (sym e); there = ap (λ (z : Advanced). z.state) w; told = sym (told_advance m x.role (length es) k a.state) ∙ ap (told_by k) (sym c) }

    both_short : a.made < j → ends a.condition ≡ false → Both
    both_short l e =
        let w = advance_off m x.role (length es) j k s l in
        let t = none_short m x.role (length es) j a.made k a.state a.condition tells.told e l in
        record {
          made = ap (λ (z : Advanced). z.made) w ∙ (let q = t.0 in omega arith);
          there = ap (λ (z : Advanced). z.state) w ∙ sym t.1;
          told = t.2 ∙ ap (λ (z : Advanced). told_by k z.condition) (sym w);
        }

    spent_or : (a.made ≡ j) ⊎ (a.made ≡ j → ⊥)
    spent_or = cases_eq a.made j

    both : ends a.condition ≡ false → Both
    both e = ⊎_elim (λ q. both_spent q) (λ q. both_short (let w = tells.within in omega arith) e) spent_or

    ended : ends a.condition ≡ true → whole ≡ a
    ended e =
        ⊎_elim
        (λ q.
        let n = none_ended m x.role (length es) j a.made k a.state a.condition tells.told e in
        advance_on m x.role (length es) j k s q ∙ (ap (added_to j) n ∙ ap (λ (i : ℕ). record { made = i; state = a.state; condition = a.condition }) (omega arith)))
        (λ q. advance_off m x.role (length es) j k s (let w = tells.within in omega arith)) spent_or

    -- what the second call answers and leaves
    record Out (o : Option RunFault) : Type 0 where
      pub asked : o ≡ unless_ended a.condition
      pub terms : terms_after o fs (gone m y fs k) ≡ terms_after None es whole
      pub run : run_after o y (gone m y fs k) ≡ retold k (settled x whole)

    out_ended : ends a.condition ≡ true → Out (refusal m y fs k)
    out_ended e =
        let w = sym (ended e) in
        let c : a.condition ≡ told_by k whole.condition = sym (told_ended k a.condition e) ∙ ap (λ (z : Advanced). told_by k z.condition) w in
        subst Out (sym (has_ended m y fs k Y.sound Y.role usable_after e)) (record {
          asked = sym (yes (ends a.condition) _ _ e);
          terms = ap (λ (z : Advanced). terms_after None es z) w;
          run = ap (λ (z : Advanced). record { role = x.role; steps = x.steps + z.made; used = length z.state.used; current = z.state.current; condition = a.condition }) w
              ∙ ap (λ (z : Condition). record { role = x.role; steps = x.steps + whole.made; used = length whole.state.used; current = whole.state.current; condition = z }) c;
        })

    out_both : Both → ends a.condition ≡ false → Out (refusal m y fs k)
    out_both W e =
        let low : y.steps + k < 2 ^ 32 = (let w = tells.within in omega arith) in
        let v : ℕ = length b.state.used in
        let X = walk_extends m x.role (length es) b.made a.state b.state (advance_tells m x.role (length es) k a.state).walked in
        let more : u ≤ v = (let p = ap length X.kept in let q = length-append a.state.used X.added in omega arith) in
        let g = next_is in
        let st : y.steps + b.made ≡ x.steps + whole.made = (let p = W.made in omega arith) in
        let us : length b.state.used ≡ length whole.state.used = ap (λ (z : State). length z.used) (sym W.there) in
        let cu : b.state.current ≡ whole.state.current = ap (λ (z : State). z.current) (sym W.there) in
        subst Out (sym (yes_answered m y fs k (record { sound = Y.sound; role = Y.role; fit = usable_after; unended = e; below = low }))) (record {
          asked = sym (not_so (ends a.condition) _ _ e);
          terms = ap (λ (z : Advanced). terms_after None fs z) g
              ∙ (ap (λ (z : List Entry). b.state.used ++ z) (rest_is v more) ∙ ap (λ (z : State). z.used ++ drop (length z.used) es) (sym W.there));
          run = ap (settled y) g ∙ (λ i. record { role = x.role; steps = st i; used = us i; current = cu i; condition = W.told i });
        })

    out : Out (refusal m y fs k)
    out = ⊎_elim (λ e. out_ended e) (λ e. out_both (both e) e) (cases_Bool (ends a.condition))

-- what is left by an accepted advance, by the refusals of it and of its first part
abbrev Parts : (m : Meaning) (x : Run) (es : List Entry) (j k : ℕ) → Option RunFault → Option RunFault → Type 0
Parts m x es j k o p =
    let z = run_after o x (gone m x es j) in
    let gs = terms_after o es (gone m x es j) in
    (refusal m z gs k ≡ unless_ended z.condition) × (terms_after (refusal m z gs k) gs (gone m z gs k) ≡ terms_after p es (gone m x es (j + k)))
    × (run_after (refusal m z gs k) z (gone m z gs k) ≡ retold k (run_after p x (gone m x es (j + k))))

parts_sum : (m : Meaning) (x : Run) (es : List Entry) (j k : ℕ) → refusal m x es (j + k) ≡ None → Parted m x (left_run m x es (j + k)) es (left_terms m x es (j + k)) j k
parts_sum m x es j k h =
    let Z = answered_yes m x es (j + k) h in
    let Y : Yes m x es j = record { sound = Z.sound; role = Z.role; fit = Z.fit; unended = Z.unended; below = (let b = Z.below in omega arith) } in
    let f = yes_answered m x es j Y in
    let O = out m x es j Y k Z.below in
    let q : Parts m x es j k (refusal m x es j) (refusal m x es (j + k)) = subst₂ (Parts m x es j k) (sym f) (sym h) (O.asked, O.terms, O.run) in
    record { first = f; second = q.0; terms = q.1; run = q.2 }

pub in_parts : (m : Meaning) (x y : Run) (es fs : List Entry) (n : ℕ) → y ≡ left_run m x es n → fs ≡ left_terms m x es n → InParts m x y es fs n
in_parts m x y es _ n r t h j k e =
    let P = parts_sum m x es j k (ap (refusal m x es) e ∙ h) in
    record {
      first = P.first;
      second = P.second;
      terms = P.terms ∙ (ap (left_terms m x es) e ∙ sym t);
      run = P.run ∙ (ap (λ (i : ℕ). retold k (left_run m x es i)) e ∙ ap (retold k) (sym r));
    }
