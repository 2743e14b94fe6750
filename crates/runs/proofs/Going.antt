-- A loop of turns on a run. Assumes nothing.
use Rattle.std.proofs.Common.{◌≡◌, ℕ, suc, ◌+◌, ◌-◌, ◌<◌, ◌≤◌, Bool, true, false, cond, List, length, take, drop, Ok, Err, Result, is_ok, sym, refl, ap, ◌∙◌, subst, true≢false, arith, drop-drop}
use mathlib.Core.Bool.{false≢true}
use Rattle.roles.specs.Meaning.{Meaning}
use Rattle.tables.specs.declared.entry.Entry.{Entry}
use Rattle.machine.specs.Labelled.{tree}
use Rattle.machine.specs.Plans.{step}
use Rattle.machine.specs.Turns.{Advanced, advance, added_to}
use Rattle.machine.specs.Conditions.{ends}
use Rattle.runs.specs.declared.find.Redex.{Redex}
use Rattle.runs.specs.declared.turn.Moved.{Moved}
use Rattle.machine.specs.declared.condition.Condition.{Condition}
use Rattle.machine.specs.declared.condition.Condition.TheVariants.{Going, Finished, RoleFault, ShapeFault, TableFull}
use Rattle.runs.specs.declared.run.Run.{Run}
use Rattle.runs.specs.Copy.{laid}
use Rattle.runs.specs.Find.{met_of, FoundFits}
use Rattle.runs.specs.Reach.{Ground}
use Rattle.runs.specs.Table.{TurnIs, Live, LiveAfter, state, advanced, idle_of}
use Rattle.runs.specs.Run.{gone, moving, taken}
use Rattle.runs.specs.Went.{Went}
use Rattle.runs.proofs.Laying.{drop_laid}
use Rattle.runs.proofs.Advancing.{moves_on, ends as stops, idles, added_more, added_none}

-- what the loop keeps when i turns are made: the run x is now y, and the table es is fs
pub record Keeps (m : Meaning) (b : ℕ) (x y : Run) (es fs : List Entry) (rs : List ℕ) (i : ℕ) : Type 0 where
  pub goes : gone m x es b ≡ added_to i (advance m x.role (length es) (b - i) (state fs y.used y.current))
  pub live : Live fs rs y.used y.current
  pub rest : drop y.used fs ≡ drop y.used es
  pub same : length fs ≡ length es
  pub role : y.role ≡ x.role
  pub steps : y.steps ≡ x.steps + i
  pub unended : ends y.condition ≡ false

unended_moves : (y : Run) (t : Result Moved Condition) → ends y.condition ≡ false → taken y t ≡ moving y t
unended_moves y t h = ap (λ (b : Bool). cond b y (moving y t)) h

-- where no step is made, nothing is written
not_moved : (m : Meaning) (r : ℕ) (es fs : List Entry) (u c : ℕ) (k : Condition) → TurnIs m r es fs u c (Err k) → fs ≡ es
not_moved m r es fs u c Going T = absurd T
not_moved m r es fs u c Finished T = T.1
not_moved m r es fs u c (RoleFault i a x) T = T.1
not_moved m r es fs u c (ShapeFault i) T = T.1
not_moved m r es fs u c TableFull T = T.4

module _ (m : Meaning) (b i : ℕ) (x y : Run) (es fs : List Entry) (rs : List ℕ) (K : Keeps m b x y es fs rs i) where
  -- the advance from here, with one turn to come
  abbrev here : ℕ → Advanced
  here j = advance m y.role (length fs) j (state fs y.used y.current)

  from_here : (j : ℕ) → advance m x.role (length es) j (state fs y.used y.current) ≡ here j
  from_here j =
      ap (λ (r : ℕ). advance m r (length es) j (state fs y.used y.current)) (sym K.role)
      ∙ ap (λ (n : ℕ). advance m y.role n j (state fs y.used y.current)) (sym K.same)

  one_further : i < b → gone m x es b ≡ added_to i (here (suc (b - (i + 1))))
  one_further l =
      let e : b - i ≡ suc (b - (i + 1)) = omega arith in
      K.goes ∙ (ap (λ (j : ℕ). added_to i (advance m x.role (length es) j (state fs y.used y.current))) e ∙ ap (added_to i) (from_here (suc (b - (i + 1)))))

  -- a turn that ends the loop
  ends_so : i < b → (gs : List Entry) (k : Condition) → TurnIs m y.role fs gs y.used y.current (Err k) → (z : Run) → z ≡ taken y (Err k) → Went m b x z es gs i
  ends_so l gs k T z Z =
      let q : z ≡ moving y (Err k) = Z ∙ unended_moves y (Err k) K.unended in
      let keep : gs ≡ fs = not_moved m y.role fs gs y.used y.current k T in
      let u : z.used ≡ y.used = ap (λ (w : Run). w.used) q in
      let c : z.current ≡ y.current = ap (λ (w : Run). w.current) q in
      let d : z.condition ≡ k = ap (λ (w : Run). w.condition) q in
      record {
        is = one_further l ∙ (ap (added_to i) (stops m y.role fs gs y.used y.current K.live.low (b - (i + 1)) k T) ∙ (added_none i (advanced gs 0 y.used y.current k) refl
            ∙ (ap (λ (n : ℕ). advanced gs i n y.current k) (sym u) ∙ (ap (λ (n : ℕ). advanced gs i z.used n k) (sym c) ∙ ap (advanced gs i z.used z.current) (sym d)))));
        role = ap (λ (w : Run). w.role) q ∙ K.role;
        steps = ap (λ (w : Run). w.steps) q ∙ K.steps;
        low = subst (λ (n : ℕ). n ≤ length gs) (sym u) (subst (λ (w : List Entry). y.used ≤ length w) (sym keep) K.live.low);
        rest = ap (λ (n : ℕ). drop n gs) u ∙ (ap (drop y.used) keep ∙ (K.rest ∙ ap (λ (n : ℕ). drop n es) (sym u)));
        same = ap length keep ∙ K.same;
        ground = subst (λ (n : ℕ). Ground (take n gs)) (sym u) (subst (λ (w : List Entry). Ground (take y.used w)) (sym keep) K.live.ground);
        present = omega (arith, u, c, K.live.present);
      }

  pub ends_here : i < b → (gs : List Entry) (t : Result Moved Condition) → is_ok t ≡ false → TurnIs m y.role fs gs y.used y.current t → (z : Run) → z ≡ taken y t → Went m b x z es gs i
  ends_here l gs (Ok v) h T z Z = absurd (true≢false h)
  ends_here l gs (Err k) h T z Z = ends_so l gs k T z Z

  -- a turn after which the loop goes on
  module _ (l : i < b) (gs : List Entry) (qs : List ℕ) (v : Moved) (T : TurnIs m y.role fs gs y.used y.current (Ok v)) (L : Live gs qs v.used v.current) (long : length gs ≡ length fs) where
    abbrev n : ℕ
    n = v.used

    abbrev w : Run
    w = moving y (Ok v)

    drops : drop n gs ≡ drop n es
    drops =
        let e : n ≡ y.used + length T.0 = T.3 in
        let a : drop n gs ≡ drop n fs = ap (drop n) T.2 ∙ (ap (λ (j : ℕ). drop j (laid fs y.used T.0)) e ∙ (drop_laid fs y.used T.0 K.live.low ∙ ap (λ (j : ℕ). drop j fs) (sym e))) in
        let p : n ≡ y.used + (n - y.used) = omega (arith, e) in
        let s : (vs : List Entry) → drop n vs ≡ drop (n - y.used) (drop y.used vs) = λ vs. ap (λ (j : ℕ). drop j vs) p ∙ sym (drop-drop (n - y.used) y.used vs) in
        a ∙ (s fs ∙ (ap (drop (n - y.used)) K.rest ∙ sym (s es)))

    moves_keep : Keeps m b x w es gs qs (i + 1)
    moves_keep = record {
      goes = one_further l ∙ (ap (added_to i) (moves_on m y.role fs gs y.used y.current K.live.low (b - (i + 1)) v T)
          ∙ (added_more i (advance m y.role (length fs) (b - (i + 1)) (state gs n v.current))
          ∙ (ap (λ (r : ℕ). added_to (i + 1) (advance m r (length fs) (b - (i + 1)) (state gs n v.current))) K.role
          ∙ ap (λ (j : ℕ). added_to (i + 1) (advance m x.role j (b - (i + 1)) (state gs n v.current))) K.same)));
      live = L;
      rest = drops;
      same = long ∙ K.same;
      role = K.role;
      steps = omega (arith, K.steps);
      unended = refl;
    }

  pub goes_on : i < b → (gs : List Entry) (qs : List ℕ) (t : Result Moved Condition) → is_ok t ≡ true → TurnIs m y.role fs gs y.used y.current t → LiveAfter gs qs y.used y.current t → length gs ≡ length fs →
      (z : Run) → z ≡ taken y t → Keeps m b x z es gs qs (i + 1)
  goes_on l gs qs (Ok v) h T L long z Z =
      subst (λ (v : Run). Keeps m b x v es gs qs (i + 1)) (sym (Z ∙ unended_moves y (Ok v) K.unended)) (moves_keep l gs qs v T L long)
  goes_on l gs qs (Err k) h T L long z Z = absurd (false≢true h)

  -- no budget left
  pub rests_here : i ≡ b → (F : Result Redex Condition) → step m y.role (tree (take y.used fs) y.current) ≡ met_of (take y.used fs) y.current F → FoundFits (take y.used fs) y.current F →
      Went m b x (record { role = y.role; steps = y.steps; used = y.used; current = y.current; condition = idle_of F }) es fs b
  rests_here q F S f =
      let e : b - i ≡ 0 = omega arith in
      record {
        is = K.goes ∙ (ap (λ (j : ℕ). added_to i (advance m x.role (length es) j (state fs y.used y.current))) e
            ∙ (ap (added_to i) (from_here 0) ∙ (ap (added_to i) (idles m y.role fs fs y.used y.current K.live.low (length fs) F S f)
            ∙ (added_none i (advanced fs 0 y.used y.current (idle_of F)) refl ∙ ap (λ (j : ℕ). advanced fs j y.used y.current (idle_of F)) q))));
        role = K.role;
        steps = K.steps ∙ ap (λ (j : ℕ). x.steps + j) q;
        low = K.live.low;
        rest = K.rest;
        same = K.same;
        ground = K.live.ground;
        present = K.live.present;
      }
