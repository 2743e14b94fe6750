-- An advance at the table, turn by turn. Assumes nothing.
use Rattle.std.proofs.Common.{◌≡◌, ℕ, suc, ◌+◌, ◌≤◌, Bool, true, false, cond, List, ◌++◌, length, take, Ok, Err, Result, sym, refl, ap, ◌∙◌, arith, length-take-le}
use Rattle.std.proofs.lemmas.Bool.{le-leb, lt-leb}
use Rattle.roles.specs.Meaning.{Meaning}
use Rattle.tables.specs.declared.entry.Entry.{Entry}
use Rattle.machine.specs.Labelled.{tree}
use Rattle.machine.specs.Plans.{step}
use Rattle.machine.specs.Turns.{State, Turn, rests, moves, role_fault, shape_fault, turn, turned, Advanced, idle, one_more, room, push, moved, advance, added_to}
use Rattle.runs.specs.declared.find.Redex.{Redex}
use Rattle.runs.specs.declared.turn.Moved.{Moved}
use Rattle.machine.specs.declared.condition.Condition.{Condition}
use Rattle.machine.specs.declared.condition.Condition.TheVariants.{Going, Finished, RoleFault, ShapeFault, TableFull}
use Rattle.runs.specs.Find.{met_of, FoundFits}
use Rattle.runs.specs.Table.{TurnIs, state, advanced, idle_of}
use Rattle.runs.proofs.Grounding.{take_laid}
use Rattle.runs.proofs.Turning.{turn_is}

module _ (m : Meaning) (r : ℕ) (es fs : List Entry) (u c : ℕ) (low : u ≤ length es) where
  abbrev s : State
  s = state es u c

  unfold_suc : (cap j : ℕ) → advance m r cap (suc j) s ≡ push cap s (turn m r s) (λ s'. advance m r cap j s')
  unfolding advance
  unfold_suc cap j = refl

  pub moves_on : (j : ℕ) (x : Moved) → TurnIs m r es fs u c (Ok x) → advance m r (length es) (suc j) s ≡ one_more (advance m r (length es) j (state fs x.used x.current))
  moves_on j x T =
      let new : List Entry = T.0 in
      let z = length-take-le u es low in
      let fit : room (length es) s new ≡ true = le-leb (length (take u es) + length new) (length es) (omega (arith, T.3, T.4)) in
      let same : take u es ++ new ≡ take x.used fs = sym (ap (λ (j : ℕ). take j fs) T.3 ∙ (ap (take (u + length new)) T.2 ∙ take_laid es u new low)) in
      unfold_suc (length es) j
      ∙ (ap (λ (t : Turn). push (length es) s t (λ s'. advance m r (length es) j s')) T.1
      ∙ (ap (λ (b : Bool). cond b (one_more (advance m r (length es) j (moved s new x.current))) (record { made = 0; state = s; condition = TableFull })) fit
      ∙ ap (λ (y : List Entry). one_more (advance m r (length es) j (record { used = y; current = x.current }))) same))

  ends_by : (j : ℕ) (t : Turn) (k : Condition) → turn m r s ≡ t → fs ≡ es → push (length es) s t (λ s'. advance m r (length es) j s') ≡ record { made = 0; state = s; condition = k } →
      advance m r (length es) (suc j) s ≡ advanced fs 0 u c k
  ends_by j t k e q p = unfold_suc (length es) j ∙ (ap (λ (t : Turn). push (length es) s t (λ s'. advance m r (length es) j s')) e ∙ (p ∙ ap (λ (y : List Entry). advanced y 0 u c k) (sym q)))

  pub ends : (j : ℕ) (k : Condition) → TurnIs m r es fs u c (Err k) → advance m r (length es) (suc j) s ≡ advanced fs 0 u c k
  ends j Going T = absurd T
  ends j Finished T = ends_by j rests Finished T.0 T.1 refl
  ends j (RoleFault i a x) T = ends_by j (role_fault i a x) (RoleFault i a x) T.0 T.1 refl
  ends j (ShapeFault i) T = ends_by j (shape_fault i) (ShapeFault i) T.0 T.1 refl
  ends j TableFull T =
      let new : List Entry = T.0 in
      let z = length-take-le u es low in
      let over : room (length es) s new ≡ false = lt-leb (length (take u es) + length new) (length es) (omega (arith, T.3)) in
      ends_by j (moves new T.1) TableFull T.2 T.4
      (ap (λ (b : Bool). cond b (one_more (advance m r (length es) j (moved s new T.1))) (record { made = 0; state = s; condition = TableFull })) over)

  pub idles : (cap : ℕ) (F : Result Redex Condition) → step m r (tree (take u es) c) ≡ met_of (take u es) c F → FoundFits (take u es) c F → advance m r cap 0 s ≡ advanced es 0 u c (idle_of F)
  unfolding advance
  idles cap F S f = ap (idle s) (turn_is m r es u c low F S) ∙ by F f
    where
      by : (F : Result Redex Condition) → FoundFits (take u es) c F → idle s (turned u (met_of (take u es) c F)) ≡ advanced es 0 u c (idle_of F)
      by (Ok x) f = refl
      by (Err Going) f = absurd f
      by (Err Finished) f = refl
      by (Err (RoleFault i a x)) f = refl
      by (Err (ShapeFault i)) f = refl
      by (Err TableFull) f = absurd f

pub added_more : (i : ℕ) (a : Advanced) → added_to i (one_more a) ≡ added_to (i + 1) a
added_more i a = let e : i + suc a.made ≡ (i + 1) + a.made = omega arith in ap (λ (n : ℕ). record { made = n; state = a.state; condition = a.condition }) e

pub added_none : (i : ℕ) (a : Advanced) → a.made ≡ 0 → added_to i a ≡ record { made = i; state = a.state; condition = a.condition }
added_none i a h = let e : i + a.made ≡ i = omega arith in ap (λ (n : ℕ). record { made = n; state = a.state; condition = a.condition }) e
