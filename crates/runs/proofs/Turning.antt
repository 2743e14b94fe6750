-- A turn. Assumes nothing.
use Rattle.std.proofs.Common.{◌≡◌, ℕ, ◌+◌, ◌≤◌, List, length, take, Ok, Err, Result, sym, refl, ap, ◌∙◌, subst, length-take-le}
use Rattle.roles.specs.Meaning.{Meaning}
use Rattle.tables.specs.declared.entry.Entry.{Entry}
use Rattle.machine.specs.Labelled.{tree}
use Rattle.machine.specs.Plans.{write, Met, step}
use Rattle.machine.specs.Turns.{turn, turned, moves}
use Rattle.runs.specs.declared.find.Act.{Act}
use Rattle.runs.specs.declared.find.Redex.{Redex}
use Rattle.machine.specs.declared.condition.Condition.{Condition}
use Rattle.machine.specs.declared.condition.Condition.TheVariants.{Going, Finished, RoleFault, ShapeFault, TableFull}
use Rattle.runs.specs.Reach.{Ground}
use Rattle.runs.specs.Copy.{places}
use Rattle.runs.specs.Find.{act_plan, along, met_of, ActFits, PathFits, FoundFits}
use Rattle.runs.specs.Table.{state, TurnIs}
use Rattle.runs.proofs.Tallying.{length_places}
use Rattle.runs.proofs.Making.{path_places}

pub turn_is : (m : Meaning) (r : ℕ) (es : List Entry) (u c : ℕ) → u ≤ length es → (F : Result Redex Condition) → step m r (tree (take u es) c) ≡ met_of (take u es) c F →
    turn m r (state es u c) ≡ turned u (met_of (take u es) c F)
turn_is m r es u c h F S = ap (λ (o : Met). turned (length (take u es)) o) S ∙ ap (λ (n : ℕ). turned n (met_of (take u es) c F)) (length-take-le u es h)

-- a redex is found in the used entries
pub redex_turn : (m : Meaning) (r : ℕ) (es : List Entry) (u c : ℕ) → u ≤ length es → (us : List Entry) → us ≡ take u es → (x : Redex) → step m r (tree us c) ≡ met_of us c (Ok x) →
    turn m r (state es u c) ≡ moves (write u (along us x.path c x.act)).entries (write u (along us x.path c x.act)).place
redex_turn m r es u c h us q x =
    let P : List Entry → Type 0 = λ v. step m r (tree v c) ≡ met_of v c (Ok x) → turn m r (state es u c) ≡ moves (write u (along v x.path c x.act)).entries (write u (along v x.path c x.act)).place in
    let here : P (take u es) = λ S. turn_is m r es u c h (Ok x) S in
    subst P (sym q) here

-- no step is found
pub no_turn : (m : Meaning) (r : ℕ) (es : List Entry) (u c : ℕ) → u ≤ length es → (k : Condition) → step m r (tree (take u es) c) ≡ met_of (take u es) c (Err k) → FoundFits (take u es) c (Err k) → TurnIs m r es es u c (Err k)
no_turn m r es u c h Going S f = f
no_turn m r es u c h Finished S f = (turn_is m r es u c h (Err Finished) S, refl)
no_turn m r es u c h (RoleFault i a x) S f = (turn_is m r es u c h (Err (RoleFault i a x)) S, refl)
no_turn m r es u c h (ShapeFault i) S f = (turn_is m r es u c h (Err (ShapeFault i)) S, refl)
no_turn m r es u c h TableFull S f = absurd f

pub fits_act : (us : List Entry) (i : ℕ) (a : Act) (n : ℕ) → Ground us → PathFits us n i a → ActFits us a
fits_act us i a n G f = (path_places us G n i a f).1

pub length_along : (us : List Entry) (b i : ℕ) (a : Act) (n : ℕ) → Ground us → PathFits us n i a → length (write b (along us n i a)).entries ≡ places (act_plan us a) + n
length_along us b i a n G f = length_places b (along us n i a) ∙ (path_places us G n i a f).0
