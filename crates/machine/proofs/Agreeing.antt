-- The theorems about turns and advances. Assumes nothing.
use Rattle.std.proofs.Common.{◌≡◌, ℕ, true, List, length, sym, refl, subst, subst₂}
use Rattle.roles.specs.Meaning.{Meaning}
use Rattle.tables.specs.declared.entry.Entry.{Entry}
use Rattle.machine.specs.Labelled.{Tree, trees, tree, closed}
use Rattle.machine.specs.Plans.{write, Met, ready, makes, refused, misfit, step}
use Rattle.machine.specs.Turns.{State, Turn, rests, moves, role_fault, shape_fault, turned, turn, moved}
use Rattle.machine.specs.Theorems.{Closed, TurnsAgree, TurnsClose, TurnsGrow, AdvancesJoin, AdvancesSpend}
use Rattle.machine.proofs.Growing.{HeldPlan, closed_whole, trees_held}
use Rattle.machine.proofs.Keeping.{step_held}
use Rattle.machine.proofs.Stable.{MetBy}
use Rattle.machine.proofs.Closing.{ClosedPlan, step_closed, lay_closed}
use Rattle.machine.proofs.Walking.{Sound, planted_at, turn_agrees, KeptTurn, turn_kept, advance_tells, advance_on, advance_off}

pub closed_sound : (s : State) → Closed s → Sound s
closed_sound s h = trees_held s.used s.current (closed_whole 0 (tree s.used s.current) h)

abbrev pub Moves : Turn → Type 0
Moves rests = ⊥
Moves (moves new c) = Unit {0}
Moves (role_fault i a r) = ⊥
Moves (shape_fault i) = ⊥

pub apart_turn : {x : Turn} {new : List Entry} {c : ℕ} → x ≡ moves new c → Moves x
apart_turn e = subst Moves (sym e) tt

pub turns_agree_lem : TurnsAgree
turns_agree_lem m r claim s h = turn_agrees m r 0 claim s (closed_sound s h)

-- a step from a closed term leaves a closed one
close_by : (m : Meaning) (r : ℕ) (s : State) (new : List Entry) (c : ℕ) (o : Met) → Closed s → step m r (tree s.used s.current) ≡ o →
    turned (length s.used) o ≡ moves new c → Closed (moved s new c)
close_by m r s new c ready h e k = absurd (apart_turn k)
close_by m r s new c (makes p) h e k =
    let w = write (length s.used) p in
    let held : HeldPlan (trees s.used) p = subst (MetBy (HeldPlan (trees s.used))) e (step_held (trees s.used) m r (tree s.used s.current) (closed_sound s h)) in
    let shut : ClosedPlan 0 p = subst (MetBy (ClosedPlan 0)) e (step_closed m r (tree s.used s.current) h) in
    let here = planted_at s.used p held in
    let done : Closed (moved s w.entries w.place) = subst (λ (t : Tree). closed 0 t ≡ true) (sym here) (lay_closed 0 (length (trees s.used)) p shut) in
    let a : w.entries ≡ new = cc in
    let b : w.place ≡ c = cc in
    subst₂ (λ (x : List Entry) (y : ℕ). Closed (moved s x y)) a b done
close_by m r s new c (refused i a x) h e k = absurd (apart_turn k)
close_by m r s new c (misfit i) h e k = absurd (apart_turn k)

pub turns_close_lem : TurnsClose
turns_close_lem m r s new c h k = close_by m r s new c (step m r (tree s.used s.current)) h refl k

pub turns_grow_lem : TurnsGrow
turns_grow_lem m L r q s new c d e = subst (λ (x : Turn). KeptTurn x (turn m q s)) e (turn_kept m L r q 0 d s)

pub advances_join_lem : AdvancesJoin
advances_join_lem m r cap j k s = (advance_on m r cap j k s, advance_off m r cap j k s)

pub advances_spend_lem : AdvancesSpend
advances_spend_lem m r cap k s = (advance_tells m r cap k s).spent
