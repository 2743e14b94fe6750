-- An advance at the table runs the calculus. Assumes nothing.
use Rattle.std.proofs.Common.{◌≡◌, ℕ, ◌+◌, ◌<◌, ◌≤◌, true, leb, List, [], length, get_or, take, drop, Err, Result, sym, refl, ap, ◌∙◌, subst, subst₂, arith, length-append, length-take-le, take-take, take_at}
use Rattle.std.proofs.lemmas.List.{take-append-drop}
use Rattle.std.proofs.lemmas.Bool.{leb-false, le-leb, and_from}
use Rattle.roles.specs.Meaning.{Meaning}
use Rattle.calculus.specs.Syntax.{Term, variable}
use Rattle.calculus.specs.Steps.{Value, CanStep, IsRoleFault, IsShapeFault, Steps}
use Rattle.tables.specs.declared.entry.Entry.{Entry}
use Rattle.tables.specs.Entries.{at, term_tag}
use Rattle.tables.specs.Ladder.{ladder}
use Rattle.tables.specs.Lower as below
use Rattle.tables.proofs.Ladders.{get_or_ladder}
use Rattle.trees.specs.Trees.{type_of, term_by, term_step, term_of}
use Rattle.trees.proofs.Unfolding.{term_same}
use Rattle.trees.proofs.Keeping.{keeps}
use Rattle.machine.specs.Labelled.{head, tree, erase}
use Rattle.machine.specs.Plans.{Met, ready, makes, refused, misfit, step}
use Rattle.machine.specs.Theorems.{rooted, Lower}
use Rattle.machine.specs.Turns.{State, Turn, rests, moves, role_fault, shape_fault, turned, turn, Advanced, term, Agrees}
use Rattle.machine.specs.declared.condition.Condition.{Condition}
use Rattle.machine.specs.declared.condition.Condition.TheVariants.{Going, Finished, RoleFault, ShapeFault, TableFull}
use Rattle.machine.proofs.Walking.{Sound, turn_agrees, walk_steps, walk_extends, Told, Tells, advance_tells}
use Rattle.machine.proofs.Agreeing.{closed_sound}
use Rattle.machine.proofs.Refusing.{refusals_told_lem}
use Rattle.runs.specs.declared.run.Run.{Run}
use Rattle.runs.specs.Reach.{Tagged, Ground}
use Rattle.runs.specs.Table.{Live, state, advanced}
use Rattle.runs.specs.declared.fault.RunFault.{RunFault}
use Rattle.runs.specs.declared.run.Progress.{Progress}
use Rattle.runs.specs.Meant.{Halts, Ran, Meant}
use Rattle.runs.specs.Went.{Went}
use Rattle.runs.proofs.Tags.{by_tag, tree_at, below_all}

-- the term of a numbered tree is the term of its entry
term_tagged : (e : Entry) → Tagged e → term_tag e.tag ≡ true
term_tagged e t = and_from (leb 16 e.tag) (leb e.tag 26) (le-leb 16 e.tag t.0) (le-leb e.tag 26 t.1)

below_by : (i : ℕ) (e : Entry) → Tagged e → Lower i e (head e) → below.Lower e i
below_by i e t =
    by_tag (λ x. Lower i x (head x) → below.Lower x i)
    (λ f s t l. record { first = λ q. absurd (omega arith); second = λ q. absurd (omega arith) }) (λ f s t l. record { first = λ q. absurd (omega arith); second = λ q. absurd (omega arith) })
    (λ f s t l. record { first = λ q. l; second = λ q. absurd (omega arith) }) (λ f s t l. record { first = λ q. l.0; second = λ q. l.1 })
    (λ f s t l. record { first = λ q. l; second = λ q. absurd (omega arith) }) (λ f s t l. record { first = λ q. l; second = λ q. absurd (omega arith) })
    (λ f s t l. record { first = λ q. l; second = λ q. absurd (omega arith) }) (λ f s t l. record { first = λ q. l; second = λ q. absurd (omega arith) })
    (λ f s t l. record { first = λ q. l.0; second = λ q. l.1 })
    (λ f s t l. record { first = λ q. l; second = λ q. absurd (omega arith) }) (λ f s t l. record { first = λ q. l; second = λ q. absurd (omega arith) }) e t

module _ (types us : List Entry) (G : Ground us) where
  erase_rooted : (i : ℕ) (e : Entry) → Tagged e → erase (type_of types) (rooted i (tree us e.first) (tree us e.second) (head e)) ≡ term_by (type_of types) e (λ j. erase (type_of types) (tree us j))
  erase_rooted i e t =
      by_tag (λ x. erase (type_of types) (rooted i (tree us x.first) (tree us x.second) (head x)) ≡ term_by (type_of types) x (λ j. erase (type_of types) (tree us j)))
      (λ f s t. refl) (λ f s t. refl) (λ f s t. refl) (λ f s t. refl) (λ f s t. refl) (λ f s t. refl) (λ f s t. refl) (λ f s t. refl) (λ f s t. refl) (λ f s t. refl) (λ f s t. refl) e t

  term_unfolds : (i : ℕ) → i < length us → term_of types us i ≡ term_by (type_of types) (at us i) (term_of types us)
  unfolding term_of
  term_unfolds i l =
      term_same (type_of types) i (λ j. get_or (ladder (term_step types us) i) j (variable 0)) (term_of types us) (λ j h. get_or_ladder (term_step types us) i j (variable 0) h) (at us i)
      (term_tagged (at us i) (G.tagged i l)) (below_by i (at us i) (G.tagged i l) (G.lowered i l))

  terms_below : (i : ℕ) → i < length us → erase (type_of types) (tree us i) ≡ term_of types us i
  terms_below =
      below_all (λ i. erase (type_of types) (tree us i) ≡ term_of types us i) (length us)
      (λ n q b.
      let e = at us n in
      let t = G.tagged n q in
      ap (erase (type_of types)) (tree_at us n e G q refl)
      ∙ (erase_rooted n e t ∙ (term_same (type_of types) n (λ j. erase (type_of types) (tree us j)) (term_of types us) b e (term_tagged e t) (below_by n e t (G.lowered n q)) ∙ sym (term_unfolds n q))))

pub term_at : (types es : List Entry) (u c : ℕ) → Ground (take u es) → u ≤ length es → c < u → term (type_of types) (state es u c) ≡ term_of types es c
term_at types es u c G l h =
    let n = length-take-le u es l in
    let k : c < length (take u es) = omega arith in
    terms_below types (take u es) G c k
    ∙ (sym ((keeps types (take u es) [] (drop u es)).terms_kept c k) ∙ ap (λ (z : List Entry). term_of types z c) (take-append-drop u es))

module _ (m : Meaning) (r k n : ℕ) (fs : List Entry) (u c : ℕ) (G : Ground (take u fs)) (low : u ≤ length fs) (present : c < u) (sound : Sound (state fs u c)) where
  abbrev s : State
  s = state fs u c

  agrees : (types : List Entry) (t : Turn) → turn m r s ≡ t → Agrees m r (type_of types) s t
  agrees types t e = subst (Agrees m r (type_of types) s) e (turn_agrees m r 0 (type_of types) s sound)

  at_term : (P : Term → Type 0) (types : List Entry) → P (term (type_of types) s) → P (term_of types fs c)
  at_term P types h = subst P (term_at types fs u c G low present) h

  can : (types new : List Entry) (d : ℕ) → turn m r s ≡ moves new d → CanStep m r (term_of types fs c)
  can types new d e = at_term (λ x. CanStep m r x) types (_, agrees types (moves new d) e)

  refused_here : (i a d : ℕ) (o : Met) → turned (length (take u fs)) o ≡ role_fault i a d → o ≡ refused i a d
  refused_here i a d ready e = let z : ◌≡◌ {A = ℕ} 0 1 = cc in let y : ⊥ = omega arith in absurd y
  refused_here i a d (makes p) e = let z : ◌≡◌ {A = ℕ} 0 1 = cc in let y : ⊥ = omega arith in absurd y
  refused_here i a d (refused i' a' d') e = cc
  refused_here i a d (misfit j) e = let z : ◌≡◌ {A = ℕ} 0 1 = cc in let y : ⊥ = omega arith in absurd y

  pub halts_by : (cap : ℕ) → cap ≡ length fs → (x : Condition) → Told m r cap k n s x → Halts m r n k fs u c x
  halts_by cap e Going h = (h.0, λ types. can types h.1.0 h.1.1 h.1.2)
  halts_by cap e Finished h = λ types. at_term Value types (agrees types rests h)
  halts_by cap e (RoleFault i a d) h =
      let f = (refusals_told_lem m r (tree (take u fs) c) i a d).0 (refused_here i a d (step m r (tree (take u fs) c)) h) in
      (f, λ types. at_term (IsRoleFault m r) types (agrees types (role_fault i a d) h))
  halts_by cap e (ShapeFault i) h = λ types. at_term (IsShapeFault m r) types (agrees types (shape_fault i) h)
  halts_by cap e TableFull h =
      let new = h.1.0 in
      let z = length-take-le u fs low in
      let o = leb-false (length (take u fs) + length new) cap h.1.3 in
      (h.0, (λ types. can types new h.1.1 h.1.2), (new, h.1.1, h.1.2, omega arith))

module _ (m : Meaning) (k : ℕ) (x y : Run) (es fs : List Entry) (rs : List ℕ) (n : ℕ) (L : Live es rs x.used x.current) (W : Went m k x y es fs n) where
  abbrev before : State
  before = state es x.used x.current

  abbrev after : State
  after = state fs y.used y.current

  tells : Tells m x.role (length es) k before (advanced fs n y.used y.current y.condition)
  tells = subst (λ (a : Advanced). Tells m x.role (length es) k before a) W.is (advance_tells m x.role (length es) k before)

  walked : (types : List Entry) → Steps m x.role n (term (type_of types) before) (term (type_of types) after) × Sound after
  walked types = walk_steps m x.role (length es) (type_of types) n before after (closed_sound before L.shut) tells.walked

  kept : take x.used fs ≡ take x.used es
  kept =
      let X = walk_extends m x.role (length es) n before after tells.walked in
      let a = length-take-le x.used es L.low in
      let b = length-take-le y.used fs W.low in
      let c = ap length X.kept in
      let d = length-append (take x.used es) X.added in
      let l : x.used ≤ y.used = omega arith in
      sym (take-take x.used y.used fs l) ∙ (ap (take x.used) X.kept ∙ take_at (take x.used es) X.added x.used a)

  pub ran : Ran m x y es fs k n
  ran = record {
    steps = λ types.
        subst₂ (λ (e e' : Term). Steps m x.role n e e') (term_at types es x.used x.current L.ground L.low L.present)
        (term_at types fs y.used y.current W.ground W.low W.present) (walked types).0;
    within = tells.within;
    halts = halts_by m x.role k n fs y.used y.current W.ground W.low W.present (walked []).1 (length es) (sym W.same) y.condition tells.told;
    kept = kept;
  }

-- a refusal changes nothing
pub meant_err : (m : Meaning) (x : Run) (es : List Entry) (k : ℕ) (r : Result Progress RunFault) (f : RunFault) → r ≡ Err f → Meant m x x es es k r
meant_err m x es k r f e = subst (λ (v : Result Progress RunFault). Meant m x x es es k v) (sym e) (refl, refl)
