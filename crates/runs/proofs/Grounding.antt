-- What a turn appends is grounded. Assumes nothing.
use Rattle.std.proofs.Common.{◌≡◌, ℕ, zero, suc, ◌+◌, ◌<◌, ◌≤◌, true, List, [], ◌∷◌, ◌++◌, length, get_or, take, drop, Ok, sym, refl, ap, ◌∙◌, subst, ⊎_elim, append_assoc, arith, length-append, length-take-le, take-take, take_at}
use Rattle.machine.proofs.Unfolding.{trees_stay_lem}
use Rattle.runs.specs.Copy.{laid}
use Rattle.std.proofs.lemmas.List.{length_push, get_or_push, get_or_append_left, take-append-drop}
use Rattle.std.proofs.lemmas.Bool.{cases_eq}
use Rattle.roles.specs.Meaning.{Meaning}
use Rattle.tables.specs.declared.entry.Entry.{Entry}
use Rattle.machine.specs.Labelled.{One, abstracts, fixes, guards, checks, units, raises, restricts, Two, applies, lets, head, entry_one, entry_two, Tree, stray, leaf, one, two, label, trees, tree, closed}
use Rattle.machine.specs.Plans.{Plan, old, new_one, new_two, Written, write, Met, ready, makes, refused, misfit, step}
use Rattle.machine.specs.Turns.{turn, turned, moves}
use Rattle.machine.specs.Theorems.{Lower}
use Rattle.machine.proofs.Growing.{append-nil, length_trees, Held, there, held_at, HeldPlan, closed_whole, trees_held}
use Rattle.machine.proofs.Stable.{MetBy}
use Rattle.machine.proofs.Keeping.{step_held}
use Rattle.machine.proofs.Agreeing.{turns_close_lem}
use Rattle.runs.specs.Reach.{no_entry, Tagged, Ground, Known}
use Rattle.runs.specs.Table.{TurnIs, Live}
use Rattle.runs.specs.declared.turn.Moved.{Moved}
use Rattle.runs.proofs.Laying.{laid_take}

abbrev pub LowPlan : ℕ → Plan → Type 0
LowPlan n (old t) = label t < n
LowPlan n (new_one h p) = LowPlan n p
LowPlan n (new_two h p q) = LowPlan n p × LowPlan n q

pub low_up : (n m : ℕ) (p : Plan) → n ≤ m → LowPlan n p → LowPlan m p
low_up n m (old t) h l = omega arith
low_up n m (new_one x p) h l = low_up n m p h l
low_up n m (new_two x p q) h l = (low_up n m p h l.0, low_up n m q h l.1)

pub snoc_all : (P : ℕ → Entry → Type 0) (vs : List Entry) (x : Entry) → ((k : ℕ) → k < length vs → P k (get_or vs k no_entry)) → P (length vs) x → (k : ℕ) → k < length (vs ++ (x ∷ [])) → P k (get_or (vs ++ (x ∷ [])) k no_entry)
snoc_all P vs x below here k l =
    let n = length_push vs x in
    ⊎_elim
    (λ q. subst (λ (j : ℕ). P j (get_or (vs ++ (x ∷ [])) j no_entry)) (sym q) (subst (λ (y : Entry). P (length vs) y) (sym (get_or_push vs x no_entry (length vs) refl)) here))
    (λ q. let s : k < length vs = omega arith in subst (λ (y : Entry). P k y) (sym (get_or_append_left vs (x ∷ []) no_entry k s)) (below k s))
    (cases_eq k (length vs))

ground_snoc : (vs : List Entry) (x : Entry) → Ground vs → Tagged x → Lower (length vs) x (head x) → (x.tag ≡ 17 → ⊥) → Ground (vs ++ (x ∷ []))
ground_snoc vs x G t l n = record {
  tagged = snoc_all (λ k y. Tagged y) vs x G.tagged t;
  lowered = snoc_all (λ k y. Lower k y (head y)) vs x G.lowered l;
  small = snoc_all (λ k y. y.tag ≡ 17 → y.first < 1024) vs x G.small (λ q. absurd (n q));
}

-- a new entry
abbrev GoodAt : ℕ → Entry → Type 0
GoodAt n x = Tagged x × Lower n x (head x) × (x.tag ≡ 17 → ⊥)

good_one : (h : One) (j n : ℕ) → j < n → GoodAt n (entry_one h j)
good_one (abstracts c₁ c₂) j n l = ((omega arith, omega arith), l, λ q. omega arith)
good_one fixes j n l = ((omega arith, omega arith), l, λ q. omega arith)
good_one (guards a) j n l = ((omega arith, omega arith), l, λ q. omega arith)
good_one checks j n l = ((omega arith, omega arith), l, λ q. omega arith)
good_one units j n l = ((omega arith, omega arith), l, λ q. omega arith)
good_one (raises a) j n l = ((omega arith, omega arith), l, λ q. omega arith)
good_one (restricts a) j n l = ((omega arith, omega arith), l, λ q. omega arith)

good_two : (h : Two) (i j n : ℕ) → i < n → j < n → GoodAt n (entry_two h i j)
good_two applies i j n k l = ((omega arith, omega arith), (k, l), λ q. omega arith)
good_two lets i j n k l = ((omega arith, omega arith), (k, l), λ q. omega arith)

abbrev Sound : List Entry → Written → Type 0
Sound us w = Ground (us ++ w.entries) × (w.place < length us + length w.entries)

add_snoc : (us xs : List Entry) (x : Entry) → Ground (us ++ xs) → GoodAt (length (us ++ xs)) x → Ground (us ++ (xs ++ (x ∷ [])))
add_snoc us xs x G g = subst Ground (append_assoc us xs (x ∷ [])) (ground_snoc (us ++ xs) x G g.0 g.1 g.2)

write_sound : (us : List Entry) (p : Plan) → Ground us → LowPlan (length us) p → Sound us (write (length us) p)
write_sound us (old t) G l = (subst Ground (sym (append-nil us)) G, omega arith)
write_sound us (new_one h p) G l =
    let w : Written = write (length us) p in
    let i = write_sound us p G l in
    let n = length-append us w.entries in
    let k = length_push w.entries (entry_one h w.place) in
    (add_snoc us w.entries (entry_one h w.place) i.0 (good_one h w.place (length (us ++ w.entries)) (omega (arith, i.1))), omega arith)
write_sound us (new_two h p q) G l =
    let b : ℕ = length us in
    let w : Written = write b p in
    let c : ℕ = b + length w.entries in
    let v : Written = write c q in
    let i = write_sound us p G l.0 in
    let n : length (us ++ w.entries) ≡ c = length-append us w.entries in
    let j : Sound (us ++ w.entries) v =
    subst (λ (y : ℕ). Sound (us ++ w.entries) (write y q)) n (write_sound (us ++ w.entries) q i.0 (low_up b (length (us ++ w.entries)) q (omega arith) l.1)) in
    let xs : List Entry = w.entries ++ v.entries in
    let x : Entry = entry_two h w.place v.place in
    let G₂ : Ground (us ++ xs) = subst Ground (append_assoc us w.entries v.entries) j.0 in
    let m = length-append us xs in
    let o = length-append w.entries v.entries in
    let k = length_push xs x in
    (add_snoc us xs x G₂ (good_two h w.place v.place (length (us ++ xs)) (omega (arith, i.1)) (omega (arith, j.1))), omega arith)

-- what is held has its number in the list
in_range : (acc : List Tree) (i : ℕ) (t : Tree) → there t → get_or acc i stray ≡ t → i < length acc
in_range [] i t p e = absurd (subst there (sym e) p)
in_range (x ∷ acc) zero t p e = omega arith
in_range (x ∷ acc) (suc i) t p e = let h = in_range acc i t p e in omega arith

held_there : (acc : List Tree) (t : Tree) → Held acc t → there t
held_there acc stray h = h
held_there acc (leaf i x) h = tt
held_there acc (one i x t) h = tt
held_there acc (two i x t u) h = tt

pub held_low : (acc : List Tree) (p : Plan) → HeldPlan acc p → LowPlan (length acc) p
held_low acc (old t) h = in_range acc (label t) t (held_there acc t h) (held_at acc t h)
held_low acc (new_one x p) h = held_low acc p h
held_low acc (new_two x p q) h = (held_low acc p h.0, held_low acc q h.1)

moves_entries : (new xs : List Entry) (k j : ℕ) → moves xs j ≡ moves new k → xs ≡ new
moves_entries new xs k j p = cc

moves_place : (new xs : List Entry) (k j : ℕ) → moves xs j ≡ moves new k → j ≡ k
moves_place new xs k j p = cc

ground_by : (us : List Entry) (o : Met) (new : List Entry) (k : ℕ) → Ground us → MetBy (HeldPlan (trees us)) o → turned (length us) o ≡ moves new k → Ground (us ++ new) × (k < length (us ++ new))
ground_by us ready new k G h q = let z : ◌≡◌ {A = ℕ} 0 1 = cc in let y : ⊥ = omega arith in absurd y
ground_by us (makes p) new k G h q =
    let w : Written = write (length us) p in
    let s = write_sound us p G (subst (λ (n : ℕ). LowPlan n p) (length_trees us) (held_low (trees us) p h)) in
    let e = moves_entries new w.entries k w.place q in
    let f = moves_place new w.entries k w.place q in
    let a = length-append us w.entries in
    let l : w.place < length (us ++ w.entries) = omega (arith, s.1) in
    (subst (λ (y : List Entry). Ground (us ++ y)) e s.0, subst (λ (j : ℕ). j < length (us ++ new)) f (subst (λ (y : List Entry). w.place < length (us ++ y)) e l))
ground_by us (refused i a r) new k G h q = let z : ◌≡◌ {A = ℕ} 0 1 = cc in let y : ⊥ = omega arith in absurd y
ground_by us (misfit i) new k G h q = let z : ◌≡◌ {A = ℕ} 0 1 = cc in let y : ⊥ = omega arith in absurd y

pub turns_ground : (m : Meaning) (r : ℕ) (us : List Entry) (c : ℕ) (new : List Entry) (k : ℕ) → Ground us → closed 0 (tree us c) ≡ true → turn m r (record { used = us; current = c }) ≡ moves new k →
    Ground (us ++ new) × (k < length (us ++ new)) × (closed 0 (tree (us ++ new) k) ≡ true)
turns_ground m r us c new k G cl q =
    let h = step_held (trees us) m r (tree us c) (trees_held us c (closed_whole 0 (tree us c) cl)) in
    let g = ground_by us (step m r (tree us c)) new k G h q in
    (g.0, g.1, turns_close_lem m r (record { used = us; current = c }) new k cl q)

-- a tree is the same in the first part of a table
pub tree_prefix : (us : List Entry) (m k : ℕ) → m ≤ length us → k < m → tree us k ≡ tree (take m us) k
tree_prefix us m k h q =
    let a = length-take-le m us h in
    ap (λ (x : List Entry). tree x k) (sym (take-append-drop m us)) ∙ trees_stay_lem (take m us) (drop m us) k (omega arith)

pub tree_longer : (es : List Entry) (m n k : ℕ) → m ≤ n → n ≤ length es → k < m → tree (take n es) k ≡ tree (take m es) k
tree_longer es m n k h l q =
    let b = length-take-le n es l in
    tree_prefix (take n es) m k (omega arith) q ∙ ap (λ (x : List Entry). tree x k) (take-take m n es h)

-- what was written is the rest of the used entries
pub take_laid : (es : List Entry) (u : ℕ) (new : List Entry) → u ≤ length es → take (u + length new) (laid es u new) ≡ take u es ++ new
take_laid es u new h =
    let a = length-take-le u es h in
    ap (take (u + length new)) (sym (append_assoc (take u es) new (drop (u + length new) es)))
    ∙ take_at (take u es ++ new) (drop (u + length new) es) (u + length new) (length-append (take u es) new ∙ ap (λ (k : ℕ). k + length new) a)

module _ (m : Meaning) (r : ℕ) (es fs : List Entry) (rs : List ℕ) (u c : ℕ) (L : Live es rs u c) (x : Moved) (T : TurnIs m r es fs u c (Ok x)) where
  used_is : take x.used fs ≡ take u es ++ T.0
  used_is = let l = L.low in ap (λ (j : ℕ). take j fs) T.3 ∙ (ap (take (u + length T.0)) T.2 ∙ take_laid es u T.0 l)

  after : Ground (take u es ++ T.0) × (x.current < length (take u es ++ T.0)) × (closed 0 (tree (take u es ++ T.0) x.current) ≡ true)
  after = turns_ground m r (take u es) c T.0 x.current L.ground L.shut T.1

  pub moved_ground : Ground (take x.used fs)
  moved_ground = subst Ground (sym used_is) after.0

  pub moved_more : u ≤ x.used
  moved_more = omega (arith, T.3)

  pub moved_known : Known (take u (take x.used fs)) rs
  moved_known =
      let l = L.low in
      let P : List Entry → Type 0 = λ y. Known y rs in
      subst P (sym (take-take u x.used fs moved_more ∙ (ap (take u) T.2 ∙ laid_take es u T.0 u (omega arith) l))) L.known

  pub moved_live : (qs : List ℕ) → length fs ≡ length es → length qs ≡ length rs → Known (take x.used fs) qs → Live fs qs x.used x.current
  moved_live qs same keep K =
      let l = L.low in
      let a = L.reaching in
      let b = length-take-le u es l in
      let d = length-append (take u es) T.0 in
      let h = after.1 in
      let C : List Entry → Type 0 = λ y. closed 0 (tree y x.current) ≡ true in
      record {
        ground = moved_ground;
        known = K;
        shut = subst C (sym used_is) after.2;
        low = omega (arith, T.4);
        reaching = omega arith;
        present = omega (arith, T.3);
      }
