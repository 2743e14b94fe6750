-- The step of an entry, by its tag and that of its first operand. Assumes nothing.
use Rattle.std.proofs.Common.{◌≡◌, ℕ, ◌+◌, ◌<◌, ◌≤◌, Bool, true, false, cond, eqb, List, length, get_or, Some, None, Option, Ok, Err, Result, sym, refl, ap, ◌∙◌, true≢false, add-one, arith}
use mathlib.Core.Bool.{false≢true}
use Rattle.roles.specs.Meaning.{Meaning}
use Rattle.tables.specs.declared.entry.Entry.{Entry}
use Rattle.machine.specs.Labelled.{fixes, checks, raises, restricts, applies, lets, head, Tree, one, tree}
use Rattle.machine.specs.Plans.{Plan, old, new_one, new_two, replace, Met, ready, makes, misfit, valued, call, granted, test, hand, inward, under, step}
use Rattle.machine.specs.Theorems.{rooted, Lower}
use Rattle.runs.specs.declared.find.Act.TheVariants.{Place, Unit}
use Rattle.runs.specs.declared.find.Redex.{Redex}
use Rattle.machine.specs.declared.condition.Condition.{Condition}
use Rattle.machine.specs.declared.condition.Condition.TheVariants.{Going, Finished, RoleFault, ShapeFault, TableFull}
use Rattle.runs.specs.Reach.{no_entry, Tagged, Ground}
use Rattle.runs.specs.Find.{wrap, along, met_of, path_of, is_ready, value_tag, at_once, found_here, role_within, one_out}
use Rattle.runs.proofs.Tags.{by_tag, retag, tree_at, lower_at, tagged_at}

valued_is : (f : Entry) (j : ℕ) (t u : Tree) → Tagged f → valued (rooted j t u (head f)) ≡ value_tag f.tag
valued_is f j t u g =
    by_tag (λ x. valued (rooted j t u (head x)) ≡ value_tag x.tag)
    (λ f s t. refl) (λ f s t. refl) (λ f s t. refl) (λ f s t. refl) (λ f s t. refl) (λ f s t. refl) (λ f s t. refl) (λ f s t. refl) (λ f s t. refl) (λ f s t. refl) (λ f s t. refl) f g

call_here : (i : ℕ) (n : Tree) (f : Entry) (j : ℕ) (t u : Tree) → Tagged f → call i (rooted j t u (head f)) n ≡ cond (eqb f.tag 18) (makes (replace 0 n t)) (misfit i)
call_here i n f j t u g =
    by_tag (λ x. call i (rooted j t u (head x)) n ≡ cond (eqb x.tag 18) (makes (replace 0 n t)) (misfit i))
    (λ f s t. refl) (λ f s t. refl) (λ f s t. refl) (λ f s t. refl) (λ f s t. refl) (λ f s t. refl) (λ f s t. refl) (λ f s t. refl) (λ f s t. refl) (λ f s t. refl) (λ f s t. refl) f g

hand_here : (i : ℕ) (n : Tree) (f : Entry) (j : ℕ) (t u : Tree) → Tagged f → hand i (rooted j t u (head f)) n ≡ cond (eqb f.tag 23) (makes (replace 0 t n)) (misfit i)
hand_here i n f j t u g =
    by_tag (λ x. hand i (rooted j t u (head x)) n ≡ cond (eqb x.tag 23) (makes (replace 0 t n)) (misfit i))
    (λ f s t. refl) (λ f s t. refl) (λ f s t. refl) (λ f s t. refl) (λ f s t. refl) (λ f s t. refl) (λ f s t. refl) (λ f s t. refl) (λ f s t. refl) (λ f s t. refl) (λ f s t. refl) f g

test_here : (i : ℕ) (m : Meaning) (r : ℕ) (f : Entry) (j : ℕ) (t u : Tree) → Tagged f → test i (rooted j t u (head f)) m r ≡ cond (eqb f.tag 21) (granted (m.dom r f.third) i f.third r t) (misfit i)
test_here i m r f j t u g =
    by_tag (λ x. test i (rooted j t u (head x)) m r ≡ cond (eqb x.tag 21) (granted (m.dom r x.third) i x.third r t) (misfit i))
    (λ f s t. refl) (λ f s t. refl) (λ f s t. refl) (λ f s t. refl) (λ f s t. refl) (λ f s t. refl) (λ f s t. refl) (λ f s t. refl) (λ f s t. refl) (λ f s t. refl) (λ f s t. refl) f g

some_none : (a : ℕ) → ◌≡◌ {A = Option ℕ} (Some a) None → ⊥
some_none a p = let z : ◌≡◌ {A = ℕ} 0 1 = cc in omega arith

some_same : (a b : ℕ) → ◌≡◌ {A = Option ℕ} (Some a) (Some b) → a ≡ b
some_same a b p = cc

pub first_below : (us : List Entry) (G : Ground us) (i : ℕ) → i < length us → value_tag (get_or us i no_entry).tag ≡ false → ((get_or us i no_entry).tag ≡ 17 → ⊥) → (get_or us i no_entry).first < i
first_below us G i l =
    let e : Entry = get_or us i no_entry in
    by_tag (λ x. Lower i x (head x) → value_tag x.tag ≡ false → (x.tag ≡ 17 → ⊥) → x.first < i)
    (λ a b c L v n. absurd (true≢false v)) (λ a b c L v n. absurd (n refl)) (λ a b c L v n. L) (λ a b c L v n. L.0) (λ a b c L v n. L) (λ a b c L v n. L) (λ a b c L v n. L) (λ a b c L v n. L)
    (λ a b c L v n. L.0) (λ a b c L v n. L) (λ a b c L v n. L) e (tagged_at us i e G l refl) (lower_at us i e G l refl)

module _ (m : Meaning) (us : List Entry) where
  value_steps : (r : ℕ) (e : Entry) (i : ℕ) (t u : Tree) → Tagged e → value_tag e.tag ≡ true → step m r (rooted i t u (head e)) ≡ ready
  unfolding step
  value_steps r e i t u g h =
      by_tag (λ x. value_tag x.tag ≡ true → step m r (rooted i t u (head x)) ≡ ready)
      (λ f s t v. refl) (λ f s t v. absurd (false≢true v)) (λ f s t v. refl) (λ f s t v. absurd (false≢true v)) (λ f s t v. absurd (false≢true v)) (λ f s t v. refl) (λ f s t v. absurd (false≢true v))
      (λ f s t v. refl) (λ f s t v. absurd (false≢true v)) (λ f s t v. absurd (false≢true v)) (λ f s t v. absurd (false≢true v)) e g h

  variable_steps : (r : ℕ) (e : Entry) (i : ℕ) (t u : Tree) → e.tag ≡ 17 → step m r (rooted i t u (head e)) ≡ misfit i
  unfolding step
  variable_steps r e i t u p = retag (λ x. step m r (rooted i t u (head x)) ≡ misfit i) e 17 (λ f s t. refl) p

  met_cond : (b : Bool) (x y : Result Redex Condition) (i : ℕ) → cond b (met_of us i x) (met_of us i y) ≡ met_of us i (cond b x y)
  met_cond true x y i = refl
  met_cond false x y i = refl

  granted_met : (b : Bool) (i a r k : ℕ) → granted b i a r (tree us k) ≡ met_of us i (cond b (at_once (Unit k)) (Err (RoleFault i a r)))
  granted_met true i a r k = refl
  granted_met false i a r k = refl

  abbrev Rooted : ℕ → Entry → Type 0
  Rooted i x = tree us i ≡ rooted i (tree us x.first) (tree us x.second) (head x)

  -- the first operand is a value
  here_steps : (r : ℕ) (i : ℕ) (e f : Entry) (ok : Bool) → Tagged e → Tagged f → value_tag f.tag ≡ true → ok ≡ m.dom r f.third →
      Rooted i e → Rooted e.first f → value_tag e.tag ≡ false → (e.tag ≡ 17 → ⊥) → step m r (tree us i) ≡ met_of us i (found_here ok r i e f)
  unfolding step
  here_steps r i e f ok ge gf vf dom =
      by_tag (λ x. Rooted i x → Rooted x.first f → value_tag x.tag ≡ false → (x.tag ≡ 17 → ⊥) → step m r (tree us i) ≡ met_of us i (found_here ok r i x f))
      (λ a b c R T v n. absurd (true≢false v))
      (λ a b c R T v n. absurd (n refl))
      (λ a b c R T v n. absurd (true≢false v))
      (λ a b c R T v n.
      ap (step m r) R
      ∙ (ap (λ z. inward z (λ p. new_two applies p (old (tree us b))) (call i (tree us a) (tree us b))) (rest a T)
      ∙ (ap (λ z. call i z (tree us b)) T ∙ (call_here i (tree us b) f a (tree us f.first) (tree us f.second) gf
      ∙ met_cond (eqb f.tag 18) (at_once (Place f.first b)) (Err (ShapeFault i)) i))))
      (λ a b c R T v n.
      ap (step m r) R
      ∙ (ap (λ z. inward z (new_one fixes) (call i (tree us a) (one i fixes (tree us a)))) (rest a T)
      ∙ (ap (λ z. call i z (one i fixes (tree us a))) T ∙ (call_here i (one i fixes (tree us a)) f a (tree us f.first) (tree us f.second) gf
      ∙ (ap (λ z. cond (eqb f.tag 18) (makes (replace 0 z (tree us f.first))) (misfit i)) (sym R)
      ∙ met_cond (eqb f.tag 18) (at_once (Place f.first i)) (Err (ShapeFault i)) i)))))
      (λ a b c R T v n. absurd (true≢false v))
      (λ a b c R T v n.
      ap (step m r) R
      ∙ (ap (λ z. inward z (new_one checks) (test i (tree us a) m r)) (rest a T)
      ∙ (ap (λ z. test i z m r) T ∙ (test_here i m r f a (tree us f.first) (tree us f.second) gf
      ∙ (ap (λ z. cond (eqb f.tag 21) (granted z i f.third r (tree us f.first)) (misfit i)) (sym dom)
      ∙ (ap (λ z. cond (eqb f.tag 21) z (misfit i)) (granted_met ok i f.third r f.first)
      ∙ met_cond (eqb f.tag 21) (cond ok (at_once (Unit f.first)) (Err (RoleFault i f.third r))) (Err (ShapeFault i)) i))))))
      (λ a b c R T v n. absurd (true≢false v))
      (λ a b c R T v n.
      ap (step m r) R
      ∙ (ap (λ z. inward z (λ p. new_two lets p (old (tree us b))) (hand i (tree us a) (tree us b))) (rest a T)
      ∙ (ap (λ z. hand i z (tree us b)) T ∙ (hand_here i (tree us b) f a (tree us f.first) (tree us f.second) gf
      ∙ met_cond (eqb f.tag 23) (at_once (Place b f.first)) (Err (ShapeFault i)) i))))
      (λ a b c R T v n.
      ap (step m r) R
      ∙ ap (λ z. cond z (makes (old (tree us a))) (under i (m.join c r) (λ j. inward (step m j (tree us a)) (new_one (raises c)) (misfit i)))) (value a T))
      (λ a b c R T v n.
      ap (step m r) R
      ∙ ap (λ z. cond z (makes (old (tree us a))) (under i (m.meet c r) (λ j. inward (step m j (tree us a)) (new_one (restricts c)) (misfit i)))) (value a T))
      e ge
    where
      rest : (k : ℕ) → Rooted k f → step m r (tree us k) ≡ ready
      rest k T = ap (step m r) T ∙ value_steps r f k (tree us f.first) (tree us f.second) gf vf

      value : (k : ℕ) → Rooted k f → valued (tree us k) ≡ true
      value k T = ap valued T ∙ (valued_is f k (tree us f.first) (tree us f.second) gf ∙ vf)

  -- no role to step under
  none_steps : (r : ℕ) (i : ℕ) (e : Entry) → Tagged e → Rooted i e → valued (tree us e.first) ≡ false → role_within m r e ≡ None → step m r (tree us i) ≡ misfit i
  unfolding step
  none_steps r i e ge =
      by_tag (λ x. Rooted i x → valued (tree us x.first) ≡ false → role_within m r x ≡ None → step m r (tree us i) ≡ misfit i)
      (λ a b c R v n. absurd (some_none r n)) (λ a b c R v n. absurd (some_none r n)) (λ a b c R v n. absurd (some_none r n)) (λ a b c R v n. absurd (some_none r n)) (λ a b c R v n. absurd (some_none r n))
      (λ a b c R v n. absurd (some_none r n)) (λ a b c R v n. absurd (some_none r n)) (λ a b c R v n. absurd (some_none r n)) (λ a b c R v n. absurd (some_none r n))
      (λ a b c R v n.
      ap (step m r) R
      ∙ (ap (λ z. cond z (makes (old (tree us a))) (under i (m.join c r) (λ j. inward (step m j (tree us a)) (new_one (raises c)) (misfit i)))) v
      ∙ ap (λ z. under i z (λ j. inward (step m j (tree us a)) (new_one (raises c)) (misfit i))) n))
      (λ a b c R v n.
      ap (step m r) R
      ∙ (ap (λ z. cond z (makes (old (tree us a))) (under i (m.meet c r) (λ j. inward (step m j (tree us a)) (new_one (restricts c)) (misfit i)))) v
      ∙ ap (λ z. under i z (λ j. inward (step m j (tree us a)) (new_one (restricts c)) (misfit i))) n))
      e ge

  -- the first operand steps
  abbrev out : (Plan → Plan) → ℕ → Result Redex Condition → Met
  out f k (Ok x) = makes (f (along us x.path k x.act))
  out f k (Err c) = met_of us k (Err c)

  inward_out : (F : Result Redex Condition) (k : ℕ) (f : Plan → Plan) (v : Met) → is_ready F ≡ false → inward (met_of us k F) f v ≡ out f k F
  inward_out (Ok x) k f v h = refl
  inward_out (Err Going) k f v h = refl
  inward_out (Err Finished) k f v h = absurd (true≢false h)
  inward_out (Err (RoleFault i a r)) k f v h = refl
  inward_out (Err (ShapeFault i)) k f v h = refl
  inward_out (Err TableFull) k f v h = refl

  out_is : (F : Result Redex Condition) (i : ℕ) → out (λ p. wrap (head (get_or us i no_entry)) p (old (tree us (get_or us i no_entry).second))) (get_or us i no_entry).first F ≡ met_of us i (one_out F)
  out_is (Ok x) i = sym (ap (λ k. makes (along us k i x.act)) (add-one x.path))
  out_is (Err Going) i = refl
  out_is (Err Finished) i = refl
  out_is (Err (RoleFault k a r)) i = refl
  out_is (Err (ShapeFault k)) i = refl
  out_is (Err TableFull) i = refl

  some_steps : (r j : ℕ) (i : ℕ) (F : Result Redex Condition) (e : Entry) → Tagged e → is_ready F ≡ false → Rooted i e → valued (tree us e.first) ≡ false → role_within m r e ≡ Some j →
      step m j (tree us e.first) ≡ met_of us e.first F → value_tag e.tag ≡ false → (e.tag ≡ 17 → ⊥) →
      step m r (tree us i) ≡ out (λ p. wrap (head e) p (old (tree us e.second))) e.first F
  unfolding step
  some_steps r j i F e ge nr =
      by_tag (λ x. Rooted i x → valued (tree us x.first) ≡ false → role_within m r x ≡ Some j → step m j (tree us x.first) ≡ met_of us x.first F → value_tag x.tag ≡ false → (x.tag ≡ 17 → ⊥) →
      step m r (tree us i) ≡ out (λ p. wrap (head x) p (old (tree us x.second))) x.first F)
      (λ a b c R v q S w n. absurd (true≢false w))
      (λ a b c R v q S w n. absurd (n refl))
      (λ a b c R v q S w n. absurd (true≢false w))
      (λ a b c R v q S w n.
      ap (step m r) R
      ∙ (ap (λ z. inward z (λ p. new_two applies p (old (tree us b))) (call i (tree us a) (tree us b))) (ap (λ k. step m k (tree us a)) (some_same r j q) ∙ S)
      ∙ inward_out F a (λ p. new_two applies p (old (tree us b))) (call i (tree us a) (tree us b)) nr))
      (λ a b c R v q S w n.
      ap (step m r) R
      ∙ (ap (λ z. inward z (new_one fixes) (call i (tree us a) (one i fixes (tree us a)))) (ap (λ k. step m k (tree us a)) (some_same r j q) ∙ S)
      ∙ inward_out F a (new_one fixes) (call i (tree us a) (one i fixes (tree us a))) nr))
      (λ a b c R v q S w n. absurd (true≢false w))
      (λ a b c R v q S w n.
      ap (step m r) R
      ∙ (ap (λ z. inward z (new_one checks) (test i (tree us a) m r)) (ap (λ k. step m k (tree us a)) (some_same r j q) ∙ S)
      ∙ inward_out F a (new_one checks) (test i (tree us a) m r) nr))
      (λ a b c R v q S w n. absurd (true≢false w))
      (λ a b c R v q S w n.
      ap (step m r) R
      ∙ (ap (λ z. inward z (λ p. new_two lets p (old (tree us b))) (hand i (tree us a) (tree us b))) (ap (λ k. step m k (tree us a)) (some_same r j q) ∙ S)
      ∙ inward_out F a (λ p. new_two lets p (old (tree us b))) (hand i (tree us a) (tree us b)) nr))
      (λ a b c R v q S w n.
      ap (step m r) R
      ∙ (ap (λ z. cond z (makes (old (tree us a))) (under i (m.join c r) (λ j. inward (step m j (tree us a)) (new_one (raises c)) (misfit i)))) v
      ∙ (ap (λ z. under i z (λ j. inward (step m j (tree us a)) (new_one (raises c)) (misfit i))) q
      ∙ (ap (λ z. inward z (new_one (raises c)) (misfit i)) S ∙ inward_out F a (new_one (raises c)) (misfit i) nr))))
      (λ a b c R v q S w n.
      ap (step m r) R
      ∙ (ap (λ z. cond z (makes (old (tree us a))) (under i (m.meet c r) (λ j. inward (step m j (tree us a)) (new_one (restricts c)) (misfit i)))) v
      ∙ (ap (λ z. under i z (λ j. inward (step m j (tree us a)) (new_one (restricts c)) (misfit i))) q
      ∙ (ap (λ z. inward z (new_one (restricts c)) (misfit i)) S ∙ inward_out F a (new_one (restricts c)) (misfit i) nr))))
      e ge

  -- at the table
  module _ (G : Ground us) (i : ℕ) (l : i < length us) where
    abbrev e : Entry
    e = get_or us i no_entry

    root : Rooted i e
    root = tree_at us i e G l refl

    tags : Tagged e
    tags = tagged_at us i e G l refl

    pub at_value : (r : ℕ) → value_tag e.tag ≡ true → step m r (tree us i) ≡ ready
    at_value r h = ap (step m r) root ∙ value_steps r e i (tree us e.first) (tree us e.second) tags h

    pub at_variable : (r : ℕ) → e.tag ≡ 17 → step m r (tree us i) ≡ misfit i
    at_variable r h = ap (step m r) root ∙ variable_steps r e i (tree us e.first) (tree us e.second) h

    module _ (v : value_tag e.tag ≡ false) (n : e.tag ≡ 17 → ⊥) where
      abbrev f : Entry
      f = get_or us e.first no_entry

      first_there : e.first < length us
      first_there = let h = first_below us G i l v n in omega arith

      first_root : Rooted e.first f
      first_root = tree_at us e.first f G first_there refl

      first_tags : Tagged f
      first_tags = tagged_at us e.first f G first_there refl

      pub at_redex : (r : ℕ) (ok : Bool) → value_tag f.tag ≡ true → ok ≡ m.dom r f.third → step m r (tree us i) ≡ met_of us i (found_here ok r i e f)
      at_redex r ok h d = here_steps r i e f ok tags first_tags h d root first_root v n

      unvalued : value_tag f.tag ≡ false → valued (tree us e.first) ≡ false
      unvalued h = ap valued first_root ∙ (valued_is f e.first (tree us f.first) (tree us f.second) first_tags ∙ h)

      pub at_none : (r : ℕ) → value_tag f.tag ≡ false → role_within m r e ≡ None → step m r (tree us i) ≡ misfit i
      at_none r h z = none_steps r i e tags root (unvalued h) z

      pub at_some : (r j : ℕ) (F : Result Redex Condition) → value_tag f.tag ≡ false → role_within m r e ≡ Some j → is_ready F ≡ false → step m j (tree us e.first) ≡ met_of us e.first F →
          step m r (tree us i) ≡ met_of us i (one_out F)
      at_some r j F h z nr S = some_steps r j i F e tags nr root (unvalued h) z S v n ∙ out_is F i

pub not-true : (b : Bool) → (b ≡ true → ⊥) → b ≡ false
not-true true h = absurd (h refl)
not-true false h = refl

pub out_ready : (F : Result Redex Condition) → is_ready F ≡ false → is_ready (one_out F) ≡ false
out_ready (Ok x) h = refl
out_ready (Err c) h = h

pub out_short : (F : Result Redex Condition) → path_of (one_out F) ≤ path_of F + 1
out_short (Ok x) = omega arith
out_short (Err c) = omega arith

-- one of two, both with the same number and no rest
abbrev Near : Result Redex Condition → Type 0
Near F = (is_ready F ≡ false) × (path_of F ≡ 0)

near_cond : (b : Bool) (x y : Result Redex Condition) → Near x → Near y → Near (cond b x y)
near_cond true x y p q = p
near_cond false x y p q = q

near_here : (ok : Bool) (r i : ℕ) (e f : Entry) → Near (found_here ok r i e f)
near_here ok r i e f =
    near_cond (eqb e.tag 19) _ _ (near_cond (eqb f.tag 18) _ _ (refl, refl) (refl, refl))
    (near_cond (eqb e.tag 20) _ _ (near_cond (eqb f.tag 18) _ _ (refl, refl) (refl, refl))
    (near_cond (eqb e.tag 22) _ _ (near_cond (eqb f.tag 21) _ _ (near_cond ok _ _ (refl, refl) (refl, refl)) (refl, refl))
    (near_cond (eqb e.tag 24) _ _ (near_cond (eqb f.tag 23) _ _ (refl, refl) (refl, refl)) (refl, refl))))

pub here_ready : (ok : Bool) (r i : ℕ) (e f : Entry) → is_ready (found_here ok r i e f) ≡ true → ⊥
here_ready ok r i e f h = true≢false (sym h ∙ (near_here ok r i e f).0)

pub here_short : (ok : Bool) (r i : ℕ) (e f : Entry) → path_of (found_here ok r i e f) ≡ 0
here_short ok r i e f = (near_here ok r i e f).1
