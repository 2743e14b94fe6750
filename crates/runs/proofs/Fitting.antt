-- What is found fits the table. Assumes nothing.
use Rattle.std.proofs.Common.{◌≡◌, ℕ, ◌<◌, Bool, true, false, cond, eqb, List, length, get_or, Ok, Err, Result, sym, refl, ap, ◌∙◌, subst, true≢false, add-one, arith, eqb-true}
use Rattle.std.proofs.lemmas.Bool.{and_parts}
use Rattle.tables.specs.declared.entry.Entry.{Entry}
use Rattle.machine.specs.Labelled.{head, Tree, tree, closed}
use Rattle.machine.specs.Theorems.{rooted, Lower}
use Rattle.runs.specs.declared.find.Act.TheVariants.{Place, Unit}
use Rattle.runs.specs.declared.find.Redex.{Redex}
use Rattle.machine.specs.declared.condition.Condition.{Condition}
use Rattle.machine.specs.declared.condition.Condition.TheVariants.{Going, Finished, RoleFault, ShapeFault, TableFull}
use Rattle.runs.specs.Reach.{no_entry, Tagged, Ground}
use Rattle.runs.specs.Copy.{names}
use Rattle.runs.specs.Find.{value_tag, at_once, found_here, one_out, PathFits, FoundFits}
use Rattle.runs.proofs.Finding.{first_below}
use Rattle.runs.proofs.Tags.{made, by_tag, retag, tree_at, lower_at, tagged_at}

closed_body : (f : Entry) (k : ℕ) (t u : Tree) → f.tag ≡ 18 → closed 0 (rooted k t u (head f)) ≡ true → closed 1 t ≡ true
closed_body f k t u p = retag (λ x. closed 0 (rooted k t u (head x)) ≡ true → closed 1 t ≡ true) f 18 (λ a b c h. h) p

low_at : (f : Entry) (k z : ℕ) → ((a b c : ℕ) → Lower k (made z a b c) (head (made z a b c)) → a < k) → f.tag ≡ z → Lower k f (head f) → f.first < k
low_at f k z h p = retag (λ x. Lower k x (head x) → x.first < k) f z h p

module _ (us : List Entry) where
  abbrev Rooted : ℕ → Entry → Type 0
  Rooted i x = tree us i ≡ rooted i (tree us x.first) (tree us x.second) (head x)

  cond_fits : (i : ℕ) (b : Bool) (x y : Result Redex Condition) → (b ≡ true → FoundFits us i x) → (b ≡ false → FoundFits us i y) → FoundFits us i (cond b x y)
  cond_fits i true x y p q = p refl
  cond_fits i false x y p q = q refl

  here_fits : (ok : Bool) (r i : ℕ) (e f : Entry) → Tagged e → i < length us → closed 0 (tree us i) ≡ true → Rooted i e → Rooted e.first f → Lower i e (head e) → Lower e.first f (head f) →
      value_tag e.tag ≡ false → (e.tag ≡ 17 → ⊥) → FoundFits us i (found_here ok r i e f)
  here_fits ok r i e f ge l cl =
      by_tag (λ x. Rooted i x → Rooted x.first f → Lower i x (head x) → Lower x.first f (head f) → value_tag x.tag ≡ false → (x.tag ≡ 17 → ⊥) → FoundFits us i (found_here ok r i x f))
      (λ a b c R T L K v n. absurd (true≢false v))
      (λ a b c R T L K v n. absurd (n refl))
      (λ a b c R T L K v n. absurd (true≢false v))
      (λ a b c R T L K v n.
      cond_fits i (eqb f.tag 18) (at_once (Place f.first b)) (Err (ShapeFault i))
      (λ h.
      let p = eqb-true f.tag 18 h in
      let s = low_at f a 18 (λ a b c L. L) p K in
      let w = and_parts (closed 0 (tree us a)) (closed 0 (tree us b)) (sym (ap (closed 0) R) ∙ cl) in
      (omega (arith, L.0), omega (arith, L.1), closed_body f a (tree us f.first) (tree us f.second) p (sym (ap (closed 0) T) ∙ w.0)))
      (λ h. tt))
      (λ a b c R T L K v n.
      cond_fits i (eqb f.tag 18) (at_once (Place f.first i)) (Err (ShapeFault i))
      (λ h.
      let p = eqb-true f.tag 18 h in
      let s = low_at f a 18 (λ a b c L. L) p K in
      (omega arith, l, closed_body f a (tree us f.first) (tree us f.second) p (sym (ap (closed 0) T) ∙ (sym (ap (closed 0) R) ∙ cl))))
      (λ h. tt))
      (λ a b c R T L K v n. absurd (true≢false v))
      (λ a b c R T L K v n.
      cond_fits i (eqb f.tag 21) (cond ok (at_once (Unit f.first)) (Err (RoleFault i f.third r))) (Err (ShapeFault i))
      (λ h.
      let p = eqb-true f.tag 21 h in
      let s = low_at f a 21 (λ a b c L. L) p K in
      cond_fits i ok (at_once (Unit f.first)) (Err (RoleFault i f.third r)) (λ y. omega arith) (λ y. tt))
      (λ h. tt))
      (λ a b c R T L K v n. absurd (true≢false v))
      (λ a b c R T L K v n.
      cond_fits i (eqb f.tag 23) (at_once (Place b f.first)) (Err (ShapeFault i))
      (λ h.
      let p = eqb-true f.tag 23 h in
      let s = low_at f a 23 (λ a b c L. L) p K in
      let w = and_parts (closed 0 (tree us a)) (closed 1 (tree us b)) (sym (ap (closed 0) R) ∙ cl) in
      (omega (arith, L.1), omega (arith, L.0), w.1))
      (λ h. tt))
      (λ a b c R T L K v n. omega arith)
      (λ a b c R T L K v n. omega arith)
      e ge

  closed_first : (i : ℕ) (e : Entry) → Tagged e → closed 0 (tree us i) ≡ true → Rooted i e → value_tag e.tag ≡ false → (e.tag ≡ 17 → ⊥) → closed 0 (tree us e.first) ≡ true
  closed_first i e ge cl =
      by_tag (λ x. Rooted i x → value_tag x.tag ≡ false → (x.tag ≡ 17 → ⊥) → closed 0 (tree us x.first) ≡ true)
      (λ a b c R v n. absurd (true≢false v))
      (λ a b c R v n. absurd (n refl))
      (λ a b c R v n. absurd (true≢false v))
      (λ a b c R v n. (and_parts (closed 0 (tree us a)) (closed 0 (tree us b)) (sym (ap (closed 0) R) ∙ cl)).0)
      (λ a b c R v n. sym (ap (closed 0) R) ∙ cl)
      (λ a b c R v n. absurd (true≢false v))
      (λ a b c R v n. sym (ap (closed 0) R) ∙ cl)
      (λ a b c R v n. absurd (true≢false v))
      (λ a b c R v n. (and_parts (closed 0 (tree us a)) (closed 1 (tree us b)) (sym (ap (closed 0) R) ∙ cl)).0)
      (λ a b c R v n. sym (ap (closed 0) R) ∙ cl)
      (λ a b c R v n. sym (ap (closed 0) R) ∙ cl)
      e ge

  some_operands : (e : Entry) → Tagged e → value_tag e.tag ≡ false → (e.tag ≡ 17 → ⊥) → names e.tag ≡ 0 → ⊥
  some_operands e ge =
      by_tag (λ x. value_tag x.tag ≡ false → (x.tag ≡ 17 → ⊥) → names x.tag ≡ 0 → ⊥)
      (λ a b c v n z. true≢false v) (λ a b c v n z. n refl) (λ a b c v n z. omega arith) (λ a b c v n z. omega arith) (λ a b c v n z. omega arith) (λ a b c v n z. omega arith)
      (λ a b c v n z. omega arith) (λ a b c v n z. omega arith) (λ a b c v n z. omega arith) (λ a b c v n z. omega arith) (λ a b c v n z. omega arith) e ge

  out_fits : (F : Result Redex Condition) (i : ℕ) → i < length us → (names (get_or us i no_entry).tag ≡ 0 → ⊥) → FoundFits us (get_or us i no_entry).first F → FoundFits us i (one_out F)
  out_fits (Ok x) i l z f = let N : ℕ → Type 0 = λ y. PathFits us y i x.act in subst N (sym (add-one x.path)) (l, z, f)
  out_fits (Err Going) i l z f = f
  out_fits (Err Finished) i l z f = f
  out_fits (Err (RoleFault k a r)) i l z f = f
  out_fits (Err (ShapeFault k)) i l z f = f
  out_fits (Err TableFull) i l z f = f

  module _ (G : Ground us) (i : ℕ) (l : i < length us) (cl : closed 0 (tree us i) ≡ true) (v : value_tag (get_or us i no_entry).tag ≡ false) (n : (get_or us i no_entry).tag ≡ 17 → ⊥) where
    abbrev e : Entry
    e = get_or us i no_entry

    abbrev f : Entry
    f = get_or us e.first no_entry

    pub first_closed : closed 0 (tree us e.first) ≡ true
    first_closed = closed_first i e (tagged_at us i e G l refl) cl (tree_at us i e G l refl) v n

    pub fits_here : (ok : Bool) (r : ℕ) → FoundFits us i (found_here ok r i e f)
    fits_here ok r =
        let h = first_below us G i l v n in
        let k : e.first < length us = omega arith in
        here_fits ok r i e f (tagged_at us i e G l refl) l cl (tree_at us i e G l refl) (tree_at us e.first f G k refl) (lower_at us i e G l refl) (lower_at us e.first f G k refl) v n

    pub fits_out : (F : Result Redex Condition) → FoundFits us e.first F → FoundFits us i (one_out F)
    fits_out F h = out_fits F i l (some_operands e (tagged_at us i e G l refl) v n) h
