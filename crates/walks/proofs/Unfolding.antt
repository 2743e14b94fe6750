-- The walk of a term goes by the walks of those that it names.
use Rattle.std.proofs.Common.{◌≡◌, ℕ, ◌+◌, ◌<◌, Bool, true, cond, eqb, List, ◌∷◌, get_or, refl, ap, ◌∙◌, lit<}
use Rattle.std.proofs.lemmas.Bool.{and_from, le-leb}
use Rattle.roles.specs.Meaning.{Meaning}
use Rattle.calculus.specs.Subtyping.{System}
use Rattle.tables.specs.declared.entry.Entry.{Entry}
use Rattle.tables.specs.Entries.{at, names, term_tag, operand_of}
use Rattle.tables.specs.Ladder.{ladder}
use Rattle.tables.proofs.Ladders.{get_or_ladder}
use Rattle.trees.proofs.ByTag.{by_term_tag}
use Rattle.walks.specs.declared.fault.TypingFault.TheVariants.{NoComputation}
use Rattle.walks.specs.Rules.{applied}
use Rattle.walks.specs.Walk.{Walked, going, stopped, Walker, and_then, settled, let_rest, walk_by, walk_step, walk_of}
use Rattle.walks.specs.Places.{Placed, Rooted}

pub and_then_same : (w : Walked) (f g : List Entry → ℕ → ℕ → Walked) → ((T : List Entry) (u v : ℕ) → f T u v ≡ g T u v) → and_then w f ≡ and_then w g
and_then_same (going T u v) f g h = h T u v
and_then_same (stopped T c) f g h = refl

-- the walks of the operands alone are looked at
module _ (m : Meaning) (α : System) (p k : ℕ) (w v : ℕ → Walker) (same : (i : ℕ) → i < k → w i ≡ v i) where
  abbrev Low : Entry → Type 0
  Low e = (j : ℕ) → j < names e.tag → operand_of e j < k

  one : (i : ℕ) → i < k → (Γ : List ℕ) (T : List Entry) (u : ℕ) (f : List Entry → ℕ → ℕ → Walked) → and_then (w i Γ T u) f ≡ and_then (v i Γ T u) f
  one i l Γ T u f = ap (λ (W : Walker). and_then (W Γ T u) f) (same i l)

  pub by_same : (e : Entry) → term_tag e.tag ≡ true → Low e → (Γ : List ℕ) (T : List Entry) (u : ℕ) → walk_by m α p e w Γ T u ≡ walk_by m α p e v Γ T u
  by_same =
      by_term_tag (λ e. Low e → (Γ : List ℕ) (T : List Entry) (u : ℕ) → walk_by m α p e w Γ T u ≡ walk_by m α p e v Γ T u)
      (λ f s c l Γ T u. refl)
      (λ f s c l Γ T u. refl)
      (λ f s c l Γ T u. one f (l 0 (lit< tt)) _ T u _)
      (λ f s c l Γ T u.
      one f (l 0 (lit< tt)) Γ T u _
      ∙ and_then_same (v f Γ T u) (λ T u x. and_then (w s Γ T u) (λ T u y. settled (applied m α p T x y) T u)) (λ T u x. and_then (v s Γ T u) (λ T u y. settled (applied m α p T x y) T u)) (λ T u x. one s (l 1 (lit< tt)) Γ T u _))
      (λ f s c l Γ T u. one f (l 0 (lit< tt)) Γ T u _)
      (λ f s c l Γ T u. one f (l 0 (lit< tt)) Γ T u _)
      (λ f s c l Γ T u. one f (l 0 (lit< tt)) Γ T u _)
      (λ f s c l Γ T u. one f (l 0 (lit< tt)) Γ T u _)
      (λ f s c l Γ T u.
      let e : Entry = record { tag = 24; first = f; second = s; third = c } in
      one f (l 0 (lit< tt)) Γ T u _
      ∙ and_then_same (v f Γ T u) (λ T u x. let_rest m p e w Γ T u x) (λ T u x. let_rest m p e v Γ T u x)
      (λ T u x. ap (λ W. cond (eqb (at T x).tag 4) W (stopped T (NoComputation p))) (one s (l 1 (lit< tt)) ((at T x).first ∷ Γ) T u _)))
      (λ f s c l Γ T u. one f (l 0 (lit< tt)) Γ T u _)
      (λ f s c l Γ T u. one f (l 0 (lit< tt)) Γ T u _)

pub tagged : (role : ℕ → Bool) (t k : ℕ) (e : Entry) → Placed role t k e → term_tag e.tag ≡ true
tagged role t k e p = and_from _ _ (le-leb 16 e.tag p.least) (le-leb e.tag 26 p.most)

pub walk_unfold : (role : ℕ → Bool) (m : Meaning) (α : System) (t : ℕ) (es : List Entry) (n k : ℕ) → Rooted role t es n → k < n → (Γ : List ℕ) (T : List Entry) (u : ℕ) → walk_of m α t es k Γ T u ≡ walk_by m α (t + k) (at es k) (walk_of m α t es) Γ T u
unfolding walk_of
walk_unfold role m α t es n k g h Γ T u =
    by_same m α (t + k) k (λ i. get_or (ladder (walk_step m α t es) k) i (λ Γ T u. going T u 0)) (walk_of m α t es)
    (λ i l. get_or_ladder (walk_step m α t es) k i (λ Γ T u. going T u 0) l) (at es k) (tagged role t k (at es k) (g k h)) (g k h).low Γ T u
