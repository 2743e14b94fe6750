-- A walk by a stack of frames: what the frames leave to do.
use Rattle.std.proofs.Common.{◌≡◌, ℕ, zero, suc, ◌+◌, ◌-◌, ◌<◌, ◌≤◌, true, false, cond, List, [], ◌∷◌, refl, ap, ◌∙◌, arith}
use Rattle.roles.specs.Meaning.{Meaning}
use Rattle.calculus.specs.Subtyping.{System}
use Rattle.tables.specs.declared.entry.Entry.{Entry}
use Rattle.tables.specs.Entries.{at, binds, names, operand_of, term_tag}
use Rattle.trees.proofs.ByTag.{by_term_tag}
use Rattle.walks.specs.declared.fault.TypingFault.{TypingFault}
use Rattle.walks.specs.declared.fault.TypingFault.TheVariants.{NoComputation}
use Rattle.walks.specs.Places.{Rooted}
use Rattle.walks.specs.Walk.{Walked, stopped, Walker, and_then, settled, walk_by, walk_of}
use Rattle.walks.proofs.Sums.{sum_rest, sum_of}
use Rattle.walks.proofs.Unfolding.{tagged, walk_unfold}
use Rattle.checks.specs.declared.walk.Frame.{Frame}
use Rattle.checks.specs.Frames.{enters_of, binder_of, env}
use Rattle.checks.specs.Judge.{bound_of, judge_of}

-- the binders around operand s
abbrev pub under : System → List Entry → Entry → ℕ → ℕ → List ℕ → List ℕ
under α T e s v Γ = cond (binds e.tag s) (binder_of α T e s v ∷ Γ) Γ

-- n operands of e from the s-th on, each walked by w, and then the term; f is the type found before the last
abbrev pub walk_rest : Meaning → System → ℕ → Entry → (ℕ → Walker) → ℕ → ℕ → ℕ → List ℕ → List Entry → ℕ → ℕ → Walked
walk_rest m α p e w zero s f Γ T u v = settled (judge_of m α p T e f v (bound_of Γ e)) T u
walk_rest m α p e w (suc n) s f Γ T u v =
    cond (enters_of T e s v)
    (and_then (w (operand_of e s) (under α T e s v Γ) T u) (λ T' u' v'. walk_rest m α p e w n (s + 1) v Γ T' u' v'))
    (stopped T (NoComputation p))

-- rule by rule, this is the walk
rest_is : (m : Meaning) (α : System) (p : ℕ) (w : ℕ → Walker) (e : Entry) → term_tag e.tag ≡ true → (Γ : List ℕ) (T : List Entry) (u v : ℕ) → walk_by m α p e w Γ T u ≡ walk_rest m α p e w (names e.tag - 0) 0 0 Γ T u v
unfolding judge_of
rest_is m α p w =
    by_term_tag (λ e. (Γ : List ℕ) (T : List Entry) (u v : ℕ) → walk_by m α p e w Γ T u ≡ walk_rest m α p e w (names e.tag - 0) 0 0 Γ T u v)
    (λ f s c Γ T u v. refl)
    (λ f s c Γ T u v. refl)
    (λ f s c Γ T u v. refl)
    (λ f s c Γ T u v. refl)
    (λ f s c Γ T u v. refl)
    (λ f s c Γ T u v. refl)
    (λ f s c Γ T u v. refl)
    (λ f s c Γ T u v. refl)
    (λ f s c Γ T u v. refl)
    (λ f s c Γ T u v. refl)
    (λ f s c Γ T u v. refl)

module _ (m : Meaning) (α : System) (t : ℕ) (es : List Entry) where
  -- what is left of term k, of which s operands were walked
  abbrev pub todo : ℕ → ℕ → ℕ → List ℕ → List Entry → ℕ → ℕ → Walked
  todo k s f = walk_rest m α (t + k) (at es k) (walk_of m α t es) (names (at es k).tag - s) s f

  -- the walk of a term goes by the walks of those that it names
  pub walk_is : (n k : ℕ) → Rooted m.role t es n → k < n → (Γ : List ℕ) (T : List Entry) (u v : ℕ) → walk_of m α t es k Γ T u ≡ todo k 0 0 Γ T u v
  walk_is n k g h Γ T u v =
      walk_unfold m.role m α t es n k g h Γ T u ∙ rest_is m α (t + k) (walk_of m α t es) (at es k) (tagged m.role t k (at es k) (g k h)) Γ T u v

  pub todo_more : (k s f : ℕ) (Γ : List ℕ) (T : List Entry) (u v : ℕ) → s < names (at es k).tag → enters_of T (at es k) s v ≡ true → todo k s f Γ T u v ≡ and_then (walk_of m α t es (operand_of (at es k) s) (under α T (at es k) s v Γ) T u) (todo k (s + 1) v Γ)
  todo_more k s f Γ T u v h en =
      let z : names (at es k).tag - s ≡ suc (names (at es k).tag - (s + 1)) = omega arith in
      ap (λ n. walk_rest m α (t + k) (at es k) (walk_of m α t es) n s f Γ T u v) z
      ∙ ap (λ b. cond b (and_then (walk_of m α t es (operand_of (at es k) s) (under α T (at es k) s v Γ) T u) (todo k (s + 1) v Γ)) (stopped T (NoComputation (t + k)))) en

  pub todo_stop : (k s f : ℕ) (Γ : List ℕ) (T : List Entry) (u v : ℕ) → s < names (at es k).tag → enters_of T (at es k) s v ≡ false → todo k s f Γ T u v ≡ stopped T (NoComputation (t + k))
  todo_stop k s f Γ T u v h en =
      let z : names (at es k).tag - s ≡ suc (names (at es k).tag - (s + 1)) = omega arith in
      ap (λ n. walk_rest m α (t + k) (at es k) (walk_of m α t es) n s f Γ T u v) z
      ∙ ap (λ b. cond b (and_then (walk_of m α t es (operand_of (at es k) s) (under α T (at es k) s v Γ) T u) (todo k (s + 1) v Γ)) (stopped T (NoComputation (t + k)))) en

  pub todo_done : (k s f : ℕ) (Γ : List ℕ) (T : List Entry) (u v : ℕ) → names (at es k).tag ≤ s → todo k s f Γ T u v ≡ settled (judge_of m α (t + k) T (at es k) f v (bound_of Γ (at es k))) T u
  todo_done k s f Γ T u v h =
      let z : names (at es k).tag - s ≡ 0 = omega arith in
      ap (λ n. walk_rest m α (t + k) (at es k) (walk_of m α t es) n s f Γ T u v) z

  abbrev pub run : List ℕ → Frame → Walked → Walked
  run bs f w = and_then w (todo f.number f.stage f.first (env bs f.depth))

  -- what a stack of frames leaves to do, the one on top first
  abbrev pub pend : List ℕ → List Frame → Walked → Walked
  pend bs [] w = w
  pend bs (F ∷ fs) w = pend bs fs (run bs F w)

  pub pend_stopped : (bs : List ℕ) (fs : List Frame) (T : List Entry) (c : TypingFault) → pend bs fs (stopped T c) ≡ stopped T c
  pend_stopped bs [] T c = refl
  pend_stopped bs (F ∷ fs) T c = pend_stopped bs fs T c

  -- what the frames take
  abbrev pub frame_sum : ℕ → Frame → ℕ
  frame_sum p f = 1 + sum_rest p (at es f.number) (sum_of p es) (names (at es f.number).tag - f.stage) f.stage

  abbrev pub pend_sum : ℕ → List Frame → ℕ
  pend_sum p [] = 0
  pend_sum p (F ∷ fs) = frame_sum p F + pend_sum p fs
