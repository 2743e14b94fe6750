-- Inference finds a type below every type that the rules give. Assumes nothing.
use Rattle.std.proofs.Common.{◌≡◌, ℕ, zero, suc, true, ◌⊎◌, List, ◌∷◌, Some, refl, subst, inl, inr, ⊎_elim}
use Rattle.std.proofs.lemmas.Bool.{cases_Bool}
use Rattle.roles.specs.Meaning.{Meaning, Lawful}
use Rattle.calculus.specs.Syntax.{Ty, base, function, guarded, computation, Term, abstraction, application, fix, guard, check, unit, let_in, raise, restrict}
use Rattle.calculus.specs.Subtyping.{System, sufficient, necessary, role_test, Subtype, base_below, function_below, guarded_below, computation_below, well_coded}
use Rattle.calculus.specs.Typing.{lookup, claim, permits, Has, has_constant, has_variable, has_abstraction, has_application, has_fix, has_guard, has_check, has_unit, has_let, has_raise, has_restrict, subsumption}
use Rattle.calculus.specs.Inference.{infer}
use Rattle.calculus.specs.Theorems.{CodedEnvironment, InferenceDecides, InferenceLeast}
use Rattle.calculus.specs.Everywhere.{InferenceDecidesEverywhere, InferenceLeastEverywhere}
use Rattle.calculus.proofs.Options.{some_same}
use Rattle.calculus.proofs.Laws.{across, over_left, over_right, over_join, join_there, remainder_there, remainder_by, remainder_role, enough, needed}
use Rattle.calculus.proofs.Order.{test_left, test_same, below_same, below_across}
use Rattle.calculus.proofs.Test.{rules_to_test}
use Rattle.calculus.proofs.Sound.{infer_sound}
use Rattle.calculus.proofs.Unsound.{finds_the_type}

-- each variable has a smaller type in Δ than in Γ
abbrev Below : Meaning → System → List Ty → List Ty → Type 0
Below m α Δ Γ = (i : ℕ) (t : Ty) → lookup Γ i ≡ Some t → (s : Ty) × (lookup Δ i ≡ Some s) × Subtype m α s t

below_more : {m : Meaning} {α : System} (Δ Γ : List Ty) {t s : Ty} → Subtype m α t s → Below m α Δ Γ → Below m α (t ∷ Δ) (s ∷ Γ)
below_more {m} {α} Δ Γ {t = t} h b zero r e = (t, refl, subst (λ (x : Ty). Subtype m α t x) (some_same e) h)
below_more Δ Γ h b (suc i) r e = b i r e

module _ {m : Meaning} (L : Lawful m) where
  -- join and remainder keep the role test
  join_keeps : (α : System) {a b c : ℕ} (a' b' : ℕ) → role_test m α a' a ≡ true → role_test m α b' b ≡ true → m.join a b ≡ Some c →
      (c' : ℕ) × (m.join a' b' ≡ Some c') × (role_test m α c' c ≡ true)
  join_keeps α {a} {b} {c} a' b' h k e =
      let j = join_there L a' b' (test_left L α a' a h) (test_left L α b' b k) in
      (j.0, j.1, go α j.1 h k)
    where
      go : (β : System) {c' : ℕ} → m.join a' b' ≡ Some c' → role_test m β a' a ≡ true → role_test m β b' b ≡ true → role_test m β c' c ≡ true
      go sufficient e' h k = over_join L e' (across L (over_left L e) h) (across L (over_right L e) k)
      go necessary e' h k = over_join L e (across L (over_left L e') h) (across L (over_right L e') k)

  -- what dominates the remainder of a greater whole dominates that of a smaller one
  remainder_falls : {b a c b' c' : ℕ} → m.remainder b a ≡ Some c → m.remainder b' a ≡ Some c' → m.dom b b' ≡ true → m.dom c c' ≡ true
  remainder_falls {b} {a} {c} e e' h =
      let r = remainder_role L e in
      let j = join_there L a c (remainder_by L e) r in
      needed L e' j.1 (across L (enough L e j.1 (L.reflexive c r)) h)

  remainder_keeps : (α : System) {b a c : ℕ} (b' : ℕ) → role_test m α b' b ≡ true → m.remainder b a ≡ Some c →
      (c' : ℕ) × (m.remainder b' a ≡ Some c') × (role_test m α c' c ≡ true)
  remainder_keeps α {b} {a} {c} b' h e =
      let j = remainder_there L b' a (test_left L α b' b h) (remainder_by L e) in
      (j.0, j.1, go α j.1 h)
    where
      go : (β : System) {c' : ℕ} → m.remainder b' a ≡ Some c' → role_test m β b' b ≡ true → role_test m β c' c ≡ true
      go sufficient e' h = remainder_falls e e' h
      go necessary e' h = remainder_falls e' e h

  permits_keeps : (α : System) (a b b' : ℕ) → role_test m α b' b ≡ true → permits m α a b ≡ true → permits m α a b' ≡ true
  permits_keeps sufficient a b b' h k = across L k h
  permits_keeps necessary a b b' h k = refl

module _ {m : Meaning} (L : Lawful m) (sound : m.sound ≡ true) (α : System) where
  -- inference finds a type below t
  abbrev Finds : List Ty → Term → Ty → Type 0
  Finds Δ e t = (s : Ty) × (infer m α Δ e ≡ Some s) × Subtype m α s t

  -- the forms one by one: from what is found for the operands
  finds_abstraction : (Δ : List Ty) (t u : Ty) (e : Term) (s : Ty) → well_coded m (claim α t u) ≡ true → Finds (claim α t u ∷ Δ) e s → Finds Δ (abstraction t u e) (function (claim α t u) s)
  unfolding infer
  finds_abstraction Δ t u e s w i =
      (function (claim α t u) i.0, rw (w, i.1), function_below (below_same L α (claim α t u) w) i.2)

  finds_application : (Δ : List Ty) (f x : Term) {g t s r : Ty} → infer m α Δ f ≡ Some g → Subtype m α g (function t s) → infer m α Δ x ≡ Some r → Subtype m α r t → Finds Δ (application f x) s
  unfolding infer
  finds_application Δ f x {t = t} p (function_below {s = s₀} h k) q l = (s₀, rw (p, q, rules_to_test m α (below_across L α t l h)), k)

  finds_fix : (Δ : List Ty) (f : Term) {g t : Ty} → infer m α Δ f ≡ Some g → Subtype m α g (function t t) → Finds Δ (fix f) t
  unfolding infer
  finds_fix Δ f {t = t} p (function_below {s = s₀} h k) = (s₀, rw (p, rules_to_test m α (below_across L α t k h)), k)

  finds_guard : (Δ : List Ty) (a : ℕ) (e : Term) (t : Ty) → m.role a ≡ true → Finds Δ e t → Finds Δ (guard a e) (guarded a t)
  unfolding infer
  finds_guard Δ a e t w i = (guarded a i.0, rw (w, i.1), guarded_below (test_same L α a w) i.2)

  finds_check : (Δ : List Ty) (e : Term) {g t : Ty} {a : ℕ} → infer m α Δ e ≡ Some g → Subtype m α g (guarded a t) → Finds Δ (check e) (computation a t)
  unfolding infer
  finds_check Δ e p (guarded_below {a = a₀} {t = t₀} h k) = (computation a₀ t₀, rw p, computation_below h k)

  finds_unit : (Δ : List Ty) (e : Term) (t : Ty) → Finds Δ e t → Finds Δ (unit e) (computation m.bottom t)
  unfolding infer
  finds_unit Δ e t i = (computation m.bottom i.0, rw i.1, computation_below (test_same L α m.bottom (L.bottom_role sound)) i.2)

  -- what is found for the second operand is known at each smaller type of the first
  finds_let : (Δ : List Ty) (e u : Term) {g t s : Ty} {a b c : ℕ} → infer m α Δ e ≡ Some g → Subtype m α g (computation a t) →
      ((t' : Ty) → Subtype m α t' t → Finds (t' ∷ Δ) u (computation b s)) → m.join a b ≡ Some c → Finds Δ (let_in e u) (computation c s)
  unfolding infer
  finds_let Δ e u {s = s} {b = b} {c = c} p (computation_below {a = a₀} {t = t₀} h k) i j = let q = i t₀ k in go q.1 q.2
    where
      go : {g : Ty} → infer m α (t₀ ∷ Δ) u ≡ Some g → Subtype m α g (computation b s) → Finds Δ (let_in e u) (computation c s)
      go q (computation_below {a = b₀} {t = s₀} h' k') =
          let r = join_keeps L α a₀ b₀ h h' j in
          (computation r.0 s₀, rw (p, q, r.1), computation_below r.2 k')

  finds_raise : (Δ : List Ty) (a : ℕ) (e : Term) {g t : Ty} {b c : ℕ} → infer m α Δ e ≡ Some g → Subtype m α g (computation b t) → m.remainder b a ≡ Some c → Finds Δ (raise a e) (computation c t)
  unfolding infer
  finds_raise Δ a e p (computation_below {a = b₀} {t = t₀} h k) j =
      let r = remainder_keeps L α b₀ h j in
      (computation r.0 t₀, rw (p, r.1), computation_below r.2 k)

  finds_restrict : (Δ : List Ty) (a : ℕ) (e : Term) {g t : Ty} {b : ℕ} → infer m α Δ e ≡ Some g → Subtype m α g (computation b t) → m.role a ≡ true → permits m α a b ≡ true → Finds Δ (restrict a e) (computation b t)
  unfolding infer
  finds_restrict Δ a e {b = b} p (computation_below {a = b₀} {t = t₀} h k) w q =
      (computation b₀ t₀, rw (p, w, permits_keeps L α a b b₀ h q), computation_below h k)

  infer_complete : {Γ : List Ty} {e : Term} {t : Ty} → Has m α Γ e t → (Δ : List Ty) → Below m α Δ Γ → (s : Ty) × (infer m α Δ e ≡ Some s) × Subtype m α s t
  unfolding infer
  infer_complete (has_constant {k = k}) Δ b = (base k, refl, base_below)
  infer_complete (has_variable {i = i} {t = t} h) Δ b = b i t h
  infer_complete (has_abstraction {Γ} {t} {u} {s} {e} w h) Δ b =
      finds_abstraction Δ t u e s w (infer_complete h (claim α t u ∷ Δ) (below_more Δ Γ (below_same L α (claim α t u) w) b))
  infer_complete (has_application {f = f} {x = x} h k) Δ b =
      let i = infer_complete h Δ b in
      let j = infer_complete k Δ b in
      finds_application Δ f x i.1 i.2 j.1 j.2
  infer_complete (has_fix {f = f} h) Δ b = let i = infer_complete h Δ b in finds_fix Δ f i.1 i.2
  infer_complete (has_guard {a = a} {e = e} {t = t} w h) Δ b = finds_guard Δ a e t w (infer_complete h Δ b)
  infer_complete (has_check {e = e} h) Δ b = let i = infer_complete h Δ b in finds_check Δ e i.1 i.2
  infer_complete (has_unit {e = e} {t = t} h) Δ b = finds_unit Δ e t (infer_complete h Δ b)
  infer_complete (has_let {Γ} {e = e} {u = u} h k j) Δ b =
      let i = infer_complete h Δ b in
      finds_let Δ e u i.1 i.2 (λ t' l. infer_complete k (t' ∷ Δ) (below_more Δ Γ l b)) j
  infer_complete (has_raise {a = a} {e = e} h j) Δ b = let i = infer_complete h Δ b in finds_raise Δ a e i.1 i.2 j
  infer_complete (has_restrict {a = a} {e = e} h w q) Δ b = let i = infer_complete h Δ b in finds_restrict Δ a e i.1 i.2 w q
  infer_complete (subsumption {t = s} h k) Δ b = let i = infer_complete h Δ b in (i.0, i.1, below_across L α s i.2 k)

finds_below : (m : Meaning) → Lawful m → m.sound ≡ true → (α : System) (Γ : List Ty) → CodedEnvironment m Γ → (e : Term) (t : Ty) → Has m α Γ e t →
    (s : Ty) × (infer m α Γ e ≡ Some s) × Subtype m α s t
finds_below m L sound α Γ w e t h = infer_complete L sound α h Γ (λ i s l. (s, l, below_same L α s (w i s l)))

-- with or without roles
finds_least : (m : Meaning) → Lawful m → (α : System) (Γ : List Ty) → CodedEnvironment m Γ → (e : Term) (t : Ty) → Has m α Γ e t →
    (s : Ty) × (infer m α Γ e ≡ Some s) × ((s ≡ t) ⊎ Subtype m α s t)
finds_least m L α Γ w e t h =
    ⊎_elim
    (λ sound. let i = finds_below m L sound α Γ w e t h in (i.0, i.1, inr i.2))
    (λ unsound. (t, finds_the_type L unsound α h w, inl refl)) (cases_Bool m.sound)

pub inference_decides_everywhere_lem : InferenceDecidesEverywhere
inference_decides_everywhere_lem m L α Γ w e = (
  (λ h. let i = finds_least m L α Γ w e h.0 h.1 in (i.0, i.1)),
  (λ i. (i.0, infer_sound L α Γ e i.1)),
)

pub inference_least_everywhere_lem : InferenceLeastEverywhere
inference_least_everywhere_lem m L α Γ w e t h = (
  infer_sound L α Γ e h,
  (λ s k. let i = finds_least m L α Γ w e s k in subst (λ (x : Ty). (x ≡ s) ⊎ Subtype m α x s) (cc) i.2),
  (λ sound s k. let i = finds_below m L sound α Γ w e s k in subst (λ (x : Ty). Subtype m α x s) (cc) i.2),
)

pub inference_decides_lem : InferenceDecides
inference_decides_lem m L sound = inference_decides_everywhere_lem m L

pub inference_least_lem : InferenceLeast
inference_least_lem m L sound α Γ w e t h = let r = inference_least_everywhere_lem m L α Γ w e t h in (r.0, r.2 sound)
