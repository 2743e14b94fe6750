-- A refused check is the one that the calculus is at. Assumes nothing.
use Rattle.std.proofs.Common.{◌≡◌, ℕ, Bool, true, false, cond, Some, None, Option, sym, refl, subst}
use Rattle.roles.specs.Meaning.{Meaning}
use Rattle.calculus.specs.Syntax.{Ty}
use Rattle.calculus.specs.Steps.{IsRoleFault, refused as refuses, fault_in_application, fault_in_fix, fault_in_check, fault_in_let, fault_in_raise, fault_in_restrict}
use Rattle.machine.specs.Labelled.{constants, variables, abstracts, fixes, guards, checks, units, raises, restricts, applies, lets, Tree, stray, leaf, one, two, erase}
use Rattle.machine.specs.Plans.{Plan, old, new_one, new_two, Met, ready, makes, refused, misfit, valued, call, granted, test, hand, inward, under, step}
use Rattle.machine.specs.Refused.{RefusedAt, at_check, at_application, at_let, at_fix, at_inner, at_raise, at_restrict}
use Rattle.machine.specs.Theorems.{RefusalsTold}

abbrev IsRefused : Met → Type 0
IsRefused ready = ⊥
IsRefused (makes p) = ⊥
IsRefused (refused i a c) = Unit {0}
IsRefused (misfit i) = ⊥

no : {o : Met} {i a c : ℕ} → o ≡ refused i a c → IsRefused o
no e = subst IsRefused (sym e) tt

call_never : (k : ℕ) (t n : Tree) {i a c : ℕ} → call k t n ≡ refused i a c → ⊥
call_never k stray n e = no e
call_never k (leaf j h) n e = no e
call_never k (one j (abstracts c₁ c₂) t) n e = no e
call_never k (one j fixes t) n e = no e
call_never k (one j (guards b) t) n e = no e
call_never k (one j checks t) n e = no e
call_never k (one j units t) n e = no e
call_never k (one j (raises b) t) n e = no e
call_never k (one j (restricts b) t) n e = no e
call_never k (two j h t u) n e = no e

hand_never : (k : ℕ) (t v : Tree) {i a c : ℕ} → hand k t v ≡ refused i a c → ⊥
hand_never k stray v e = no e
hand_never k (leaf j h) v e = no e
hand_never k (one j (abstracts c₁ c₂) t) v e = no e
hand_never k (one j fixes t) v e = no e
hand_never k (one j (guards b) t) v e = no e
hand_never k (one j checks t) v e = no e
hand_never k (one j units t) v e = no e
hand_never k (one j (raises b) t) v e = no e
hand_never k (one j (restricts b) t) v e = no e
hand_never k (two j h t u) v e = no e

-- the parts of a refusal
part_1 : {i a c i' a' c' : ℕ} → refused i a c ≡ refused i' a' c' → i ≡ i'
part_1 e = cc

part_2 : {i a c i' a' c' : ℕ} → refused i a c ≡ refused i' a' c' → a ≡ a'
part_2 e = cc

part_3 : {i a c i' a' c' : ℕ} → refused i a c ≡ refused i' a' c' → c ≡ c'
part_3 e = cc

module _ (m : Meaning) where
  granted_at : (b : Bool) (k j x r : ℕ) (t : Tree) {i a c : ℕ} → m.dom r x ≡ b → granted b k x r t ≡ refused i a c → RefusedAt m r (one k checks (one j (guards x) t)) i a c
  granted_at true k j x r t d e = absurd (no e)
  granted_at false k j x r t {i} {a} {c} d e =
      let F : ℕ → ℕ → ℕ → Type 0 = λ p q s. RefusedAt m r (one k checks (one j (guards x) t)) p q s in
      subst (λ (p : ℕ). F p a c) (part_1 e) (subst (λ (q : ℕ). F k q c) (part_2 e) (subst (λ (s : ℕ). F k x s) (part_3 e) (at_check d)))

  test_at : (k : ℕ) (t : Tree) (r : ℕ) {i a c : ℕ} → test k t m r ≡ refused i a c → RefusedAt m r (one k checks t) i a c
  test_at k stray r e = absurd (no e)
  test_at k (leaf j h) r e = absurd (no e)
  test_at k (one j (abstracts c₁ c₂) t) r e = absurd (no e)
  test_at k (one j fixes t) r e = absurd (no e)
  test_at k (one j (guards x) t) r e = granted_at (m.dom r x) k j x r t refl e
  test_at k (one j checks t) r e = absurd (no e)
  test_at k (one j units t) r e = absurd (no e)
  test_at k (one j (raises b) t) r e = absurd (no e)
  test_at k (one j (restricts b) t) r e = absurd (no e)
  test_at k (two j h t u) r e = absurd (no e)

  inward_at : (P : Type 0) (o : Met) (f : Plan → Plan) (v : Met) {i a c : ℕ} → (o ≡ refused i a c → P) → (v ≡ refused i a c → P) → inward o f v ≡ refused i a c → P
  inward_at P ready f v h k e = k e
  inward_at P (makes p) f v h k e = absurd (no e)
  inward_at P (refused j b d) f v h k e = h e
  inward_at P (misfit j) f v h k e = absurd (no e)

  cond_at : (P : Type 0) (b : Bool) (p : Plan) (v : Met) {i a c : ℕ} → (v ≡ refused i a c → P) → cond b (makes p) v ≡ refused i a c → P
  cond_at P true p v h e = absurd (no e)
  cond_at P false p v h e = h e

  under_at : (P : Type 0) (k : ℕ) (o : Option ℕ) (f : ℕ → Met) {i a c : ℕ} → ((j : ℕ) → o ≡ Some j → f j ≡ refused i a c → P) → under k o f ≡ refused i a c → P
  under_at P k None f h e = absurd (no e)
  under_at P k (Some j) f h e = h j refl e

  told : (r : ℕ) (t : Tree) (i a c : ℕ) → step m r t ≡ refused i a c → RefusedAt m r t i a c
  unfolding step
  told r stray i a c e = absurd (no e)
  told r (leaf k (constants x p)) i a c e = absurd (no e)
  told r (leaf k (variables x)) i a c e = absurd (no e)
  told r (one k (abstracts c₁ c₂) t) i a c e = absurd (no e)
  told r (one k fixes t) i a c e =
      inward_at (RefusedAt m r (one k fixes t) i a c) (step m r t) (new_one fixes) (call k t (one k fixes t)) (λ h. at_fix (told r t i a c h)) (λ h. absurd (call_never k t (one k fixes t) h)) e
  told r (one k (guards x) t) i a c e = absurd (no e)
  told r (one k checks t) i a c e =
      inward_at (RefusedAt m r (one k checks t) i a c) (step m r t) (new_one checks) (test k t m r) (λ h. at_inner (told r t i a c h)) (λ h. test_at k t r h) e
  told r (one k units t) i a c e = absurd (no e)
  told r (one k (raises b) t) i a c e =
      let P = RefusedAt m r (one k (raises b) t) i a c in
      cond_at P (valued t) (old t) (under k (m.join b r) (λ j. inward (step m j t) (new_one (raises b)) (misfit k)))
      (under_at P k (m.join b r) (λ j. inward (step m j t) (new_one (raises b)) (misfit k))
      (λ j q. inward_at P (step m j t) (new_one (raises b)) (misfit k) (λ h. at_raise q (told j t i a c h)) (λ h. absurd (no h)))) e
  told r (one k (restricts b) t) i a c e =
      let P = RefusedAt m r (one k (restricts b) t) i a c in
      cond_at P (valued t) (old t) (under k (m.meet b r) (λ j. inward (step m j t) (new_one (restricts b)) (misfit k)))
      (under_at P k (m.meet b r) (λ j. inward (step m j t) (new_one (restricts b)) (misfit k))
      (λ j q. inward_at P (step m j t) (new_one (restricts b)) (misfit k) (λ h. at_restrict q (told j t i a c h)) (λ h. absurd (no h)))) e
  told r (two k applies t u) i a c e =
      inward_at (RefusedAt m r (two k applies t u) i a c) (step m r t) (λ p. new_two applies p (old u)) (call k t u) (λ h. at_application (told r t i a c h)) (λ h. absurd (call_never k t u h)) e
  told r (two k lets t u) i a c e =
      inward_at (RefusedAt m r (two k lets t u) i a c) (step m r t) (λ p. new_two lets p (old u)) (hand k t u) (λ h. at_let (told r t i a c h)) (λ h. absurd (hand_never k t u h)) e

  faults : (claim : ℕ → Ty) {r : ℕ} {t : Tree} {i a c : ℕ} → RefusedAt m r t i a c → IsRoleFault m r (erase claim t)
  faults claim (at_check d) = refuses d
  faults claim (at_application h) = fault_in_application (faults claim h)
  faults claim (at_let h) = fault_in_let (faults claim h)
  faults claim (at_fix h) = fault_in_fix (faults claim h)
  faults claim (at_inner h) = fault_in_check (faults claim h)
  faults claim (at_raise q h) = fault_in_raise q (faults claim h)
  faults claim (at_restrict q h) = fault_in_restrict q (faults claim h)

pub refusals_told_lem : RefusalsTold
refusals_told_lem m r t i a c = (told m r t i a c, λ claim h. faults m claim h)
