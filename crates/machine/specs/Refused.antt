-- Which check a role fault is at. Assumes nothing.
use Rattle.std.specs.Prelude.{◌≡◌, ℕ, false, Some}
use Rattle.roles.specs.Meaning.{Meaning}
use Rattle.machine.specs.Labelled.{Tree, one, two, fixes, guards, checks, raises, restricts, applies, lets}

-- Under the context role r the tree is at check i, of a guard of role a, which the context role c there does not dominate.
pub data RefusedAt (m : Meaning) : ℕ → Tree → ℕ → ℕ → ℕ → Type 0 where
  at_check : {r i j a : ℕ} {t : Tree} → m.dom r a ≡ false → RefusedAt m r (one i checks (one j (guards a) t)) i a r
  -- inward through the first operand; raise joins its role to the context role on the way, restrict meets it
  at_application : {r k i a c : ℕ} {t u : Tree} → RefusedAt m r t i a c → RefusedAt m r (two k applies t u) i a c
  at_let : {r k i a c : ℕ} {t u : Tree} → RefusedAt m r t i a c → RefusedAt m r (two k lets t u) i a c
  at_fix : {r k i a c : ℕ} {t : Tree} → RefusedAt m r t i a c → RefusedAt m r (one k fixes t) i a c
  at_inner : {r k i a c : ℕ} {t : Tree} → RefusedAt m r t i a c → RefusedAt m r (one k checks t) i a c
  at_raise : {r k i a b c j : ℕ} {t : Tree} → m.join b r ≡ Some j → RefusedAt m j t i a c → RefusedAt m r (one k (raises b) t) i a c
  at_restrict : {r k i a b c j : ℕ} {t : Tree} → m.meet b r ≡ Some j → RefusedAt m j t i a c → RefusedAt m r (one k (restricts b) t) i a c
