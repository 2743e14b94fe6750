-- The laws of a scheme in the form that the proofs use. Assumes nothing.
use Rattle.std.proofs.Common.{◌≡◌, ℕ, true, ◌&&◌, is_some, Some, Option, sym, ap, ◌∙◌}
use Rattle.std.proofs.lemmas.Bool.{and_parts, and_from}
use Rattle.roles.specs.Meaning.{Meaning, Lawful}
use Rattle.calculus.proofs.Options.{some_there}

module _ {m : Meaning} (L : Lawful m) where
  pub left_role : {a b : ℕ} → m.dom a b ≡ true → m.role a ≡ true
  left_role {a} {b} h = (L.dom_roles a b h).0

  pub right_role : {a b : ℕ} → m.dom a b ≡ true → m.role b ≡ true
  right_role {a} {b} h = (L.dom_roles a b h).1

  pub across : {a b c : ℕ} → m.dom a b ≡ true → m.dom b c ≡ true → m.dom a c ≡ true
  across {a} {b} {c} h k = L.transitive a b c h k

  pub over_left : {a b j : ℕ} → m.join a b ≡ Some j → m.dom j a ≡ true
  over_left {a} {b} {j} h = (L.join_upper a b j h).0

  pub over_right : {a b j : ℕ} → m.join a b ≡ Some j → m.dom j b ≡ true
  over_right {a} {b} {j} h = (L.join_upper a b j h).1

  pub over_join : {a b j x : ℕ} → m.join a b ≡ Some j → m.dom x a ≡ true → m.dom x b ≡ true → m.dom x j ≡ true
  over_join {a} {b} {j} {x} h p q = L.join_least a b j x h p q

  pub under_left : {a b k : ℕ} → m.meet a b ≡ Some k → m.dom a k ≡ true
  under_left {a} {b} {k} h = (L.meet_lower a b k h).0

  pub under_right : {a b k : ℕ} → m.meet a b ≡ Some k → m.dom b k ≡ true
  under_right {a} {b} {k} h = (L.meet_lower a b k h).1

  pub under_meet : {a b k x : ℕ} → m.meet a b ≡ Some k → m.dom a x ≡ true → m.dom b x ≡ true → m.dom k x ≡ true
  under_meet {a} {b} {k} {x} h p q = L.meet_greatest a b k x h p q

  -- two roles have a join, a meet and a remainder
  there : (o : Option ℕ) {a b : ℕ} → is_some o ≡ (m.role a && m.role b) → m.role a ≡ true → m.role b ≡ true → (c : ℕ) × (o ≡ Some c)
  there o {a} {b} e p q = some_there o (e ∙ and_from (m.role a) (m.role b) p q)

  pub join_there : (a b : ℕ) → m.role a ≡ true → m.role b ≡ true → (j : ℕ) × (m.join a b ≡ Some j)
  join_there a b p q = there (m.join a b) (L.join_some a b) p q

  pub meet_there : (a b : ℕ) → m.role a ≡ true → m.role b ≡ true → (k : ℕ) × (m.meet a b ≡ Some k)
  meet_there a b p q = there (m.meet a b) (L.meet_some a b) p q

  pub remainder_there : (b a : ℕ) → m.role b ≡ true → m.role a ≡ true → (c : ℕ) × (m.remainder b a ≡ Some c)
  remainder_there b a p q = there (m.remainder b a) (L.remainder_some b a) p q

  -- a remainder is of roles, and is a role
  pub remainder_by : {b a c : ℕ} → m.remainder b a ≡ Some c → m.role a ≡ true
  remainder_by {b} {a} {c} e = (and_parts (m.role b) (m.role a) (sym (L.remainder_some b a) ∙ ap is_some e)).1

  pub remainder_role : {b a c : ℕ} → m.remainder b a ≡ Some c → m.role c ≡ true
  remainder_role {b} {a} {c} e = L.remainder_role b a c e

  -- the one use of residuation: to dominate the remainder is to dominate the whole together with the part
  pub exactly : {b a c x j : ℕ} → m.remainder b a ≡ Some c → m.join a x ≡ Some j → m.dom x c ≡ m.dom j b
  exactly {b} {a} {c} {x} {j} e i = L.residuation b a c x j e i

  pub enough : {b a c x j : ℕ} → m.remainder b a ≡ Some c → m.join a x ≡ Some j → m.dom x c ≡ true → m.dom j b ≡ true
  enough e i h = sym (exactly e i) ∙ h

  pub needed : {b a c x j : ℕ} → m.remainder b a ≡ Some c → m.join a x ≡ Some j → m.dom j b ≡ true → m.dom x c ≡ true
  needed e i h = exactly e i ∙ h
