-- The role set and the order leave the other answers no choice. Assumes nothing.
use Rattle.std.proofs.Common.{◌≡◌, ℕ, Bool, true, false, ◌&&◌, is_some, Some, None, Option, sym, refl, ap, ◌∙◌, ap₂}
use Rattle.std.proofs.lemmas.Bool.{and_parts}
use Rattle.roles.specs.Meaning.{Meaning, Lawful}
use Rattle.roles.specs.Theorems.{OrderDecides}
use Rattle.roles.proofs.Truths.{iff}

-- what an operation answers is a role
pub join_role : {m : Meaning} → Lawful m → (a b j : ℕ) → m.join a b ≡ Some j → m.role j ≡ true
join_role l a b j e = (l.dom_roles j a (l.join_upper a b j e).0).0

pub meet_role : {m : Meaning} → Lawful m → (a b k : ℕ) → m.meet a b ≡ Some k → m.role k ≡ true
meet_role l a b k e = (l.dom_roles a k (l.meet_lower a b k e).0).1

-- two answers that are there together and are equal when there
same_option : (x y : Option ℕ) → is_some x ≡ is_some y → ((a b : ℕ) → x ≡ Some a → y ≡ Some b → a ≡ b) → x ≡ y
same_option None None e f = refl
same_option None (Some b) e f = cc
same_option (Some a) None e f = cc
same_option (Some a) (Some b) e f = ap Some (f a b refl refl)

-- the codes at which an operation answers
operands : (m : Meaning) (x : Option ℕ) (a b j : ℕ) → is_some x ≡ (m.role a && m.role b) → x ≡ Some j → (m.role a ≡ true) × (m.role b ≡ true)
operands m x a b j e f = and_parts (m.role a) (m.role b) (sym e ∙ ap is_some f)

module _ (m n : Meaning) (lm : Lawful m) (ln : Lawful n) (roles : (c : ℕ) → m.role c ≡ n.role c) (order : (a b : ℕ) → m.dom a b ≡ n.dom a b) where
  role_there : (c : ℕ) → m.role c ≡ true → n.role c ≡ true
  role_there c e = sym (roles c) ∙ e

  dom_there : (a b : ℕ) → m.dom a b ≡ true → n.dom a b ≡ true
  dom_there a b e = sym (order a b) ∙ e

  dom_here : (a b : ℕ) → n.dom a b ≡ true → m.dom a b ≡ true
  dom_here a b e = order a b ∙ e

  both : (a b : ℕ) → (m.role a && m.role b) ≡ (n.role a && n.role b)
  both a b = ap₂ ◌&&◌ (roles a) (roles b)

  same_sound : m.sound ≡ n.sound
  same_sound = iff (λ s. ln.role_sound _ (role_there _ (lm.bottom_role s))) (λ s. lm.role_sound _ (roles _ ∙ ln.bottom_role s))

  same_bottom : (s : Bool) → m.sound ≡ s → m.bottom ≡ n.bottom
  same_bottom true e =
      let here = lm.bottom_role e in
      let there = ln.bottom_role (sym same_sound ∙ e) in
      ln.antisymmetric _ _ (ln.bottom_least _ (role_there _ here)) (dom_there _ _ (lm.bottom_least _ (roles _ ∙ there)))
  same_bottom false e = (lm.unsound e).1 ∙ sym (ln.unsound (sym same_sound ∙ e)).1

  same_join : (a b : ℕ) → m.join a b ≡ n.join a b
  same_join a b =
      same_option _ _ (lm.join_some a b ∙ both a b ∙ sym (ln.join_some a b))
      (λ i j e f. let u = lm.join_upper a b i e in let v = ln.join_upper a b j f in
      ln.antisymmetric _ _ (ln.join_least a b j i f (dom_there _ _ u.0) (dom_there _ _ u.1)) (dom_there _ _ (lm.join_least a b i j e (dom_here _ _ v.0) (dom_here _ _ v.1))))

  same_meet : (a b : ℕ) → m.meet a b ≡ n.meet a b
  same_meet a b =
      same_option _ _ (lm.meet_some a b ∙ both a b ∙ sym (ln.meet_some a b))
      (λ i j e f. let u = lm.meet_lower a b i e in let v = ln.meet_lower a b j f in
      ln.antisymmetric _ _ (dom_there _ _ (lm.meet_greatest a b i j e (dom_here _ _ v.0) (dom_here _ _ v.1))) (ln.meet_greatest a b j i f (dom_there _ _ u.0) (dom_there _ _ u.1)))

  -- a role that dominates the remainder in the one meaning does so in the other, since the joins are the same
  residual : (b a r s x : ℕ) → m.remainder b a ≡ Some r → n.remainder b a ≡ Some s → m.role x ≡ true → m.dom x r ≡ n.dom x s
  residual b a r s x e f p = go (m.join a x) refl
    where
      there : is_some (m.join a x) ≡ true
      there = lm.join_some a x ∙ ap₂ ◌&&◌ (operands m _ b a r (lm.remainder_some b a) e).1 p

      go : (o : Option ℕ) → m.join a x ≡ o → m.dom x r ≡ n.dom x s
      go None i = cc (sym there ∙ ap is_some i)
      go (Some j) i = lm.residuation b a r x j e i ∙ order j b ∙ sym (ln.residuation b a s x j f (sym (same_join a x) ∙ i))

  same_remainder : (b a : ℕ) → m.remainder b a ≡ n.remainder b a
  same_remainder b a =
      same_option _ _ (lm.remainder_some b a ∙ both b a ∙ sym (ln.remainder_some b a))
      (λ r s e f. let p = lm.remainder_role b a r e in let q = ln.remainder_role b a s f in
      ln.antisymmetric _ _ (sym (residual b a r s r e f p) ∙ lm.reflexive r p) (dom_there s r (residual b a r s s e f (roles s ∙ q) ∙ ln.reflexive s q)))

pub order_decides_lem : OrderDecides
order_decides_lem m n lm ln roles order =
    record {
      sound = same_sound m n lm ln roles order;
      bottom = same_bottom m n lm ln roles order m.sound refl;
      join = same_join m n lm ln roles order;
      meet = same_meet m n lm ln roles order;
      remainder = same_remainder m n lm ln roles order;
    }
