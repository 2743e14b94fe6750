-- Two lawful schemes side by side are one. Assumes nothing.
use Rattle.std.specs.Prelude.{◌≡◌, ℕ, ◌+◌, ◌*◌, ◌/◌, ◌%◌, ◌^◌, ◌<◌, ◌≤◌, Bool, true, false, cond, ◌&&◌, is_some, Some, None, Option, refl}
use Rattle.std.proofs.Common.{sym, ap, ap₂, subst, ◌∙◌, arith, lit≤, pow_pos, pow-add, pow_mono}
use Rattle.std.proofs.lemmas.Bool.{and_parts, and_from, cond-true, cond-false, leb-true}
use Rattle.std.proofs.lemmas.Nat.{shr_split, shr_high, mod_low, mul-add-lt, mod_below}
use Rattle.roles.specs.Meaning.{Meaning, Lawful}
use Rattle.roles.proofs.Truths.{iff}
use Rattle.roles.proofs.Deciding.{join_role}
use Rattle.pairs.specs.Kind.{high, low, packed, packed_answers, only, pair, pair_sound}

record Taken (s : Bool) (w : ℕ) (x y : Option ℕ) (j : ℕ) : Type 0 where
  sound : s ≡ true
  h : ℕ
  l : ℕ
  first : x ≡ Some h
  second : y ≡ Some l
  whole : packed w h l ≡ j

taken : (s : Bool) (w : ℕ) (x y : Option ℕ) (j : ℕ) → only s (packed_answers w x y) ≡ Some j → Taken s w x y j
taken false w x y j e = let z : ◌≡◌ {A = ℕ} 0 1 = cc in absurd (omega arith)
taken true w None y j e = let z : ◌≡◌ {A = ℕ} 0 1 = cc in absurd (omega arith)
taken true w (Some h) None j e = let z : ◌≡◌ {A = ℕ} 0 1 = cc in absurd (omega arith)
taken true w (Some h) (Some l) j e = record { sound = refl; h = h; l = l; first = refl; second = refl; whole = cc }

is_packed : (w : ℕ) (x y : Option ℕ) → is_some (packed_answers w x y) ≡ (is_some x && is_some y)
is_packed w None y = refl
is_packed w (Some h) None = refl
is_packed w (Some h) (Some l) = refl

crossed : (p q r s : Bool) → ((p && r) && (q && s)) ≡ ((p && q) && (r && s))
crossed false q r s = refl
crossed true true r s = refl
crossed true false true s = refl
crossed true false false s = refl

is_only : (t : Bool) (w : ℕ) (x y : Option ℕ) (p q r s : Bool) → is_some x ≡ (p && r) → is_some y ≡ (q && s) → is_some (only t (packed_answers w x y)) ≡ ((t && (p && q)) && (t && (r && s)))
is_only false w x y p q r s e f = refl
is_only true w x y p q r s e f = is_packed w x y ∙ ap₂ ◌&&◌ e f ∙ crossed p q r s

module _ (m n : Meaning) (lm : Lawful m) (ln : Lawful n) where
  record Both (a b : ℕ) : Type 0 where
    sound : pair_sound m n ≡ true
    one : m.dom (high n.width a) (high n.width b) ≡ true
    two : n.dom (low n.width a) (low n.width b) ≡ true

  told : (a b : ℕ) → (pair m n).dom a b ≡ true → Both a b
  told a b e = let p = and_parts (pair_sound m n) _ e in let q = and_parts _ _ p.1 in record { sound = p.0; one = q.0; two = q.1 }

  made : (a b : ℕ) → pair_sound m n ≡ true → m.dom (high n.width a) (high n.width b) ≡ true → n.dom (low n.width a) (low n.width b) ≡ true → (pair m n).dom a b ≡ true
  made a b s p q = and_from _ _ s (and_from _ _ p q)

  role : (a : ℕ) → pair_sound m n ≡ true → m.role (high n.width a) ≡ true → n.role (low n.width a) ≡ true → (pair m n).role a ≡ true
  role a s p q = and_from _ _ s (and_from _ _ p q)

  -- the parts of a code that was put together
  high_part : (h l j : ℕ) → n.role l ≡ true → packed n.width h l ≡ j → high n.width j ≡ h
  high_part h l j r e = ap (λ (x : ℕ). x / 2 ^ n.width) (sym e) ∙ shr_high h n.width l (ln.role_fits l r)

  low_part : (h l j : ℕ) → n.role l ≡ true → packed n.width h l ≡ j → low n.width j ≡ l
  low_part h l j r e = ap (λ (x : ℕ). x % 2 ^ n.width) (sym e) ∙ mod_low h n.width l (ln.role_fits l r)

  -- h and l together dominate a, and are dominated by a
  above : (h l j a : ℕ) → pair_sound m n ≡ true → packed n.width h l ≡ j → m.dom h (high n.width a) ≡ true → n.dom l (low n.width a) ≡ true → (pair m n).dom j a ≡ true
  above h l j a s e p q =
      let r = (ln.dom_roles l (low n.width a) q).0 in
      made j a s (subst (λ (x : ℕ). m.dom x (high n.width a) ≡ true) (sym (high_part h l j r e)) p) (subst (λ (x : ℕ). n.dom x (low n.width a) ≡ true) (sym (low_part h l j r e)) q)

  under : (h l j a : ℕ) → pair_sound m n ≡ true → packed n.width h l ≡ j → m.dom (high n.width a) h ≡ true → n.dom (low n.width a) l ≡ true → (pair m n).dom a j ≡ true
  under h l j a s e p q =
      let r = (ln.dom_roles (low n.width a) l q).1 in
      made a j s (subst (λ (x : ℕ). m.dom (high n.width a) x ≡ true) (sym (high_part h l j r e)) p) (subst (λ (x : ℕ). n.dom (low n.width a) x ≡ true) (sym (low_part h l j r e)) q)

  room : pair_sound m n ≡ true → m.width + n.width ≤ 64
  room s = leb-true (m.width + n.width) 64 (and_parts (m.sound && n.sound) _ s).1

  fits : (c : ℕ) → m.role (high n.width c) ≡ true → c < 2 ^ (m.width + n.width)
  fits c p =
      let h = lm.role_fits (high n.width c) p in
      let l = mod_below c (2 ^ n.width) (pow_pos n.width) in
      omega (arith, shr_split c n.width, mul-add-lt (high n.width c) (2 ^ n.width) (low n.width c) (2 ^ m.width) h l, pow-add 2 m.width n.width)

  wide : (s : Bool) → pair_sound m n ≡ s → (1 ≤ cond s (m.width + n.width) 64) × (cond s (m.width + n.width) 64 ≤ 64)
  wide true e = let a = lm.wide in let r = room e in (omega arith, omega arith)
  wide false e = (lit≤ tt, lit≤ tt)

  pub bottoms : pair_sound m n ≡ true → (m.role m.bottom ≡ true) × (n.role n.bottom ≡ true)
  bottoms s = let p = and_parts m.sound n.sound (and_parts (m.sound && n.sound) _ s).0 in (lm.bottom_role p.0, ln.bottom_role p.1)

  enough : (b a r x j : ℕ) → (pair m n).remainder b a ≡ Some r → (pair m n).join a x ≡ Some j → (pair m n).dom x r ≡ true → (pair m n).dom j b ≡ true
  enough b a r x j e i d =
      let t = taken (pair_sound m n) n.width _ _ r e in let u = taken (pair_sound m n) n.width _ _ j i in let v = told x r d in
      let q = ln.remainder_role _ _ _ t.second in
      let one = subst (λ (y : ℕ). m.dom (high n.width x) y ≡ true) (high_part t.h t.l r q t.whole) v.one in
      let two = subst (λ (y : ℕ). n.dom (low n.width x) y ≡ true) (low_part t.h t.l r q t.whole) v.two in
      above u.h u.l j b u.sound u.whole
      (sym (lm.residuation _ _ _ _ _ t.first u.first) ∙ one) (sym (ln.residuation _ _ _ _ _ t.second u.second) ∙ two)

  needed : (b a r x j : ℕ) → (pair m n).remainder b a ≡ Some r → (pair m n).join a x ≡ Some j → (pair m n).dom j b ≡ true → (pair m n).dom x r ≡ true
  needed b a r x j e i d =
      let t = taken (pair_sound m n) n.width _ _ r e in let u = taken (pair_sound m n) n.width _ _ j i in let v = told j b d in
      let k = join_role ln _ _ _ u.second in
      let one = subst (λ (y : ℕ). m.dom y (high n.width b) ≡ true) (high_part u.h u.l j k u.whole) v.one in
      let two = subst (λ (y : ℕ). n.dom y (low n.width b) ≡ true) (low_part u.h u.l j k u.whole) v.two in
      under t.h t.l r x t.sound t.whole
      (lm.residuation _ _ _ _ _ t.first u.first ∙ one) (ln.residuation _ _ _ _ _ t.second u.second ∙ two)

  pub pair_lawful : Lawful (pair m n)
  pair_lawful = record {
    wide = wide (pair_sound m n) refl;
    role_sound = λ c e. (and_parts (pair_sound m n) _ e).0;
    role_fits = λ c e. let p = and_parts (pair_sound m n) _ e in let q = and_parts _ _ p.1 in rw p.0 (fits c q.0);
    unsound = λ e. (cond-false (pair_sound m n) _ 64 e, cond-false (pair_sound m n) _ 0 e);
    dom_roles = λ a b e. let t = told a b e in let p = lm.dom_roles _ _ t.one in let q = ln.dom_roles _ _ t.two in
        (role a t.sound p.0 q.0, role b t.sound p.1 q.1);
    reflexive = λ a e. let p = and_parts (pair_sound m n) _ e in let q = and_parts _ _ p.1 in made a a p.0 (lm.reflexive _ q.0) (ln.reflexive _ q.1);
    transitive = λ a b c p q. let t = told a b p in let u = told b c q in
        made a c t.sound (lm.transitive _ _ _ t.one u.one) (ln.transitive _ _ _ t.two u.two);
    antisymmetric = λ a b p q. let t = told a b p in let u = told b a q in
        sym (shr_split a n.width) ∙ ap₂ (λ (x y : ℕ). x * 2 ^ n.width + y) (lm.antisymmetric _ _ t.one u.one) (ln.antisymmetric _ _ t.two u.two) ∙ shr_split b n.width;
    bottom_role = λ s. let b = bottoms s in let e = sym (cond-true (pair_sound m n) (packed n.width m.bottom n.bottom) 0 s) in
        role _ s (subst (λ (x : ℕ). m.role x ≡ true) (sym (high_part _ _ _ b.1 e)) b.0) (subst (λ (x : ℕ). n.role x ≡ true) (sym (low_part _ _ _ b.1 e)) b.1);
    bottom_least = λ a e. let p = and_parts (pair_sound m n) _ e in let q = and_parts _ _ p.1 in
        under m.bottom n.bottom _ a p.0 (sym (cond-true (pair_sound m n) (packed n.width m.bottom n.bottom) 0 p.0)) (lm.bottom_least _ q.0) (ln.bottom_least _ q.1);
    join_some = λ a b. is_only (pair_sound m n) n.width _ _ (m.role (high n.width a)) (n.role (low n.width a)) (m.role (high n.width b)) (n.role (low n.width b)) (lm.join_some _ _) (ln.join_some _ _);
    join_upper = λ a b j e. let t = taken (pair_sound m n) n.width _ _ j e in let p = lm.join_upper _ _ _ t.first in let q = ln.join_upper _ _ _ t.second in
        (above t.h t.l j a t.sound t.whole p.0 q.0, above t.h t.l j b t.sound t.whole p.1 q.1);
    join_least = λ a b j x e p q. let t = taken (pair_sound m n) n.width _ _ j e in let u = told x a p in let v = told x b q in
        under t.h t.l j x t.sound t.whole (lm.join_least _ _ _ _ t.first u.one v.one) (ln.join_least _ _ _ _ t.second u.two v.two);
    meet_some = λ a b. is_only (pair_sound m n) n.width _ _ (m.role (high n.width a)) (n.role (low n.width a)) (m.role (high n.width b)) (n.role (low n.width b)) (lm.meet_some _ _) (ln.meet_some _ _);
    meet_lower = λ a b j e. let t = taken (pair_sound m n) n.width _ _ j e in let p = lm.meet_lower _ _ _ t.first in let q = ln.meet_lower _ _ _ t.second in
        (under t.h t.l j a t.sound t.whole p.0 q.0, under t.h t.l j b t.sound t.whole p.1 q.1);
    meet_greatest = λ a b j x e p q. let t = taken (pair_sound m n) n.width _ _ j e in let u = told a x p in let v = told b x q in
        above t.h t.l j x t.sound t.whole (lm.meet_greatest _ _ _ _ t.first u.one v.one) (ln.meet_greatest _ _ _ _ t.second u.two v.two);
    remainder_some = λ b a. is_only (pair_sound m n) n.width _ _ (m.role (high n.width b)) (n.role (low n.width b)) (m.role (high n.width a)) (n.role (low n.width a)) (lm.remainder_some _ _) (ln.remainder_some _ _);
    remainder_role = λ b a r e. let t = taken (pair_sound m n) n.width _ _ r e in let p = lm.remainder_role _ _ _ t.first in let q = ln.remainder_role _ _ _ t.second in
        role r t.sound (subst (λ (x : ℕ). m.role x ≡ true) (sym (high_part t.h t.l r q t.whole)) p) (subst (λ (x : ℕ). n.role x ≡ true) (sym (low_part t.h t.l r q t.whole)) q);
    residuation = λ b a r x j e i. iff (enough b a r x j e i) (needed b a r x j e i);
  }

  -- the second's part leaves a bit to the first's
  pub narrow : pair_sound m n ≡ true → (w : ℕ) → w ≡ n.width → w < 64
  narrow s w e = let both = room s in let least = lm.wide.0 in omega arith

  -- two roles are packed without loss
  pub placed : pair_sound m n ≡ true → (w h l : ℕ) → w ≡ n.width → m.role h ≡ true → n.role l ≡ true → (w < 64) × (l < 2 ^ w) × (h * 2 ^ w + l < 2 ^ 64)
  placed s w h l e p q =
      let first = lm.role_fits h p in
      let second : l < 2 ^ w = subst (λ (k : ℕ). l < 2 ^ k) (sym e) (ln.role_fits l q) in
      let both = room s in
      let less = narrow s w e in
      let total : m.width + w ≤ 64 = omega arith in
      (less, second, omega (arith, mul-add-lt h (2 ^ w) l (2 ^ m.width) first second, pow-add 2 m.width w, pow_mono total))
