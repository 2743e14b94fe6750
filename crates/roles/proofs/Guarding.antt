-- A kind shows the laws of its operations on roles alone; that they then hold of its whole meaning is shown here, once for all kinds. Assumes nothing.
use Rattle.std.proofs.Common.{◌≡◌, ℕ, ◌^◌, ◌<◌, ◌≤◌, Bool, true, false, cond, ◌&&◌, is_some, Some, sym, refl, subst, lit≤}
use Rattle.std.proofs.lemmas.Bool.{and_parts, and_from, cond-false}
use Rattle.roles.specs.Meaning.{Lawful}
use Rattle.roles.specs.Frame.{Frame, guarded, when}
use Rattle.roles.proofs.Truths.{iff}

pub record Raw (f : Frame) : Type 0 where
  pub wide : (1 ≤ f.width) × (f.width ≤ 64)
  pub fits : (c : ℕ) → f.role c ≡ true → c < 2 ^ f.width
  pub itself : (a : ℕ) → f.role a ≡ true → f.above a a ≡ true
  pub trans : (a b c : ℕ) → f.role a ≡ true → f.role b ≡ true → f.role c ≡ true → f.above a b ≡ true → f.above b c ≡ true → f.above a c ≡ true
  pub anti : (a b : ℕ) → f.role a ≡ true → f.role b ≡ true → f.above a b ≡ true → f.above b a ≡ true → a ≡ b
  pub bottom_role : f.role f.bottom ≡ true
  pub bottom_least : (a : ℕ) → f.role a ≡ true → f.above a f.bottom ≡ true
  pub join_role : (a b : ℕ) → f.role a ≡ true → f.role b ≡ true → f.role (f.join a b) ≡ true
  pub join_left : (a b : ℕ) → f.role a ≡ true → f.role b ≡ true → f.above (f.join a b) a ≡ true
  pub join_right : (a b : ℕ) → f.role a ≡ true → f.role b ≡ true → f.above (f.join a b) b ≡ true
  pub join_least : (a b x : ℕ) → f.role a ≡ true → f.role b ≡ true → f.role x ≡ true → f.above x a ≡ true → f.above x b ≡ true → f.above x (f.join a b) ≡ true
  pub meet_role : (a b : ℕ) → f.role a ≡ true → f.role b ≡ true → f.role (f.meet a b) ≡ true
  pub meet_left : (a b : ℕ) → f.role a ≡ true → f.role b ≡ true → f.above a (f.meet a b) ≡ true
  pub meet_right : (a b : ℕ) → f.role a ≡ true → f.role b ≡ true → f.above b (f.meet a b) ≡ true
  pub meet_greatest : (a b x : ℕ) → f.role a ≡ true → f.role b ≡ true → f.role x ≡ true → f.above a x ≡ true → f.above b x ≡ true → f.above (f.meet a b) x ≡ true
  pub remainder_role : (b a : ℕ) → f.role b ≡ true → f.role a ≡ true → f.role (f.remainder b a) ≡ true
  pub remainder_enough : (b a x : ℕ) → f.role b ≡ true → f.role a ≡ true → f.role x ≡ true → f.above x (f.remainder b a) ≡ true → f.above (f.join a x) b ≡ true
  pub remainder_needed : (b a x : ℕ) → f.role b ≡ true → f.role a ≡ true → f.role x ≡ true → f.above (f.join a x) b ≡ true → f.above x (f.remainder b a) ≡ true

is_when : (t : Bool) (x : ℕ) → is_some (when t x) ≡ t
is_when true x = refl
is_when false x = refl

-- an answer was given: the test passed, and this is the value
pub given : (t : Bool) (x j : ℕ) → when t x ≡ Some j → (t ≡ true) × (x ≡ j)
given true x j e = (refl, cc)
given false x j e = (cc, cc)

-- what a passed test of two roles tells
record Two (f : Frame) (a b : ℕ) : Type 0 where
  sound : f.sound ≡ true
  one : f.role a ≡ true
  two : f.role b ≡ true

two : (f : Frame) (a b : ℕ) → ((f.sound && f.role a) && (f.sound && f.role b)) ≡ true → Two f a b
two f a b e =
    let p = and_parts (f.sound && f.role a) (f.sound && f.role b) e in
    let q = and_parts f.sound (f.role a) p.0 in
    record { sound = q.0; one = q.1; two = (and_parts f.sound (f.role b) p.1).1 }

told : (f : Frame) (a b : ℕ) → (guarded f).dom a b ≡ true → Two f a b × (f.above a b ≡ true)
told f a b e =
    let p = and_parts ((f.sound && f.role a) && (f.sound && f.role b)) (f.above a b) e in
    (two f a b p.0, p.1)

made : (f : Frame) (a b : ℕ) → f.sound ≡ true → f.role a ≡ true → f.role b ≡ true → f.above a b ≡ true → (guarded f).dom a b ≡ true
made f a b s p q r = rw (s, p, q, r)

pub guarded_lawful : (f : Frame) → (f.sound ≡ true → Raw f) → Lawful (guarded f)
guarded_lawful f raw = record {
  wide = wide f.sound refl;
  role_sound = λ c e. (and_parts f.sound (f.role c) e).0;
  role_fits = λ c e. let p = and_parts f.sound (f.role c) e in rw p.0 ((raw p.0).fits c p.1);
  unsound = λ e. (cond-false f.sound f.width 64 e, cond-false f.sound f.bottom 0 e);
  dom_roles = λ a b e. let t = (told f a b e).0 in (and_from _ _ t.sound t.one, and_from _ _ t.sound t.two);
  reflexive = λ a e. let p = and_parts f.sound (f.role a) e in made f a a p.0 p.1 p.1 ((raw p.0).itself a p.1);
  transitive = λ a b c p q. let t = told f a b p in let u = told f b c q in
      made f a c t.0.sound t.0.one u.0.two ((raw t.0.sound).trans a b c t.0.one t.0.two u.0.two t.1 u.1);
  antisymmetric = λ a b p q. let t = told f a b p in let u = told f b a q in
      (raw t.0.sound).anti a b t.0.one t.0.two t.1 u.1;
  bottom_role = λ e. rw e (raw e).bottom_role;
  bottom_least = λ a e. let p = and_parts f.sound (f.role a) e in let b = (raw p.0).bottom_role in let l = (raw p.0).bottom_least a p.1 in rw (p.0, p.1, b, l);
  join_some = λ a b. is_when _ _;
  join_upper = λ a b j e. let g = given _ _ _ e in let t = two f a b g.0 in let r = raw t.sound in
      let up : (f.above j a ≡ true) × ((f.above j b ≡ true) × (f.role j ≡ true)) =
      subst (λ (x : ℕ). (f.above x a ≡ true) × ((f.above x b ≡ true) × (f.role x ≡ true))) g.1 (r.join_left a b t.one t.two, (r.join_right a b t.one t.two, r.join_role a b t.one t.two)) in
      (made f j a t.sound up.1.1 t.one up.0, made f j b t.sound up.1.1 t.two up.1.0);
  join_least = λ a b j x e p q. let g = given _ _ _ e in let t = two f a b g.0 in let r = raw t.sound in
      let u = told f x a p in let v = told f x b q in
      subst (λ (y : ℕ). (guarded f).dom x y ≡ true) g.1 (made f x (f.join a b) t.sound u.0.one (r.join_role a b t.one t.two) (r.join_least a b x t.one t.two u.0.one u.1 v.1));
  meet_some = λ a b. is_when _ _;
  meet_lower = λ a b j e. let g = given _ _ _ e in let t = two f a b g.0 in let r = raw t.sound in let i = r.meet_role a b t.one t.two in (
    subst (λ (y : ℕ). (guarded f).dom a y ≡ true) g.1 (made f a (f.meet a b) t.sound t.one i (r.meet_left a b t.one t.two)),
    subst (λ (y : ℕ). (guarded f).dom b y ≡ true) g.1 (made f b (f.meet a b) t.sound t.two i (r.meet_right a b t.one t.two)),
  );
  meet_greatest = λ a b j x e p q. let g = given _ _ _ e in let t = two f a b g.0 in let r = raw t.sound in
      let u = told f a x p in let v = told f b x q in
      subst (λ (y : ℕ). (guarded f).dom y x ≡ true) g.1 (made f (f.meet a b) x t.sound (r.meet_role a b t.one t.two) u.0.two (r.meet_greatest a b x t.one t.two u.0.two u.1 v.1));
  remainder_some = λ b a. is_when _ _;
  remainder_role = λ b a j e. let g = given _ _ _ e in let t = two f b a g.0 in
      subst (λ (y : ℕ). (guarded f).role y ≡ true) g.1 (and_from _ _ t.sound ((raw t.sound).remainder_role b a t.one t.two));
  residuation = λ b a r x j e i. iff (enough b a r x j e i) (needed b a r x j e i);
}
  where
    wide : (s : Bool) → f.sound ≡ s → (1 ≤ cond s f.width 64) × (cond s f.width 64 ≤ 64)
    wide true e = (raw e).wide
    wide false e = (lit≤ tt, lit≤ tt)

    enough : (b a q x j : ℕ) → (guarded f).remainder b a ≡ Some q → (guarded f).join a x ≡ Some j → (guarded f).dom x q ≡ true → (guarded f).dom j b ≡ true
    enough b a q x j e i p =
        let g = given _ _ _ e in let h = given _ _ _ i in let t = two f b a g.0 in let r = raw t.sound in
        let u = told f x q p in
        let above : f.above x (f.remainder b a) ≡ true = subst (λ (y : ℕ). f.above x y ≡ true) (sym g.1) u.1 in
        subst (λ (y : ℕ). (guarded f).dom y b ≡ true) h.1 (made f (f.join a x) b t.sound (r.join_role a x t.two u.0.one) t.one (r.remainder_enough b a x t.one t.two u.0.one above))

    needed : (b a q x j : ℕ) → (guarded f).remainder b a ≡ Some q → (guarded f).join a x ≡ Some j → (guarded f).dom j b ≡ true → (guarded f).dom x q ≡ true
    needed b a q x j e i p =
        let g = given _ _ _ e in let h = given _ _ _ i in let t = two f b a g.0 in let r = raw t.sound in
        let u = two f a x h.0 in
        let v = told f j b p in
        let above : f.above (f.join a x) b ≡ true = subst (λ (y : ℕ). f.above y b ≡ true) (sym h.1) v.1 in
        subst (λ (y : ℕ). (guarded f).dom x y ≡ true) g.1 (made f x (f.remainder b a) t.sound u.two (r.remainder_role b a t.one t.two) (r.remainder_needed b a x t.one t.two u.two above))
