-- A step keeps the sufficient type, and of the necessary type what it says of the roles above the context role. Assumes nothing.
use Rattle.std.proofs.Common.{◌≡◌, ℕ, true, [], refl}
use Rattle.roles.specs.Meaning.{Meaning, Lawful}
use Rattle.calculus.specs.Syntax.{Ty, base, function, guarded, computation, Term, abstraction}
use Rattle.calculus.specs.Substitution.{substitute}
use Rattle.calculus.specs.Subtyping.{System, sufficient, necessary, Subtype, base_below, function_below, guarded_below, computation_below}
use Rattle.calculus.specs.Typing.{Has, has_constant, has_variable, has_abstraction, has_application, has_fix, has_guard, has_check, has_unit, has_let, has_raise, has_restrict, subsumption}
use Rattle.calculus.specs.Steps.{Value, constant_value, abstraction_value, guard_value, unit_value, Step, apply, unroll, pass, hand_over, leave_raise, leave_restrict, in_application, in_fix, in_check, in_let, in_raise, in_restrict}
use Rattle.calculus.proofs.Options.{none_some}
use Rattle.calculus.proofs.Laws.{left_role, right_role, across, over_left, over_right, over_join, under_right, join_there, remainder_there, remainder_by, remainder_role, enough, needed}
use Rattle.calculus.proofs.Inversion.{bound_role, bound_inner, type_same, of_constant, of_abstraction, of_guard, abstraction_at, guard_at, unit_at}
use Rattle.calculus.proofs.Replacing.{replace_only}

module _ {m : Meaning} (L : Lawful m) (sound : m.sound ≡ true) where
  -- the body of an abstraction, with an argument put in, has the result's type
  body_has : {α : System} {t u r s : Ty} {e x : Term} → Has m α [] (abstraction t u e) (function r s) → Has m α [] x r → Has m α [] (substitute 0 x e) s
  body_has h k = let i = abstraction_at L sound h in replace_only (subsumption k i.0) i.1

  -- a value has its sufficient type with any other role for the bound
  value_at_any : {v : Term} {b : ℕ} {t : Ty} → Value v → Has m sufficient [] v (computation b t) → (c : ℕ) → m.role c ≡ true → Has m sufficient [] v (computation c t)
  value_at_any constant_value h c w = elim (of_constant L sound h) [ ]
  value_at_any abstraction_value h c w = elim (of_abstraction L sound h).2 [ ]
  value_at_any guard_value h c w = elim (of_guard L sound h).2 [ ]
  value_at_any unit_value h c w =
      let g = (unit_at L sound h).1 in
      subsumption (has_unit g) (computation_below (L.bottom_least c w) (type_same L sound g))

  pub sufficient_kept : {r : ℕ} {e e' : Term} {t : Ty} → Has m sufficient [] e t → Step m r e e' → Has m sufficient [] e' t
  sufficient_kept has_constant s = elim s [ ]
  sufficient_kept (has_variable h) s = absurd (none_some h)
  sufficient_kept (has_abstraction w h) s = elim s [ ]
  sufficient_kept (has_application h k) apply = body_has h k
  sufficient_kept (has_application h k) (in_application s) = has_application (sufficient_kept h s) k
  sufficient_kept (has_fix h) unroll = body_has h (has_fix h)
  sufficient_kept (has_fix h) (in_fix s) = has_fix (sufficient_kept h s)
  sufficient_kept (has_guard w h) s = elim s [ ]
  sufficient_kept (has_check {a = a} h) (pass d) =
      let i = guard_at L sound h in
      subsumption (has_unit i.1) (computation_below (L.bottom_least a (left_role L i.0)) (type_same L sound i.1))
  sufficient_kept (has_check h) (in_check s) = has_check (sufficient_kept h s)
  sufficient_kept (has_unit h) s = elim s [ ]
  sufficient_kept (has_let h k j) hand_over =
      let i = replace_only (unit_at L sound h).1 k in
      subsumption i (computation_below (over_right L j) (bound_inner L sound i))
  sufficient_kept (has_let h k j) (in_let s) = has_let (sufficient_kept h s) k j
  sufficient_kept (has_raise {c = c} h j) (leave_raise v) = value_at_any v h c (remainder_role L j)
  sufficient_kept (has_raise h j) (in_raise p s) = has_raise (sufficient_kept h s) j
  sufficient_kept (has_restrict h w q) (leave_restrict v) = h
  sufficient_kept (has_restrict h w q) (in_restrict p s) = has_restrict (sufficient_kept h s) w q
  sufficient_kept (subsumption h k) s = subsumption (sufficient_kept h s) k

  -- every role dominates the necessary bound of a value
  pub value_needs_nothing : {v : Term} {b : ℕ} {t : Ty} → Value v → Has m necessary [] v (computation b t) → (x : ℕ) → m.role x ≡ true → m.dom x b ≡ true
  value_needs_nothing constant_value h x w = elim (of_constant L sound h) [ ]
  value_needs_nothing abstraction_value h x w = elim (of_abstraction L sound h).2 [ ]
  value_needs_nothing guard_value h x w = elim (of_guard L sound h).2 [ ]
  value_needs_nothing unit_value h x w = across L (L.bottom_least x w) (unit_at L sound h).0

  -- the type is kept but for a computation's bound, which may fall, yet not so far that a role above r dominates the new one and not the old one
  abbrev Kept : ℕ → Term → Ty → Type 0
  Kept r e (base k) = Has m necessary [] e (base k)
  Kept r e (function t s) = Has m necessary [] e (function t s)
  Kept r e (guarded a t) = Has m necessary [] e (guarded a t)
  Kept r e (computation b t) = (b' : ℕ) × Has m necessary [] e (computation b' t) × ((x : ℕ) → m.dom x r ≡ true → m.dom x b' ≡ true → m.dom x b ≡ true)

  kept_whole : (r : ℕ) {e : Term} (t : Ty) → Has m necessary [] e t → Kept r e t
  kept_whole r (base k) h = h
  kept_whole r (function t s) h = h
  kept_whole r (guarded a t) h = h
  kept_whole r (computation b t) h = (b, h, λ x p q. q)

  kept_below : (r : ℕ) (e : Term) {t s : Ty} → Subtype m necessary t s → Kept r e t → Kept r e s
  kept_below r e base_below g = g
  kept_below r e (function_below h k) g = subsumption g (function_below h k)
  kept_below r e (guarded_below h k) g = subsumption g (guarded_below h k)
  kept_below r e (computation_below h k) g =
      (g.0, subsumption g.1 (computation_below (L.reflexive g.0 (bound_role L sound g.1)) k), λ x p q. across L (g.2 x p q) h)

  pub necessary_kept : {e e' : Term} {t : Ty} {r : ℕ} → Has m necessary [] e t → Step m r e e' → Kept r e' t
  necessary_kept has_constant s = elim s [ ]
  necessary_kept (has_variable h) s = absurd (none_some h)
  necessary_kept (has_abstraction w h) s = elim s [ ]
  necessary_kept {r = r} (has_application {s = s} h k) apply = kept_whole r s (body_has h k)
  necessary_kept {r = r} (has_application {s = s} h k) (in_application i) = kept_whole r s (has_application (necessary_kept h i) k)
  necessary_kept {r = r} (has_fix {t = t} h) unroll = kept_whole r t (body_has h (has_fix h))
  necessary_kept {r = r} (has_fix {t = t} h) (in_fix i) = kept_whole r t (has_fix (necessary_kept h i))
  necessary_kept (has_guard w h) s = elim s [ ]
  necessary_kept (has_check h) (pass d) = let i = guard_at L sound h in (m.bottom, has_unit i.1, λ x p q. across L (across L p d) i.0)
  necessary_kept (has_check {a = a} h) (in_check s) = (a, has_check (necessary_kept h s), λ x p q. q)
  necessary_kept (has_unit h) s = elim s [ ]
  necessary_kept (has_let {b = b} h k j) hand_over =
      let i = unit_at L sound h in
      (b, replace_only i.1 k, λ x p q. over_join L j (across L (L.bottom_least x (left_role L q)) i.0) q)
  necessary_kept (has_let {b = b} h k j) (in_let s) =
      let i = necessary_kept h s in
      let n = join_there L i.0 b (bound_role L sound i.1) (right_role L (over_right L j)) in
      (n.0, has_let i.1 k n.1, λ x p q. over_join L j (i.2 x p (across L q (over_left L n.1))) (across L q (over_right L n.1)))
  necessary_kept (has_raise {a = a} {b = b} h j) (leave_raise v) =
      (b, h, λ x p q. let n = join_there L a x (remainder_by L j) (left_role L q) in needed L j n.1 (across L (over_right L n.1) q))
  necessary_kept (has_raise {a = a} h j) (in_raise p s) =
      let i = necessary_kept h s in
      let n = remainder_there L i.0 a (bound_role L sound i.1) (remainder_by L j) in (
        n.0,
        has_raise i.1 n.1,
        λ x d q.
            let y = join_there L a x (remainder_by L j) (left_role L d) in
            let up = over_join L p (over_left L y.1) (across L (over_right L y.1) d) in
            needed L j y.1 (i.2 y.0 up (enough L n.1 y.1 q)),
      )
  necessary_kept (has_restrict {b = b} h w q) (leave_restrict v) = (b, h, λ x p q. q)
  necessary_kept (has_restrict h w q) (in_restrict p s) =
      let i = necessary_kept h s in
      (i.0, has_restrict i.1 w refl, λ x d q. i.2 x (across L d (under_right L p)) q)
  necessary_kept {e} {e'} {r = r} (subsumption h k) s = kept_below r e' k (necessary_kept h s)
