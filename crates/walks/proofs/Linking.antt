-- What a walk comes to is what is inferred, and so what the rules give.
use Rattle.std.proofs.Common.{◌≡◌, ℕ, zero, suc, ◌+◌, ◌-◌, ◌<◌, ◌≤◌, Bool, true, false, cond, ◌&&◌, eqb, List, [], ◌∷◌, length, get_or, take, set, Some, None, Option, Ok, Err, sym, refl, ap, ◌∙◌, subst, ap₂, subst₂, ⊎_elim, arith, lit<}
use Rattle.std.proofs.lemmas.List.{get_or-set_same, get_or-set_other, length-set}
use Rattle.std.proofs.lemmas.Bool.{and_parts, and_from, le-leb, ltb-true, eqb-true, cases_eq}
use Rattle.roles.specs.Meaning.{Meaning, Lawful}
use Rattle.calculus.specs.Substitution.{closed}
use Rattle.calculus.specs.Syntax.{Ty, base, function, guarded, computation, Term}
use Rattle.calculus.specs.Subtyping.{System, sufficient, necessary, well_coded}
use Rattle.calculus.specs.Typing.{claim, permits}
use Rattle.calculus.specs.Inference.{is_subtype, given, on_some, on_function, on_guarded, on_computation, infer}
use Rattle.calculus.proofs.Complete.{inference_decides_lem, inference_least_lem}
use Rattle.calculus.proofs.Options.{none_some}
use Rattle.tables.specs.declared.entry.Entry.{Entry}
use Rattle.tables.specs.Entries.{at, no_entry, names, term_tag}
use Rattle.trees.specs.Trees.{kind, type_of, term_by, term_of}
use Rattle.trees.proofs.ByTag.{by_term_tag, made}
use Rattle.trees.proofs.Closing.{bound_closed}
use Rattle.trees.proofs.Coding.{types_coded}
use Rattle.trees.proofs.Unfolding.{term_unfold}
use Rattle.walks.specs.declared.fault.TypingFault.{TypingFault}
use Rattle.walks.specs.declared.fault.TypingFault.TheVariants.{NoFunction, Argument, Result, NoComputation}
use Rattle.walks.specs.declared.finding.Finding.TheVariants.{Known, New}
use Rattle.walks.specs.Places.{Grounded, Placed, Rooted, Walkable}
use Rattle.walks.specs.Rules.{Judged, known, fresh, base_type, function_type, guarded_type, computation_type, claim_of, asked, applied, fixed, checked_as, checked, joined_as, joined, raised_as, raised, restricted_as, restricted}
use Rattle.walks.specs.Sense.{Decides, WalkDecides, TellsSame, WalkAgain}
use Rattle.walks.specs.Walk.{Walked, going, stopped, and_then, settled, let_rest, walk_by, walk_of}
use Rattle.walks.proofs.Goods.{Good, low_base, low_function, low_guarded, low_computation, good_applied, good_fixed, good_checked, good_joined, good_raised, good_restricted}
use Rattle.walks.proofs.Links.{tys, AllLow, Grew, Went, Halted, Linked, Judges, same_types, grew_none, settled_links, then_links, lift_links, apply_to, fix_of, check_of, join_to, raise_by, restrict_to, by_shape, apply_judges, fix_judges, check_judges, join_judges, raise_judges, restrict_judges, depth_of, variable_judges, all_at, all_more, tys_same}
use Rattle.walks.proofs.Onces.{once_size}
use Rattle.walks.proofs.Placing.{types_long, at_front, ground, rooted}
use Rattle.walks.proofs.Sums.{sum_rest, size_of, sum_is}
use Rattle.walks.proofs.TypeTrees.{tree_same}
use Rattle.walks.proofs.Unfolding.{tagged, walk_unfold}

-- what follows from a type of a shape, as what follows from a type
function_some : (o : Option Ty) (f : Ty → Ty → Option Ty) → on_some o (λ y. on_function (Some y) f) ≡ on_function o f
function_some None f = refl
function_some (Some y) f = refl

guarded_some : (o : Option Ty) (f : ℕ → Ty → Option Ty) → on_some o (λ y. on_guarded (Some y) f) ≡ on_guarded o f
guarded_some None f = refl
guarded_some (Some y) f = refl

computation_some : (o : Option Ty) (f : ℕ → Ty → Option Ty) → on_some o (λ y. on_computation (Some y) f) ≡ on_computation o f
computation_some None f = refl
computation_some (Some y) f = refl

nothing : (o : Option Ty) → on_some o (λ r. None) ≡ None
nothing None = refl
nothing (Some y) = refl

-- the argument's type may be found before the function is looked at
function_after : (F : Ty) (o : Option Ty) (h : Ty → Ty → Ty → Option Ty) → on_some o (λ r. on_function (Some F) (λ t s. h t s r)) ≡ on_function (Some F) (λ t s. on_some o (λ r. h t s r))
function_after (base k) o h = nothing o
function_after (function t s) o h = refl
function_after (guarded a t) o h = nothing o
function_after (computation a t) o h = nothing o

claim_is : (α : System) (w : ℕ → Ty) (e : Entry) → claim α (w e.second) (w e.third) ≡ w (claim_of α e)
claim_is sufficient w e = refl
claim_is necessary w e = refl

claim_low : (α : System) (t : ℕ) (e : Entry) → (e.second < t) × (e.third < t) → claim_of α e < t
claim_low sufficient t e h = h.0
claim_low necessary t e h = h.1

module _ (m : Meaning) (L : Lawful m) (α : System) (t : ℕ) (T₀ es : List Entry) (wk : Walkable m t T₀ es) where
  abbrev J₀ : List Entry
  J₀ = take t T₀

  abbrev term : ℕ → Term
  term k = term_of J₀ es k

  -- where a walk of a term may begin
  record Ctx (T : List Entry) (u : ℕ) (Γ : List ℕ) (sz : ℕ) (e : Term) : Type 0 where
    gr : Grounded m.role T u
    since : t ≤ u
    low : AllLow u Γ
    front : (i : ℕ) → i < t → type_of T i ≡ type_of J₀ i
    long : u + sz ≤ length T
    shut : closed (depth_of Γ) e ≡ true

  abbrev Goal : ℕ → Type 0
  Goal k = (Γ : List ℕ) (T : List Entry) (u : ℕ) → Ctx T u Γ (size_of es k) (term k) → Linked m T u (size_of es k) (infer m α (tys T Γ) (term k)) (walk_of m α t es k Γ T u)

  -- the last operand, and then the term
  one : (f : ℕ) (Γ : List ℕ) (T : List Entry) (u b : ℕ) → size_of es f < b → u + b ≤ length T → Goal f → Ctx T u Γ (size_of es f) (term f) → (F : Ty → Option Ty) (J : List Entry → ℕ → Judged) → ((T' : List Entry) (u' x : ℕ) → Went m T u (size_of es f) (infer m α (tys T Γ) (term f)) T' u' x → Good m.role u' (J T' x) × Judges T' (F (type_of T' x)) (J T' x)) → Linked m T u b (on_some (infer m α (tys T Γ) (term f)) F) (and_then (walk_of m α t es f Γ T u) (λ T u x. settled (J T x) T u))
  one f Γ T u b s l goal c F J h =
      then_links m T u (size_of es f) b (omega arith) (infer m α (tys T Γ) (term f)) (walk_of m α t es f Γ T u) (goal Γ T u c) F (λ T u x. settled (J T x) T u)
      (λ T' u' x w. let q = h T' u' x w in settled_links m T u (size_of es f) T' u' w.grew (omega arith) (J T' x) q.0 (F (type_of T' x)) q.1 b s)

  -- after a first operand
  later : (T : List Entry) (u a : ℕ) (T' : List Entry) (u' : ℕ) (Γ : List ℕ) (sz : ℕ) (e : Term) → Grew m T u a T' u' → t ≤ u → ((i : ℕ) → i < t → type_of T i ≡ type_of J₀ i) → AllLow u' Γ → u + (a + sz) ≤ length T → closed (depth_of Γ) e ≡ true → Ctx T' u' Γ sz e
  later T u a T' u' Γ sz e g s f l h q = record {
    gr = g.ground;
    since = omega (arith, g.more);
    low = l;
    front = λ i k. same_types m T u a T' u' g i (omega arith) ∙ f i k;
    long = omega (arith, g.room, g.long);
    shut = q;
  }

  -- the second operand, and then the term
  two : (T : List Entry) (u a : ℕ) (T' : List Entry) (u' : ℕ) → Grew m T u a T' u' → (s : ℕ) (Γ : List ℕ) (b : ℕ) → b ≡ a + (size_of es s + 1) → u + b ≤ length T → Goal s → Ctx T' u' Γ (size_of es s) (term s) → (F : Ty → Option Ty) (J : List Entry → ℕ → Judged) → ((T'' : List Entry) (u'' x : ℕ) → Went m T' u' (size_of es s) (infer m α (tys T' Γ) (term s)) T'' u'' x → Good m.role u'' (J T'' x) × Judges T'' (F (type_of T'' x)) (J T'' x)) → Linked m T u b (on_some (infer m α (tys T' Γ) (term s)) F) (and_then (walk_of m α t es s Γ T' u') (λ T u x. settled (J T x) T u))
  two T u a T' u' g s Γ b e l goal c F J h =
      subst (λ (z : ℕ). Linked m T u z (on_some (infer m α (tys T' Γ) (term s)) F) (and_then (walk_of m α t es s Γ T' u') (λ T u x. settled (J T x) T u))) (sym e)
      (lift_links m T u a T' u' (size_of es s + 1) _ (and_then (walk_of m α t es s Γ T' u') (λ T u x. settled (J T x) T u)) g
      (one s Γ T' u' (size_of es s + 1) (omega arith) (omega (arith, g.room, g.long)) goal c F J h))

  abbrev node_size : Entry → ℕ
  node_size e = 1 + sum_rest 0 e (size_of es) (names e.tag) 0

  abbrev node : Entry → Term
  node e = term_by (type_of J₀) e (term_of J₀ es)

  abbrev Node : ℕ → Entry → Type 0
  Node k e = (Γ : List ℕ) (T : List Entry) (u : ℕ) → Ctx T u Γ (node_size e) (node e) → Linked m T u (node_size e) (infer m α (tys T Γ) (node e)) (walk_by m α (t + k) e (walk_of m α t es) Γ T u)

  module _ (k : ℕ) (ih : (i : ℕ) → i < k → Goal i) where
    abbrev p : ℕ
    p = t + k

    at_value : (f s c : ℕ) → Placed m.role t k (made 16 f s c) → Node k (made 16 f s c)
    unfolding infer
    at_value f s c pl Γ T u x =
        settled_links m T u 0 T u (grew_none m T u x.gr) (omega (arith, x.long)) (fresh (base_type f)) (low_base m.role u f (pl.value refl)) (Some (base (kind f))) refl 1 (omega arith)

    at_variable : (f s c : ℕ) → Placed m.role t k (made 17 f s c) → Node k (made 17 f s c)
    unfolding infer
    at_variable f s c pl Γ T u x =
        let b : f < depth_of Γ = ltb-true f (depth_of Γ) x.shut in
        settled_links m T u 0 T u (grew_none m T u x.gr) (omega (arith, x.long)) (known (get_or Γ f 0)) (all_at u Γ x.low f b) _ (variable_judges T Γ f b) 1 (omega arith)

    -- one operand, under the same binders
    plain : (f : ℕ) → f < k → (Γ : List ℕ) (T : List Entry) (u : ℕ) (e : Term) → Ctx T u Γ (1 + ((0 + size_of es f) + 0)) e → closed (depth_of Γ) (term f) ≡ true → (F : Ty → Option Ty) (J : List Entry → ℕ → Judged) → ((T' : List Entry) (u' y : ℕ) → Went m T u (size_of es f) (infer m α (tys T Γ) (term f)) T' u' y → Good m.role u' (J T' y) × Judges T' (F (type_of T' y)) (J T' y)) → Linked m T u (1 + ((0 + size_of es f) + 0)) (on_some (infer m α (tys T Γ) (term f)) F) (and_then (walk_of m α t es f Γ T u) (λ T u y. settled (J T y) T u))
    plain f l Γ T u e x q F J h =
        one f Γ T u (1 + ((0 + size_of es f) + 0)) (omega arith) (omega (arith, x.long)) (ih f l)
        (record { gr = x.gr; since = x.since; low = x.low; front = x.front; long = omega (arith, x.long); shut = q }) F J h

    at_abstraction : (f s c : ℕ) → Placed m.role t k (made 18 f s c) → Node k (made 18 f s c)
    unfolding infer
    at_abstraction f s c pl Γ T u x =
        subst (λ (b : Bool). Linked m T u SZ (given b (on_some (infer m α (CL ∷ tys T Γ) (term f)) (λ z. Some (function CL z)))) W) (sym coded)
        (subst (λ (y : Ty). Linked m T u SZ (on_some (infer m α (y ∷ tys T Γ) (term f)) (λ z. Some (function y z))) W) (x.front q ql ∙ sym (claim_is α (type_of J₀) E))
        (one f (q ∷ Γ) T u SZ (omega arith) (omega (arith, x.long)) (ih f (pl.low 0 (lit< tt)))
        (record { gr = x.gr; since = x.since; low = (omega (arith, x.since, ql), x.low); front = x.front; long = omega (arith, x.long); shut = x.shut })
        (λ z. Some (function (type_of T q) z)) (λ T y. fresh (function_type q y))
        (λ T' u' y w.
        let g = w.grew in
        let th = w.there in
        (low_function m.role u' q y (omega (arith, x.since, g.more, ql)) th, ap (λ z. Some (function z (type_of T' y))) (sym (same_types m T u (size_of es f) T' u' g q (omega (arith, x.since, ql))))))))
      where
        E : Entry
        E = made 18 f s c

        q : ℕ
        q = claim_of α E

        ql : q < t
        ql = claim_low α t E (pl.claim refl)

        CL : Ty
        CL = claim α (type_of J₀ s) (type_of J₀ c)

        SZ : ℕ
        SZ = 1 + ((0 + size_of es f) + 0)

        W : Walked
        W = and_then (walk_of m α t es f (q ∷ Γ) T u) (λ T u y. settled (fresh (function_type q y)) T u)

        coded : well_coded m CL ≡ true
        coded =
            let len = types_long m t T₀ es wk in
            ap (well_coded m) (claim_is α (type_of J₀) E) ∙ types_coded m J₀ es wk.formed q (omega (arith, ql))

    at_application : (f s c : ℕ) → Placed m.role t k (made 19 f s c) → Node k (made 19 f s c)
    unfolding infer
    at_application f s c pl Γ T u x =
        subst (λ o. Linked m T u SZ o (and_then (walk_of m α t es f Γ T u) K)) (function_some (infer m α (tys T Γ) (term f)) (λ t r. on_some O (λ y. given (is_subtype m α y t) (Some r))))
        (then_links m T u (size_of es f) SZ (omega arith) (infer m α (tys T Γ) (term f)) (walk_of m α t es f Γ T u)
        (ih f (pl.low 0 (lit< tt)) Γ T u (record { gr = x.gr; since = x.since; low = x.low; front = x.front; long = omega (arith, x.long); shut = (and_parts _ _ x.shut).0 }))
        (λ y. on_function (Some y) (λ t r. on_some O (λ y. given (is_subtype m α y t) (Some r)))) K
        (λ T' u' y w.
        let g = w.grew in
        let th = w.there in
        subst (λ o. Linked m T u SZ o (K T' u' y)) (function_after (type_of T' y) O (λ t r z. given (is_subtype m α z t) (Some r)))
        (subst (λ G. Linked m T u SZ (on_some (infer m α G (term s)) (apply_to m α (type_of T' y))) (K T' u' y)) (tys_same T T' u (same_types m T u (size_of es f) T' u' g) Γ x.low)
        (two T u (size_of es f) T' u' g s Γ SZ (omega arith) (omega (arith, x.long)) (ih s (pl.low 1 (lit< tt)))
        (later T u (size_of es f) T' u' Γ (size_of es s) (term s) g x.since x.front (all_more u u' g.more Γ x.low) (omega (arith, x.long)) (and_parts (closed (depth_of Γ) (term f)) _ x.shut).1)
        (apply_to m α (type_of T' y)) (λ T z. applied m α p T y z)
        (λ T'' u'' z w2.
        let g2 = w2.grew in (
          good_applied m L α p T'' u'' g2.ground y z (omega (arith, g2.more)),
          subst (λ (h : Ty). Judges T'' (apply_to m α h (type_of T'' z)) (applied m α p T'' y z)) (same_types m T' u' (size_of es s) T'' u'' g2 y th) (apply_judges m L α p T'' u'' g2.ground y z (omega (arith, g2.more))),
        ))))))
      where
        SZ : ℕ
        SZ = 1 + ((0 + size_of es f) + ((0 + size_of es s) + 0))

        O : Option Ty
        O = infer m α (tys T Γ) (term s)

        K : List Entry → ℕ → ℕ → Walked
        K T u y = and_then (walk_of m α t es s Γ T u) (λ T u z. settled (applied m α p T y z) T u)

    at_fix : (f s c : ℕ) → Placed m.role t k (made 20 f s c) → Node k (made 20 f s c)
    unfolding infer
    at_fix f s c pl Γ T u x =
        subst (λ o. Linked m T u (1 + ((0 + size_of es f) + 0)) o (and_then (walk_of m α t es f Γ T u) (λ T u y. settled (fixed m α p T y) T u))) (function_some (infer m α (tys T Γ) (term f)) (λ t r. given (is_subtype m α r t) (Some r)))
        (plain f (pl.low 0 (lit< tt)) Γ T u _ x x.shut (fix_of m α) (λ T y. fixed m α p T y)
        (λ T' u' y w. (good_fixed m L α p T' u' w.grew.ground y w.there, fix_judges m L α p T' u' w.grew.ground y w.there)))

    at_guard : (f s c : ℕ) → Placed m.role t k (made 21 f s c) → Node k (made 21 f s c)
    unfolding infer
    at_guard f s c pl Γ T u x =
        subst (λ (b : Bool). Linked m T u (1 + ((0 + size_of es f) + 0)) (given b (on_some (infer m α (tys T Γ) (term f)) (λ y. Some (guarded c y)))) (and_then (walk_of m α t es f Γ T u) (λ T u y. settled (fresh (guarded_type c y)) T u))) (sym (pl.code refl))
        (plain f (pl.low 0 (lit< tt)) Γ T u _ x x.shut (λ y. Some (guarded c y)) (λ T y. fresh (guarded_type c y))
        (λ T' u' y w. (low_guarded m.role u' c y w.there (pl.code refl), refl)))

    at_check : (f s c : ℕ) → Placed m.role t k (made 22 f s c) → Node k (made 22 f s c)
    unfolding infer
    at_check f s c pl Γ T u x =
        subst (λ o. Linked m T u (1 + ((0 + size_of es f) + 0)) o (and_then (walk_of m α t es f Γ T u) (λ T u y. settled (checked p T y) T u))) (guarded_some (infer m α (tys T Γ) (term f)) (λ a t. Some (computation a t)))
        (plain f (pl.low 0 (lit< tt)) Γ T u _ x x.shut check_of (λ T y. checked p T y)
        (λ T' u' y w. (good_checked m L α p T' u' w.grew.ground y w.there, check_judges m L α p T' u' w.grew.ground y w.there)))

    at_unit : (f s c : ℕ) → Placed m.role t k (made 23 f s c) → Node k (made 23 f s c)
    unfolding infer
    at_unit f s c pl Γ T u x =
        plain f (pl.low 0 (lit< tt)) Γ T u _ x x.shut (λ y. Some (computation m.bottom y)) (λ T y. fresh (computation_type m.bottom y))
        (λ T' u' y w. (low_computation m.role u' m.bottom y w.there (L.bottom_role wk.sound), refl))

    at_raise : (f s c : ℕ) → Placed m.role t k (made 25 f s c) → Node k (made 25 f s c)
    unfolding infer
    at_raise f s c pl Γ T u x =
        subst (λ o. Linked m T u (1 + ((0 + size_of es f) + 0)) o (and_then (walk_of m α t es f Γ T u) (λ T u y. settled (raised m p T c y) T u))) (computation_some (infer m α (tys T Γ) (term f)) (λ b t. on_some (m.remainder b c) (λ a. Some (computation a t))))
        (plain f (pl.low 0 (lit< tt)) Γ T u _ x x.shut (raise_by m c) (λ T y. raised m p T c y)
        (λ T' u' y w. (good_raised m L α p T' u' w.grew.ground c y (pl.code refl) w.there, raise_judges m L α p T' u' w.grew.ground c y (pl.code refl) w.there)))

    at_restrict : (f s c : ℕ) → Placed m.role t k (made 26 f s c) → Node k (made 26 f s c)
    unfolding infer
    at_restrict f s c pl Γ T u x =
        subst (λ o. Linked m T u (1 + ((0 + size_of es f) + 0)) o (and_then (walk_of m α t es f Γ T u) (λ T u y. settled (restricted m α p T c y) T u))) (computation_some (infer m α (tys T Γ) (term f)) (λ b t. given (m.role c && permits m α c b) (Some (computation b t))))
        (plain f (pl.low 0 (lit< tt)) Γ T u _ x x.shut (restrict_to m α c) (λ T y. restricted m α p T c y)
        (λ T' u' y w. (good_restricted m L α p T' u' w.grew.ground c y w.there, restrict_judges m L α p T' u' w.grew.ground c y (pl.code refl) w.there)))

    at_let : (f s c : ℕ) → Placed m.role t k (made 24 f s c) → Node k (made 24 f s c)
    unfolding infer
    at_let f s c pl Γ T u x =
        subst (λ o. Linked m T u SZ o (and_then (walk_of m α t es f Γ T u) K)) (computation_some (infer m α (tys T Γ) (term f)) H)
        (then_links m T u (size_of es f) SZ (omega arith) (infer m α (tys T Γ) (term f)) (walk_of m α t es f Γ T u)
        (ih f (pl.low 0 (lit< tt)) Γ T u (record { gr = x.gr; since = x.since; low = x.low; front = x.front; long = omega (arith, x.long); shut = (and_parts _ _ x.shut).0 }))
        (λ y. on_computation (Some y) H) K rest)
      where
        SZ : ℕ
        SZ = 1 + ((0 + size_of es f) + ((0 + size_of es s) + 0))

        H : ℕ → Ty → Option Ty
        H a t = on_computation (infer m α (t ∷ tys T Γ) (term s)) (λ b r. on_some (m.join a b) (λ c. Some (computation c r)))

        K : List Entry → ℕ → ℕ → Walked
        K T u y = let_rest m p (made 24 f s c) (walk_of m α t es) Γ T u y

        rest : (T' : List Entry) (u' y : ℕ) → Went m T u (size_of es f) (infer m α (tys T Γ) (term f)) T' u' y → Linked m T u SZ (on_computation (Some (type_of T' y)) H) (K T' u' y)
        rest T' u' y w =
            by_shape m L α p T' u' w.grew.ground (λ (z : Ty) (n : ℕ). Linked m T u SZ (on_computation (Some z) H) (cond (eqb n 4) (and_then (walk_of m α t es s ((at T' y).first ∷ Γ) T' u') (λ T u z. settled (joined m p T y z) T u)) (stopped T' (NoComputation p)))) y w.there
            halt halt (λ _. halt) goes
          where
            halt : Halted T u SZ None T'
            halt = record { none = refl; long = w.grew.long; kept = w.grew.kept; beyond = λ i l. w.grew.beyond i (omega arith) }

            i : ℕ
            i = (at T' y).first

            goes : (at T' y).tag ≡ 4 → Linked m T u SZ (H (at T' y).third (type_of T' i)) (and_then (walk_of m α t es s (i ∷ Γ) T' u') (λ T u z. settled (joined m p T y z) T u))
            goes q =
                let g = w.grew in
                let th = w.there in
                let a : ℕ = (at T' y).third in
                let il : i < u' = omega (arith, (g.ground y th).one (omega arith)) in
                let V : Walked = and_then (walk_of m α t es s (i ∷ Γ) T' u') (λ T u z. settled (joined m p T y z) T u) in
                subst (λ o. Linked m T u SZ o V) (computation_some (infer m α (type_of T' i ∷ tys T Γ) (term s)) (λ b r. on_some (m.join a b) (λ c. Some (computation c r))))
                (subst (λ G. Linked m T u SZ (on_some (infer m α (type_of T' i ∷ G) (term s)) (join_to m a)) V) (tys_same T T' u (same_types m T u (size_of es f) T' u' g) Γ x.low)
                (two T u (size_of es f) T' u' g s (i ∷ Γ) SZ (omega arith) (omega (arith, x.long)) (ih s (pl.low 1 (lit< tt)))
                (later T u (size_of es f) T' u' (i ∷ Γ) (size_of es s) (term s) g x.since x.front (il, all_more u u' g.more Γ x.low) (omega (arith, x.long)) (and_parts (closed (depth_of Γ) (term f)) _ x.shut).1)
                (join_to m a) (λ T z. joined m p T y z)
                (λ T'' u'' z w2.
                let g2 = w2.grew in
                let same : at T'' y ≡ at T' y = g2.kept y th in
                let tag : (at T'' y).tag ≡ 4 = ap (λ (e : Entry). e.tag) same ∙ q in
                let yl : y < u'' = omega (arith, g2.more) in (
                  good_joined m L α p T'' u'' g2.ground y z yl tag w2.there,
                  subst (λ (e : Entry). Judges T'' (join_to m e.third (type_of T'' z)) (joined m p T'' y z)) same (join_judges m L α p T'' u'' g2.ground y z ((g2.ground y yl).code (omega arith)) w2.there),
                ))))

    at_node : (e : Entry) → term_tag e.tag ≡ true → Placed m.role t k e → Node k e
    at_node = by_term_tag (λ e. Placed m.role t k e → Node k e) at_value at_variable at_abstraction at_application at_fix at_guard at_check at_unit at_let at_raise at_restrict

  -- by the numbers below b
  link : (b k : ℕ) → k < b → k < length es → Goal k
  link zero k l h Γ T u c = let z : ⊥ = omega arith in absurd z
  link (suc b) k l h Γ T u c =
      let rt = rooted m t T₀ es wk in
      let pl = rt k h in
      let z : names (at es k).tag - 0 ≡ names (at es k).tag = omega arith in
      let sz : size_of es k ≡ node_size (at es k) = sum_is m.role t es 0 (length es) k rt h ∙ ap (λ (n : ℕ). 1 + sum_rest 0 (at es k) (size_of es) n 0) z in
      let tm : term k ≡ node (at es k) = term_unfold m.role J₀ es wk.formed.threaded k h in
      let c' : Ctx T u Γ (node_size (at es k)) (node (at es k)) = subst₂ (λ (a : ℕ) (e : Term). Ctx T u Γ a e) sz tm c in
      let r = at_node k (λ i j. link b i (omega arith) (omega arith)) (at es k) (tagged m.role t k (at es k) pl) pl Γ T u c' in
      subst (λ W. Linked m T u (size_of es k) (infer m α (tys T Γ) (term k)) W) (sym (walk_unfold m.role m α t es (length es) k rt h Γ T u))
      (subst₂ (λ (a : ℕ) (e : Term). Linked m T u a (infer m α (tys T Γ) e) (walk_by m α (t + k) (at es k) (walk_of m α t es) Γ T u)) (sym sz) (sym tm) r)

  -- the same walk in a table that differs from place u up
  record Same (T : List Entry) (u x : ℕ) (T' : List Entry) (u' x' : ℕ) : Type 0 where
    used : u' ≡ u
    last : x' ≡ x
    size : length T' ≡ length T
    agree : (i : ℕ) → i < u → at T' i ≡ at T i

  abbrev Alike : Walked → Walked → Type 0
  Alike (going T u x) (going T' u' x') = Same T u x T' u' x'
  Alike (going T u x) (stopped T' c) = ⊥
  Alike (stopped T c) (going T' u' x') = ⊥
  Alike (stopped T c) (stopped T' c') = c' ≡ c

  abbrev Agree : ℕ → List Entry → List Entry → Type 0
  Agree u T T' = (length T' ≡ length T) × ((i : ℕ) → i < u → at T' i ≡ at T i)

  alike_then : (w w' : Walked) → Alike w w' → (f f' : List Entry → ℕ → ℕ → Walked) → ((T T' : List Entry) (u x : ℕ) → w ≡ going T u x → Agree u T T' → Alike (f T u x) (f' T' u x)) → Alike (and_then w f) (and_then w' f')
  alike_then (going T u x) (going T' u' x') a f f' h = subst₂ (λ (z y : ℕ). Alike (f T u x) (f' T' z y)) (sym a.used) (sym a.last) (h T T' u x refl (a.size, a.agree))
  alike_then (going T u x) (stopped T' c) a f f' h = absurd a
  alike_then (stopped T c) (going T' u' x') a f f' h = absurd a
  alike_then (stopped T c) (stopped T' c') a f f' h = a

  alike_settled : (J J' : Judged) → J' ≡ J → (T T' : List Entry) (u : ℕ) → u < length T → Agree u T T' → Alike (settled J T u) (settled J' T' u)
  alike_settled J J' e T T' u l a = subst (λ (z : Judged). Alike (settled J T u) (settled z T' u)) (sym e) (go J)
    where
      new : (e : Entry) (i : ℕ) → i < u + 1 → at (set T' u e) i ≡ at (set T u e) i
      new e i h = ⊎_elim
          (λ z. ap (λ (k : ℕ). at (set T' u e) k) z ∙ (get_or-set_same T' u e no_entry (omega (arith, a.0)) ∙ (sym (get_or-set_same T u e no_entry l) ∙ ap (λ (k : ℕ). at (set T u e) k) (sym z))))
          (λ z. get_or-set_other T' u i e no_entry z ∙ (a.1 i (omega arith) ∙ sym (get_or-set_other T u i e no_entry z)))
          (cases_eq i u)

      go : (J : Judged) → Alike (settled J T u) (settled J T' u)
      go (Err c) = refl
      go (Ok (Known x)) = record { used = refl; last = refl; size = a.0; agree = a.1 }
      go (Ok (New e)) = record { used = refl; last = refl; size = length-set T' u e ∙ (a.0 ∙ sym (length-set T u e)); agree = new e }

  asked_same : (b : Bool) (c : TypingFault) (j j' : Judged) → (b ≡ true → j ≡ j') → asked b c j ≡ asked b c j'
  asked_same true c j j' h = h refl
  asked_same false c j j' h = refl

  -- the rules look at types in use alone
  module _ (T T' : List Entry) (u : ℕ) (g : Grounded m.role T u) (a : (i : ℕ) → i < u → at T' i ≡ at T i) where
    type_again : (i : ℕ) → i < u → type_of T' i ≡ type_of T i
    type_again i l = tree_same T T' i (λ k h. a k (omega arith))

    applied_again : (p f x : ℕ) → f < u → x < u → applied m α p T' f x ≡ applied m α p T f x
    applied_again p f x lf lx =
        ap (λ (e : Entry). asked (eqb e.tag 2) (NoFunction p) (asked (is_subtype m α (type_of T' x) (type_of T' e.first)) (Argument p) (known e.second))) (a f lf)
        ∙ asked_same (eqb (at T f).tag 2) (NoFunction p) _ _
        (λ z.
        let q = eqb-true (at T f).tag 2 z in
        ap₂ (λ (y r : Ty). asked (is_subtype m α y r) (Argument p) (known (at T f).second)) (type_again x lx) (type_again (at T f).first (omega (arith, (g f lf).one (omega arith)))))

    fixed_again : (p f : ℕ) → f < u → fixed m α p T' f ≡ fixed m α p T f
    fixed_again p f lf =
        ap (λ (e : Entry). asked (eqb e.tag 2) (NoFunction p) (asked (is_subtype m α (type_of T' e.second) (type_of T' e.first)) (Result p) (known e.second))) (a f lf)
        ∙ asked_same (eqb (at T f).tag 2) (NoFunction p) _ _
        (λ z.
        let q = eqb-true (at T f).tag 2 z in
        ap₂ (λ (y r : Ty). asked (is_subtype m α y r) (Result p) (known (at T f).second)) (type_again (at T f).second (omega (arith, (g f lf).two q))) (type_again (at T f).first (omega (arith, (g f lf).one (omega arith)))))

  abbrev Again : ℕ → Type 0
  Again k = (Γ : List ℕ) (T T' : List Entry) (u : ℕ) → Ctx T u Γ (size_of es k) (term k) → Agree u T T' → Alike (walk_of m α t es k Γ T u) (walk_of m α t es k Γ T' u)

  abbrev NodeAgain : ℕ → Entry → Type 0
  NodeAgain k e = (Γ : List ℕ) (T T' : List Entry) (u : ℕ) → Ctx T u Γ (node_size e) (node e) → Agree u T T' → Alike (walk_by m α (t + k) e (walk_of m α t es) Γ T u) (walk_by m α (t + k) e (walk_of m α t es) Γ T' u)

  -- the last operand, and then the term
  one_again : (f : ℕ) (Γ : List ℕ) (T T' : List Entry) (u b : ℕ) → size_of es f < b → u + b ≤ length T → Goal f → Again f → Ctx T u Γ (size_of es f) (term f) → Agree u T T' → (J : List Entry → ℕ → Judged) → ((T₁ T₁' : List Entry) (u₁ x : ℕ) → Went m T u (size_of es f) (infer m α (tys T Γ) (term f)) T₁ u₁ x → ((i : ℕ) → i < u₁ → at T₁' i ≡ at T₁ i) → J T₁' x ≡ J T₁ x) → Alike (and_then (walk_of m α t es f Γ T u) (λ T u x. settled (J T x) T u)) (and_then (walk_of m α t es f Γ T' u) (λ T u x. settled (J T x) T u))
  one_again f Γ T T' u b s l goal again c a J h =
      alike_then (walk_of m α t es f Γ T u) (walk_of m α t es f Γ T' u) (again Γ T T' u c a) (λ T u x. settled (J T x) T u) (λ T u x. settled (J T x) T u)
      (λ T₁ T₁' u₁ x e g.
      let w : Went m T u (size_of es f) (infer m α (tys T Γ) (term f)) T₁ u₁ x = subst (λ W. Linked m T u (size_of es f) (infer m α (tys T Γ) (term f)) W) e (goal Γ T u c) in
      let r = w.grew in
      alike_settled (J T₁ x) (J T₁' x) (h T₁ T₁' u₁ x w g.1) T₁ T₁' u₁ (omega (arith, r.room, r.long)) g)

  module _ (k : ℕ) (ih : (i : ℕ) → i < k → Goal i) (ag : (i : ℕ) → i < k → Again i) where
    abbrev q : ℕ
    q = t + k

    leaf_again : (J : Judged) (T T' : List Entry) (u : ℕ) → u + 1 ≤ length T → Agree u T T' → Alike (settled J T u) (settled J T' u)
    leaf_again J T T' u l a = alike_settled J J refl T T' u (omega arith) a

    plain_again : (f : ℕ) → f < k → (Γ : List ℕ) (T T' : List Entry) (u : ℕ) (e : Term) → Ctx T u Γ (1 + ((0 + size_of es f) + 0)) e → closed (depth_of Γ) (term f) ≡ true → Agree u T T' → (J : List Entry → ℕ → Judged) → ((T₁ T₁' : List Entry) (u₁ x : ℕ) → Grounded m.role T₁ u₁ → x < u₁ → ((i : ℕ) → i < u₁ → at T₁' i ≡ at T₁ i) → J T₁' x ≡ J T₁ x) → Alike (and_then (walk_of m α t es f Γ T u) (λ T u x. settled (J T x) T u)) (and_then (walk_of m α t es f Γ T' u) (λ T u x. settled (J T x) T u))
    plain_again f l Γ T T' u e x sh a J h =
        one_again f Γ T T' u (1 + ((0 + size_of es f) + 0)) (omega arith) (omega (arith, x.long)) (ih f l) (ag f l)
        (record { gr = x.gr; since = x.since; low = x.low; front = x.front; long = omega (arith, x.long); shut = sh }) a J
        (λ T₁ T₁' u₁ y w g. h T₁ T₁' u₁ y w.grew.ground w.there g)

    -- after the first operand
    second_ctx : (f s : ℕ) (Γ Δ : List ℕ) (T : List Entry) (u : ℕ) (e : Term) (T₁ : List Entry) (u₁ : ℕ) → Ctx T u Γ (1 + ((0 + size_of es f) + ((0 + size_of es s) + 0))) e → Grew m T u (size_of es f) T₁ u₁ → AllLow u₁ Δ → closed (depth_of Δ) (term s) ≡ true → Ctx T₁ u₁ Δ (size_of es s) (term s)
    second_ctx f s Γ Δ T u e T₁ u₁ x g l sh = later T u (size_of es f) T₁ u₁ Δ (size_of es s) (term s) g x.since x.front l (omega (arith, x.long)) sh

    app_again : (f s c : ℕ) → Placed m.role t k (made 19 f s c) → NodeAgain k (made 19 f s c)
    app_again f s c pl Γ T T' u x a =
        alike_then (walk_of m α t es f Γ T u) (walk_of m α t es f Γ T' u) (ag f (pl.low 0 (lit< tt)) Γ T T' u c₁ a) _ _
        (λ T₁ T₁' u₁ y e g.
        let w : Went m T u (size_of es f) (infer m α (tys T Γ) (term f)) T₁ u₁ y = subst (λ W. Linked m T u (size_of es f) (infer m α (tys T Γ) (term f)) W) e (ih f (pl.low 0 (lit< tt)) Γ T u c₁) in
        let r = w.grew in
        one_again s Γ T₁ T₁' u₁ (size_of es s + 1) (omega arith) (omega (arith, x.long, r.room, r.long)) (ih s (pl.low 1 (lit< tt))) (ag s (pl.low 1 (lit< tt)))
        (second_ctx f s Γ Γ T u _ T₁ u₁ x r (all_more u u₁ r.more Γ x.low) (and_parts (closed (depth_of Γ) (term f)) _ x.shut).1) g (λ T z. applied m α q T y z)
        (λ T₂ T₂' u₂ z w₂ g₂. applied_again T₂ T₂' u₂ w₂.grew.ground g₂ q y z (omega (arith, w.there, w₂.grew.more)) w₂.there))
      where
        c₁ : Ctx T u Γ (size_of es f) (term f)
        c₁ = record { gr = x.gr; since = x.since; low = x.low; front = x.front; long = omega (arith, x.long); shut = (and_parts _ _ x.shut).0 }

    let_again : (f s c : ℕ) → Placed m.role t k (made 24 f s c) → NodeAgain k (made 24 f s c)
    let_again f s c pl Γ T T' u x a =
        alike_then (walk_of m α t es f Γ T u) (walk_of m α t es f Γ T' u) (ag f (pl.low 0 (lit< tt)) Γ T T' u c₁ a) _ _
        (λ T₁ T₁' u₁ y e g.
        let w : Went m T u (size_of es f) (infer m α (tys T Γ) (term f)) T₁ u₁ y = subst (λ W. Linked m T u (size_of es f) (infer m α (tys T Γ) (term f)) W) e (ih f (pl.low 0 (lit< tt)) Γ T u c₁) in
        let same : at T₁' y ≡ at T₁ y = g.1 y w.there in
        subst (λ (d : Entry). Alike (let_rest m q E (walk_of m α t es) Γ T₁ u₁ y) (cond (eqb d.tag 4) (and_then (walk_of m α t es s (d.first ∷ Γ) T₁' u₁) (λ T u z. settled (joined m q T y z) T u)) (stopped T₁' (NoComputation q)))) (sym same)
        (rest T₁ T₁' u₁ y w g (eqb (at T₁ y).tag 4) refl))
      where
        E : Entry
        E = made 24 f s c

        c₁ : Ctx T u Γ (size_of es f) (term f)
        c₁ = record { gr = x.gr; since = x.since; low = x.low; front = x.front; long = omega (arith, x.long); shut = (and_parts _ _ x.shut).0 }

        V : List Entry → ℕ → ℕ → ℕ → Walked
        V S v y i = and_then (walk_of m α t es s (i ∷ Γ) S v) (λ T u z. settled (joined m q T y z) T u)

        rest : (T₁ T₁' : List Entry) (u₁ y : ℕ) → Went m T u (size_of es f) (infer m α (tys T Γ) (term f)) T₁ u₁ y → Agree u₁ T₁ T₁' → (b : Bool) → eqb (at T₁ y).tag 4 ≡ b → Alike (cond b (and_then (walk_of m α t es s ((at T₁ y).first ∷ Γ) T₁ u₁) (λ T u z. settled (joined m q T y z) T u)) (stopped T₁ (NoComputation q))) (cond b (and_then (walk_of m α t es s ((at T₁ y).first ∷ Γ) T₁' u₁) (λ T u z. settled (joined m q T y z) T u)) (stopped T₁' (NoComputation q)))
        rest T₁ T₁' u₁ y w g false z = refl
        rest T₁ T₁' u₁ y w g true z =
            let r = w.grew in
            let th = w.there in
            let tag = eqb-true (at T₁ y).tag 4 z in
            let il : (at T₁ y).first < u₁ = omega (arith, (r.ground y th).one (omega arith)) in
            one_again s ((at T₁ y).first ∷ Γ) T₁ T₁' u₁ (size_of es s + 1) (omega arith) (omega (arith, x.long, r.room, r.long)) (ih s (pl.low 1 (lit< tt))) (ag s (pl.low 1 (lit< tt)))
            (second_ctx f s Γ ((at T₁ y).first ∷ Γ) T u _ T₁ u₁ x r (il, all_more u u₁ r.more Γ x.low) (and_parts (closed (depth_of Γ) (term f)) _ x.shut).1) g (λ T z. joined m q T y z)
            (λ T₂ T₂' u₂ n w₂ g₂. ap₂ (joined_as m q) (g₂ y (omega (arith, w₂.grew.more))) (g₂ n w₂.there))

    node_again : (e : Entry) → term_tag e.tag ≡ true → Placed m.role t k e → NodeAgain k e
    node_again =
        by_term_tag (λ e. Placed m.role t k e → NodeAgain k e)
        (λ f s c pl Γ T T' u x a. leaf_again (fresh (base_type f)) T T' u x.long a)
        (λ f s c pl Γ T T' u x a. leaf_again (known (get_or Γ f 0)) T T' u x.long a)
        (λ f s c pl Γ T T' u x a.
        let n : ℕ = claim_of α (made 18 f s c) in
        one_again f (n ∷ Γ) T T' u (1 + ((0 + size_of es f) + 0)) (omega arith) (omega (arith, x.long)) (ih f (pl.low 0 (lit< tt))) (ag f (pl.low 0 (lit< tt)))
        (record { gr = x.gr; since = x.since; low = (omega (arith, x.since, claim_low α t (made 18 f s c) (pl.claim refl)), x.low); front = x.front; long = omega (arith, x.long); shut = x.shut }) a (λ T y. fresh (function_type n y)) (λ T₁ T₁' u₁ y w g. refl))
        app_again
        (λ f s c pl Γ T T' u x a. plain_again f (pl.low 0 (lit< tt)) Γ T T' u _ x x.shut a (λ T y. fixed m α q T y) (λ T₁ T₁' u₁ y g l e. fixed_again T₁ T₁' u₁ g e q y l))
        (λ f s c pl Γ T T' u x a. plain_again f (pl.low 0 (lit< tt)) Γ T T' u _ x x.shut a (λ T y. fresh (guarded_type c y)) (λ T₁ T₁' u₁ y g l e. refl))
        (λ f s c pl Γ T T' u x a. plain_again f (pl.low 0 (lit< tt)) Γ T T' u _ x x.shut a (λ T y. checked q T y) (λ T₁ T₁' u₁ y g l e. ap (checked_as q) (e y l)))
        (λ f s c pl Γ T T' u x a. plain_again f (pl.low 0 (lit< tt)) Γ T T' u _ x x.shut a (λ T y. fresh (computation_type m.bottom y)) (λ T₁ T₁' u₁ y g l e. refl))
        let_again
        (λ f s c pl Γ T T' u x a. plain_again f (pl.low 0 (lit< tt)) Γ T T' u _ x x.shut a (λ T y. raised m q T c y) (λ T₁ T₁' u₁ y g l e. ap (raised_as m q c) (e y l)))
        (λ f s c pl Γ T T' u x a. plain_again f (pl.low 0 (lit< tt)) Γ T T' u _ x x.shut a (λ T y. restricted m α q T c y) (λ T₁ T₁' u₁ y g l e. ap (restricted_as m α q c) (e y l)))

  again : (b k : ℕ) → k < b → k < length es → Again k
  again zero k l h Γ T T' u c a = let z : ⊥ = omega arith in absurd z
  again (suc b) k l h Γ T T' u c a =
      let rt = rooted m t T₀ es wk in
      let pl = rt k h in
      let z : names (at es k).tag - 0 ≡ names (at es k).tag = omega arith in
      let sz : size_of es k ≡ node_size (at es k) = sum_is m.role t es 0 (length es) k rt h ∙ ap (λ (n : ℕ). 1 + sum_rest 0 (at es k) (size_of es) n 0) z in
      let tm : term k ≡ node (at es k) = term_unfold m.role J₀ es wk.formed.threaded k h in
      let c' : Ctx T u Γ (node_size (at es k)) (node (at es k)) = subst₂ (λ (a : ℕ) (e : Term). Ctx T u Γ a e) sz tm c in
      subst₂ Alike (sym (walk_unfold m.role m α t es (length es) k rt h Γ T u)) (sym (walk_unfold m.role m α t es (length es) k rt h Γ T' u))
      (node_again k (λ i j. link b i (omega arith) (omega arith)) (λ i j. again b i (omega arith) (omega arith)) (at es k) (tagged m.role t k (at es k) pl) pl Γ T T' u c' a)

  abbrev root : ℕ
  root = length es - 1

  root_size : size_of es root ≡ length es
  root_size =
      let some = wk.some in
      let len : length es ≡ root + 1 = omega arith in
      once_size m.role t es root len (subst (Rooted m.role t es) len (rooted m t T₀ es wk)) (λ i l. wk.formed.threaded.once i l) ∙ sym len

  begins : Ctx T₀ t [] (size_of es root) (term root)
  begins =
      let some = wk.some in
      let sz = root_size in
      record {
        gr = ground m t T₀ es wk;
        since = omega arith;
        low = tt;
        front = λ i l. tree_same J₀ T₀ i (λ k h. sym (at_front m t T₀ es wk k (omega arith)));
        long = omega (arith, wk.room);
        shut = (bound_closed m.role J₀ es wk.formed.threaded wk.some wk.few).0 wk.formed.bound;
      }

  whole : Linked m T₀ t (length es) (infer m α [] (term root)) (walk_of m α t es root [] T₀ t)
  whole =
      let some = wk.some in
      subst (λ (z : ℕ). Linked m T₀ t z (infer m α [] (term root)) (walk_of m α t es root [] T₀ t)) root_size
      (link (length es) root (omega arith) (omega arith) [] T₀ t begins)

  tells : (w w' : Walked) → Linked m T₀ t (length es) (infer m α [] (term root)) w → Alike w w' → TellsSame w w'
  tells (going T u x) (going T' u' x') l a = (a.last, ap (at T') a.last ∙ a.agree x l.there)
  tells (going T u x) (stopped T' c) l a = a
  tells (stopped T c) (going T' u' x') l a = a
  tells (stopped T c) (stopped T' c') l a = a

  tell_again : (T' : List Entry) → length T' ≡ length T₀ → ((i : ℕ) → i < t → at T' i ≡ at T₀ i) → TellsSame (walk_of m α t es root [] T₀ t) (walk_of m α t es root [] T' t)
  tell_again T' l a =
      let some = wk.some in
      tells (walk_of m α t es root [] T₀ t) (walk_of m α t es root [] T' t) whole (again (length es) root (omega arith) (omega arith) [] T₀ T' t begins (l, a))

  nothing_bound : (i : ℕ) (y : Ty) → None ≡ Some y → well_coded m y ≡ true
  nothing_bound i y q = absurd (none_some q)

  decided : (w : Walked) → Linked m T₀ t (length es) (infer m α [] (term root)) w → Decides m α t T₀ es w
  decided (going T' u' x) l = record {
    typed = (let r = inference_least_lem m L wk.sound α [] nothing_bound (term root) (type_of T' x) l.type in record { has = r.0; least = r.1 });
    found = (let g = l.grew.ground x l.there in and_from _ _ (le-leb 1 (at T' x).tag g.some) (le-leb (at T' x).tag 4 g.most));
    within = record { long = l.grew.long; before = l.grew.kept; beyond = l.grew.beyond };
  }
  decided (stopped T' c) l = record {
    typed = (λ s h. let r = (inference_decides_lem m L wk.sound α [] nothing_bound (term root)).0 (s, h) in none_some (sym l.none ∙ r.1));
    found = tt;
    within = record { long = l.long; before = l.kept; beyond = l.beyond };
  }

pub walk_decides_lem : WalkDecides
walk_decides_lem m L α t T₀ es wk = decided m L α t T₀ es wk (walk_of m α t es (length es - 1) [] T₀ t) (whole m L α t T₀ es wk)

pub walk_again_lem : WalkAgain
walk_again_lem m L α t T T' es wk l a = tell_again m L α t T es wk T' l a
