-- What a walk comes to is what is inferred: the parts.
use Rattle.std.proofs.Common.{◌≡◌, ℕ, zero, suc, ◌+◌, ◌<◌, ◌≤◌, Bool, true, false, ◌&&◌, eqb, List, [], ◌∷◌, length, get_or, set, is_some, Some, None, Option, Ok, Err, sym, refl, ap, ◌∙◌, subst, ap₂, subst₂, arith}
use mathlib.Core.Bool.{false≢true}
use Rattle.std.proofs.lemmas.List.{get_or-set_same, get_or-set_other, length-set}
use Rattle.roles.specs.Meaning.{Meaning, Lawful}
use Rattle.calculus.specs.Syntax.{Ty, base, function, guarded, computation}
use Rattle.calculus.specs.Subtyping.{System}
use Rattle.calculus.specs.Typing.{lookup, permits}
use Rattle.calculus.specs.Inference.{is_subtype, given, on_some, on_function, on_guarded, on_computation}
use Rattle.tables.specs.declared.entry.Entry.{Entry}
use Rattle.tables.specs.Entries.{at, no_entry}
use Rattle.trees.specs.Trees.{kind, type_by, type_of}
use Rattle.walks.specs.declared.fault.TypingFault.{TypingFault}
use Rattle.walks.specs.declared.fault.TypingFault.TheVariants.{NoFunction, Argument, Result, NoGuard, NoComputation, Restriction}
use Rattle.walks.specs.declared.finding.Finding.TheVariants.{Known, New}
use Rattle.walks.specs.Places.{Low, Grounded}
use Rattle.walks.specs.Rules.{Judged, known, fresh, computation_type, role_of, asked, below, applied, fixed, checked, joined, raised, restricted}
use Rattle.walks.specs.Walk.{Walked, going, stopped, and_then, settled}
use Rattle.walks.proofs.Goods.{Good, join_there, remainder_there}
use Rattle.walks.proofs.TypeTrees.{Four, is1, is2, is3, is4, tag_of, node_1, node_2, node_3, node_4, node_same, tree_is, tree_same, ground_more}

-- the types of the binders
abbrev pub tys : List Entry → List ℕ → List Ty
tys T [] = []
tys T (x ∷ Γ) = type_of T x ∷ tys T Γ

abbrev pub AllLow : ℕ → List ℕ → Type 0
AllLow u [] = Unit {0}
AllLow u (x ∷ Γ) = (x < u) × AllLow u Γ

-- a table grew from u places to u', by sz at most, and its types are as they were
pub record Grew (m : Meaning) (T : List Entry) (u sz : ℕ) (T' : List Entry) (u' : ℕ) : Type 0 where
  pub more : u ≤ u'
  pub room : u' ≤ u + sz
  pub long : length T' ≡ length T
  pub ground : Grounded m.role T' u'
  pub kept : (i : ℕ) → i < u → at T' i ≡ at T i
  pub beyond : (i : ℕ) → u + sz ≤ i → at T' i ≡ at T i

pub record Went (m : Meaning) (T : List Entry) (u sz : ℕ) (o : Option Ty) (T' : List Entry) (u' x : ℕ) : Type 0 where
  pub grew : Grew m T u sz T' u'
  pub there : x < u'
  pub type : o ≡ Some (type_of T' x)

pub record Halted (T : List Entry) (u sz : ℕ) (o : Option Ty) (T' : List Entry) : Type 0 where
  pub none : o ≡ None
  pub long : length T' ≡ length T
  pub kept : (i : ℕ) → i < u → at T' i ≡ at T i
  pub beyond : (i : ℕ) → u + sz ≤ i → at T' i ≡ at T i

-- what a walk comes to is what is inferred
abbrev pub Linked : Meaning → List Entry → ℕ → ℕ → Option Ty → Walked → Type 0
Linked m T u sz o (going T' u' x) = Went m T u sz o T' u' x
Linked m T u sz o (stopped T' c) = Halted T u sz o T'

-- what is found of a term is what is inferred
abbrev pub Judges : List Entry → Option Ty → Judged → Type 0
Judges T o (Err c) = o ≡ None
Judges T o (Ok (Known x)) = o ≡ Some (type_of T x)
Judges T o (Ok (New e)) = o ≡ Some (type_by e (type_of T))

pub same_types : (m : Meaning) (T : List Entry) (u sz : ℕ) (T' : List Entry) (u' : ℕ) → Grew m T u sz T' u' → (i : ℕ) → i < u → type_of T' i ≡ type_of T i
same_types m T u sz T' u' g i l = tree_same T T' i (λ k h. g.kept k (omega arith))

pub grew_none : (m : Meaning) (T : List Entry) (u : ℕ) → Grounded m.role T u → Grew m T u 0 T u
grew_none m T u g = record { more = omega arith; room = omega arith; long = refl; ground = g; kept = λ i l. refl; beyond = λ i l. refl }

pub grew_both : (m : Meaning) (T : List Entry) (u a : ℕ) (T' : List Entry) (u' b : ℕ) (T'' : List Entry) (u'' : ℕ) → Grew m T u a T' u' → Grew m T' u' b T'' u'' → Grew m T u (a + b) T'' u''
grew_both m T u a T' u' b T'' u'' g h = record {
  more = omega (arith, g.more, h.more);
  room = omega (arith, g.room, h.room);
  long = h.long ∙ g.long;
  ground = h.ground;
  kept = λ i l. h.kept i (omega (arith, g.more)) ∙ g.kept i l;
  beyond = λ i l. h.beyond i (omega (arith, g.room)) ∙ g.beyond i (omega arith);
}

-- a type put after the others leaves them
tree_kept : (T : List Entry) (u : ℕ) (e : Entry) (i : ℕ) → i < u → type_of (set T u e) i ≡ type_of T i
tree_kept T u e i l = tree_same T (set T u e) i (λ k h. get_or-set_other T u k e no_entry (omega arith))

tree_fresh : (role : ℕ → Bool) (T : List Entry) (u : ℕ) (e : Entry) → u < length T → Low role u e → Grounded role T u → type_of (set T u e) u ≡ type_by e (type_of T)
tree_fresh role T u e l w g =
    tree_is role (set T u e) (u + 1) u (ground_more role T u e l w g) (omega arith)
    ∙ (ap (λ x. type_by x (type_of (set T u e))) (get_or-set_same T u e no_entry l)
    ∙ node_same role u e (type_of (set T u e)) (type_of T) w (λ i h. tree_kept T u e i h))

pub settled_links : (m : Meaning) (T : List Entry) (u sz : ℕ) (T' : List Entry) (u' : ℕ) → Grew m T u sz T' u' → u + sz < length T → (J : Judged) → Good m.role u' J → (o : Option Ty) → Judges T' o J → (b : ℕ) → sz < b → Linked m T u b o (settled J T' u')
settled_links m T u sz T' u' g l (Err c) h o j b s = record { none = j; long = g.long; kept = g.kept; beyond = λ i a. g.beyond i (omega arith) }
settled_links m T u sz T' u' g l (Ok (Known x)) h o j b s = record {
  grew = record { more = g.more; room = omega (arith, g.room); long = g.long; ground = g.ground; kept = g.kept; beyond = λ i a. g.beyond i (omega arith) };
  there = h;
  type = j;
}
settled_links m T u sz T' u' g l (Ok (New e)) h o j b s =
    let lt : u' < length T' = omega (arith, g.room, g.long) in
    record {
      grew = record {
        more = omega (arith, g.more);
        room = omega (arith, g.room);
        long = length-set T' u' e ∙ g.long;
        ground = ground_more m.role T' u' e lt h g.ground;
        kept = λ i a. get_or-set_other T' u' i e no_entry (omega (arith, g.more)) ∙ g.kept i a;
        beyond = λ i a. get_or-set_other T' u' i e no_entry (omega (arith, g.room)) ∙ g.beyond i (omega arith);
      };
      there = omega arith;
      type = j ∙ ap Some (sym (tree_fresh m.role T' u' e lt h g.ground));
    }

-- a walk after a walk
pub then_links : (m : Meaning) (T : List Entry) (u a b : ℕ) → a ≤ b → (o : Option Ty) (w : Walked) → Linked m T u a o w → (f : Ty → Option Ty) (k : List Entry → ℕ → ℕ → Walked) → ((T' : List Entry) (u' x : ℕ) → Went m T u a o T' u' x → Linked m T u b (f (type_of T' x)) (k T' u' x)) → Linked m T u b (on_some o f) (and_then w k)
then_links m T u a b ab o (going T' u' x) l f k h = subst (λ z. Linked m T u b (on_some z f) (k T' u' x)) (sym l.type) (h T' u' x l)
then_links m T u a b ab o (stopped T' c) l f k h = record { none = ap (λ z. on_some z f) l.none; long = l.long; kept = l.kept; beyond = λ i q. l.beyond i (omega arith) }

-- a walk that begins in a table that grew
pub lift_links : (m : Meaning) (T : List Entry) (u a : ℕ) (T' : List Entry) (u' b : ℕ) (o : Option Ty) (w : Walked) → Grew m T u a T' u' → Linked m T' u' b o w → Linked m T u (a + b) o w
lift_links m T u a T' u' b o (going T'' u'' x) g l = record { grew = grew_both m T u a T' u' b T'' u'' g l.grew; there = l.there; type = l.type }
lift_links m T u a T' u' b o (stopped T'' c) g l = record { none = l.none; long = l.long ∙ g.long; kept = λ i q. l.kept i (omega (arith, g.more)) ∙ g.kept i q; beyond = λ i q. l.beyond i (omega (arith, g.room)) ∙ g.beyond i (omega arith) }

-- the rules as inference has them
abbrev pub apply_to : Meaning → System → Ty → Ty → Option Ty
apply_to m α F r = on_function (Some F) (λ t s. given (is_subtype m α r t) (Some s))

abbrev pub fix_of : Meaning → System → Ty → Option Ty
fix_of m α F = on_function (Some F) (λ t s. given (is_subtype m α s t) (Some s))

abbrev pub check_of : Ty → Option Ty
check_of E = on_guarded (Some E) (λ a t. Some (computation a t))

abbrev pub join_to : Meaning → ℕ → Ty → Option Ty
join_to m a E = on_computation (Some E) (λ b s. on_some (m.join a b) (λ c. Some (computation c s)))

abbrev pub raise_by : Meaning → ℕ → Ty → Option Ty
raise_by m a E = on_computation (Some E) (λ b t. on_some (m.remainder b a) (λ c. Some (computation c t)))

abbrev pub restrict_to : Meaning → System → ℕ → Ty → Option Ty
restrict_to m α a E = on_computation (Some E) (λ b t. given (m.role a && permits m α a b) (Some (computation b t)))

module _ (m : Meaning) (L : Lawful m) (α : System) (p : ℕ) (T : List Entry) (u : ℕ) (g : Grounded m.role T u) where
  tree_1 : (x : ℕ) → x < u → (at T x).tag ≡ 1 → type_of T x ≡ base (kind (at T x).first)
  tree_1 x l h = tree_is m.role T u x g l ∙ node_1 (at T x) (type_of T) h

  tree_2 : (x : ℕ) → x < u → (at T x).tag ≡ 2 → type_of T x ≡ function (type_of T (at T x).first) (type_of T (at T x).second)
  tree_2 x l h = tree_is m.role T u x g l ∙ node_2 (at T x) (type_of T) h

  tree_3 : (x : ℕ) → x < u → (at T x).tag ≡ 3 → type_of T x ≡ guarded (at T x).third (type_of T (at T x).first)
  tree_3 x l h = tree_is m.role T u x g l ∙ node_3 (at T x) (type_of T) h

  pub tree_4 : (x : ℕ) → x < u → (at T x).tag ≡ 4 → type_of T x ≡ computation (at T x).third (type_of T (at T x).first)
  tree_4 x l h = tree_is m.role T u x g l ∙ node_4 (at T x) (type_of T) h

  -- by the shape of a type that is looked at: a property of its tree and its tag
  pub by_shape : (P : Ty → ℕ → Type 0) (x : ℕ) → x < u → P (base (kind (at T x).first)) 1 → P (function (type_of T (at T x).first) (type_of T (at T x).second)) 2 → ((at T x).tag ≡ 3 → P (guarded (at T x).third (type_of T (at T x).first)) 3) → ((at T x).tag ≡ 4 → P (computation (at T x).third (type_of T (at T x).first)) 4) → P (type_of T x) (at T x).tag
  by_shape P x l p1 p2 p3 p4 = go (tag_of m.role x (at T x) (g x l))
    where
      put : (y : Ty) (n : ℕ) → type_of T x ≡ y → (at T x).tag ≡ n → P y n → P (type_of T x) (at T x).tag
      put y n q r h = subst₂ P (sym q) (sym r) h

      go : Four (at T x).tag → P (type_of T x) (at T x).tag
      go (is1 h) = put _ 1 (tree_1 x l h) h p1
      go (is2 h) = put _ 2 (tree_2 x l h) h p2
      go (is3 h) = put _ 3 (tree_3 x l h) h (p3 h)
      go (is4 h) = put _ 4 (tree_4 x l h) h (p4 h)

  given_judges : (b : Bool) (c : TypingFault) (o : Option Ty) (j : Judged) → Judges T o j → Judges T (given b o) (asked b c j)
  given_judges true c o j h = h
  given_judges false c o j h = refl

  some_judges : (i : ℕ) (r : Option ℕ) → is_some r ≡ true → Judges T (on_some r (λ c. Some (computation c (type_of T i)))) (fresh (computation_type (role_of r) i))
  some_judges i None h = absurd (false≢true h)
  some_judges i (Some c) h = refl

  pub apply_judges : (f x : ℕ) → f < u → Judges T (apply_to m α (type_of T f) (type_of T x)) (applied m α p T f x)
  apply_judges f x l =
      let rest : Judged = asked (below m α T x (at T f).first) (Argument p) (known (at T f).second) in
      by_shape (λ y n. Judges T (apply_to m α y (type_of T x)) (asked (eqb n 2) (NoFunction p) rest)) f l refl
      (given_judges (below m α T x (at T f).first) (Argument p) (Some (type_of T (at T f).second)) (known (at T f).second) refl)
      (λ _. refl) (λ _. refl)

  pub fix_judges : (f : ℕ) → f < u → Judges T (fix_of m α (type_of T f)) (fixed m α p T f)
  fix_judges f l =
      let rest : Judged = asked (below m α T (at T f).second (at T f).first) (Result p) (known (at T f).second) in
      by_shape (λ y n. Judges T (fix_of m α y) (asked (eqb n 2) (NoFunction p) rest)) f l refl
      (given_judges (below m α T (at T f).second (at T f).first) (Result p) (Some (type_of T (at T f).second)) (known (at T f).second) refl)
      (λ _. refl) (λ _. refl)

  pub check_judges : (x : ℕ) → x < u → Judges T (check_of (type_of T x)) (checked p T x)
  check_judges x l =
      by_shape (λ y n. Judges T (check_of y) (asked (eqb n 3) (NoGuard p) (fresh (computation_type (at T x).third (at T x).first)))) x l refl refl (λ _. refl) (λ _. refl)

  pub join_judges : (f x : ℕ) → m.role (at T f).third ≡ true → x < u → Judges T (join_to m (at T f).third (type_of T x)) (joined m p T f x)
  join_judges f x r l =
      by_shape (λ y n. Judges T (join_to m (at T f).third y) (asked (eqb n 4) (NoComputation p) (fresh (computation_type (role_of (m.join (at T f).third (at T x).third)) (at T x).first)))) x l refl refl (λ _. refl)
      (λ q. some_judges (at T x).first (m.join (at T f).third (at T x).third) (join_there m L _ _ r ((g x l).code (omega arith))))

  pub raise_judges : (a x : ℕ) → m.role a ≡ true → x < u → Judges T (raise_by m a (type_of T x)) (raised m p T a x)
  raise_judges a x r l =
      by_shape (λ y n. Judges T (raise_by m a y) (asked (eqb n 4) (NoComputation p) (fresh (computation_type (role_of (m.remainder (at T x).third a)) (at T x).first)))) x l refl refl (λ _. refl)
      (λ q. some_judges (at T x).first (m.remainder (at T x).third a) (remainder_there m L _ _ ((g x l).code (omega arith)) r))

  pub restrict_judges : (a x : ℕ) → m.role a ≡ true → x < u → Judges T (restrict_to m α a (type_of T x)) (restricted m α p T a x)
  restrict_judges a x r l =
      let rest : Judged = asked (permits m α a (at T x).third) (Restriction p) (fresh (computation_type (at T x).third (at T x).first)) in
      by_shape (λ y n. Judges T (restrict_to m α a y) (asked (eqb n 4) (NoComputation p) rest)) x l refl refl (λ _. refl)
      (λ q. role_judges (m.role a) r (Some (computation (at T x).third (type_of T (at T x).first))) (permits m α a (at T x).third) rest
      (given_judges (permits m α a (at T x).third) (Restriction p) (Some (computation (at T x).third (type_of T (at T x).first))) (fresh (computation_type (at T x).third (at T x).first)) refl))
    where
      role_judges : (b : Bool) → b ≡ true → (o : Option Ty) (c : Bool) (J : Judged) → Judges T (given c o) J → Judges T (given (b && c) o) J
      role_judges b e o c J h = rw e h

-- how many binders there are
abbrev pub depth_of : List ℕ → ℕ
depth_of [] = 0
depth_of (x ∷ Γ) = suc (depth_of Γ)

pub variable_judges : (T : List Entry) (Γ : List ℕ) (i : ℕ) → i < depth_of Γ → lookup (tys T Γ) i ≡ Some (type_of T (get_or Γ i 0))
variable_judges T [] i h = let z : ⊥ = omega arith in absurd z
variable_judges T (x ∷ Γ) zero h = refl
variable_judges T (x ∷ Γ) (suc i) h = variable_judges T Γ i (omega arith)

pub all_at : (u : ℕ) (Γ : List ℕ) → AllLow u Γ → (i : ℕ) → i < depth_of Γ → get_or Γ i 0 < u
all_at u [] a i h = let z : ⊥ = omega arith in absurd z
all_at u (x ∷ Γ) a zero h = a.0
all_at u (x ∷ Γ) a (suc i) h = all_at u Γ a.1 i (omega arith)

pub all_more : (u u' : ℕ) → u ≤ u' → (Γ : List ℕ) → AllLow u Γ → AllLow u' Γ
all_more u u' h [] a = tt
all_more u u' h (x ∷ Γ) a = (omega (arith, a.0), all_more u u' h Γ a.1)

pub tys_same : (T T' : List Entry) (u : ℕ) → ((i : ℕ) → i < u → type_of T' i ≡ type_of T i) → (Γ : List ℕ) → AllLow u Γ → tys T' Γ ≡ tys T Γ
tys_same T T' u h [] a = refl
tys_same T T' u h (x ∷ Γ) a = ap₂ ◌∷◌ (h x a.0) (tys_same T T' u h Γ a.1)
