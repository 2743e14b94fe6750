-- The answer of a check says what the rules say.
use Rattle.std.proofs.Common.{◌≡◌, ℕ, ◌+◌, ◌-◌, true, List, [], length, get_or, take, Ok, Err, Result, refl, subst}
use Rattle.roles.specs.Meaning.{Meaning, Lawful}
use Rattle.calculus.specs.Syntax.{Ty, base, unit_kind}
use Rattle.calculus.specs.Subtyping.{System}
use Rattle.tables.specs.declared.entry.Entry.{Entry}
use Rattle.tables.specs.Asking.{Answer}
use Rattle.tables.specs.Entries.{at, type_tag}
use Rattle.tables.specs.Ladder.{ladder}
use Rattle.tables.specs.Form.{form}
use Rattle.trees.specs.Trees.{type_by, type_step, type_of, term_of}
use Rattle.trees.proofs.ByTag.{by_type_tag}
use Rattle.walks.specs.Sense.{Least, Within, Decides}
use Rattle.walks.specs.Walk.{Walked, going, stopped, table_of, walk_of}
use Rattle.walks.proofs.Accepting.{terms_long, walkable}
use Rattle.walks.proofs.Linking.{walk_decides_lem}
use Rattle.checks.specs.declared.fault.CheckFault.{CheckFault}
use Rattle.checks.specs.declared.fault.CheckFault.TheVariants.{Typing}
use Rattle.checks.specs.Checking.{Checked, bound_in, walk_answer, after_form, check_of, cleared}
use Rattle.checks.specs.Sense.{job_term, bound_of, Says, plain}

pub record Meant (m : Meaning) (α : System) (t n : ℕ) (T M : List Entry) (c : Checked) : Type 0 where
  pub sense : Says m α (job_term t n T M) c.answer
  pub within : Within t (t + n) T c.table

-- the bound of an entry of a type is that of the type
shape_bound : (m : Meaning) (w : ℕ → Ty) (e : Entry) → type_tag e.tag ≡ true → bound_in m e ≡ bound_of m (type_by e w)
shape_bound m w = by_type_tag (λ e. bound_in m e ≡ bound_of m (type_by e w)) (λ f s c. refl) (λ f s c. refl) (λ f s c. refl) (λ f s c. refl)

entry_bound : (m : Meaning) (T : List Entry) (x : ℕ) → type_tag (at T x).tag ≡ true → bound_in m (at T x) ≡ bound_of m (type_of T x)
unfolding type_of
entry_bound m T x h = shape_bound m (λ i. get_or (ladder (type_step T) x) i (base unit_kind)) (at T x) h

module _ (m : Meaning) (L : Lawful m) (α : System) (t n : ℕ) (T M : List Entry) where
  same_table : Within t (t + n) T T
  same_table = record { long = refl; before = λ i l. refl; beyond = λ i l. refl }

  by_walk : (w : Walked) → Decides m α t T (take n M) w → length (take n M) ≡ n → Meant m α t n T M (record { answer = walk_answer m w; table = table_of w })
  by_walk (going T' u x) d l = record { sense = (type_of T' x, subst (λ (z : ℕ). Least m α (term_of (take t T) (take n M) (z - 1)) (type_of T' x)) l d.typed, entry_bound m T' x d.found); within = subst (λ (z : ℕ). Within t (t + z) T T') l d.within }
  by_walk (stopped T' c) d l = record { sense = subst (λ (z : ℕ). Says m α (term_of (take t T) (take n M) (z - 1)) (Err (Typing c))) l d.typed; within = subst (λ (z : ℕ). Within t (t + z) T T') l d.within }

  by_form : (a : Answer) → form m t n T M ≡ a → Meant m α t n T M (after_form m T a (walk_of m α t (take n M) (n - 1) [] T t))
  by_form (Ok tt) q =
      let l = terms_long m t n T M q in
      by_walk _ (subst (λ (z : ℕ). Decides m α t T (take n M) (walk_of m α t (take n M) (z - 1) [] T t)) l (walk_decides_lem m L α t T (take n M) (walkable m t n T M q))) l
  by_form (Err f) q = record { sense = tt; within = same_table }

  pub check_meant : Meant m α t n T M (check_of m α t n T M)
  check_meant = by_form (form m t n T M) refl

pub plain_cleared : (a : Result ℕ CheckFault) → plain (cleared a) ≡ a
plain_cleared (Ok b) = refl
plain_cleared (Err f) = refl
