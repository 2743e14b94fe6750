-- A check answers the same when it is asked again.
use Rattle.std.proofs.Common.{◌≡◌, ℕ, zero, suc, ◌+◌, ◌-◌, ◌<◌, ◌≤◌, List, [], length, take, Ok, Err, sym, refl, ap, ◌∙◌, subst, ap₂, ⊎_elim, add-one, arith}
use Rattle.std.proofs.lemmas.List.{get_or-take, take_more_same, take_all}
use Rattle.std.proofs.lemmas.Bool.{cases_lt}
use Rattle.roles.specs.Meaning.{Meaning, Lawful}
use Rattle.calculus.specs.Subtyping.{System}
use Rattle.tables.specs.declared.entry.Entry.{Entry}
use Rattle.tables.specs.Asking.{Answer, and_then}
use Rattle.tables.specs.Entries.{at, no_entry}
use Rattle.tables.specs.Form.{form, sound_asked, counts_asked, room_asked, entries_asked}
use Rattle.walks.specs.Sense.{Within, TellsSame}
use Rattle.walks.specs.Walk.{Walked, going, stopped, walk_of}
use Rattle.walks.proofs.Accepting.{terms_long, walkable}
use Rattle.walks.proofs.Linking.{walk_again_lem}
use Rattle.checks.specs.declared.fault.CheckFault.TheVariants.{Typing}
use Rattle.checks.specs.Again.{AnswersByJob, AnswersAgain}
use Rattle.checks.specs.Checking.{bound_in, walk_answer, after_form, check_of}
use Rattle.checks.proofs.Meaning.{check_meant}

same_answer : (m : Meaning) (w w' : Walked) → TellsSame w w' → walk_answer m w' ≡ walk_answer m w
same_answer m (going T u x) (going T' u' x') s = ap (λ (e : Entry). Ok (bound_in m e)) s.1
same_answer m (going T u x) (stopped T' c) s = absurd s
same_answer m (stopped T c) (going T' u x) s = absurd s
same_answer m (stopped T c) (stopped T' c') s = ap (λ c. Err (Typing c)) s

module _ (m : Meaning) (L : Lawful m) (α : System) (t n : ℕ) (T T' M : List Entry) (l : length T' ≡ length T) (f : take t T' ≡ take t T) where
  form_same : form m t n T' M ≡ form m t n T M
  form_same =
      ap₂ (λ (a : ℕ) (b : List Entry). and_then (sound_asked m) (and_then (counts_asked t n) (and_then (room_asked t n a (length M)) (entries_asked m.role b (take n M))))) l f

  front_same : (i : ℕ) → i < t → at T' i ≡ at T i
  front_same i h = sym (get_or-take t T' i no_entry h) ∙ (ap (λ (z : List Entry). at z i) f ∙ get_or-take t T i no_entry h)

  by_form : (a : Answer) → form m t n T M ≡ a → (after_form m T' a (walk_of m α t (take n M) (n - 1) [] T' t)).answer ≡ (after_form m T a (walk_of m α t (take n M) (n - 1) [] T t)).answer
  by_form (Ok tt) q =
      same_answer m (walk_of m α t (take n M) (n - 1) [] T t) (walk_of m α t (take n M) (n - 1) [] T' t)
      (subst (λ (z : ℕ). TellsSame (walk_of m α t (take n M) (z - 1) [] T t) (walk_of m α t (take n M) (z - 1) [] T' t)) (terms_long m t n T M q)
      (walk_again_lem m L α t T T' (take n M) (walkable m t n T M q) l front_same))
  by_form (Err e) q = refl

  by_job : (check_of m α t n T' M).answer ≡ (check_of m α t n T M).answer
  by_job = ap (λ (a : Answer). (after_form m T' a (walk_of m α t (take n M) (n - 1) [] T' t)).answer) form_same ∙ by_form (form m t n T M) refl

pub answers_by_job_lem : AnswersByJob
answers_by_job_lem m L α t n T T' M l f = by_job m L α t n T T' M l f

-- the first places of a table that was written to from place t up
front : (t b : ℕ) (T T' : List Entry) → Within t b T T' → (k : ℕ) → k ≤ t → k ≤ length T → take k T' ≡ take k T
front t b T T' w zero h l = refl
front t b T T' w (suc k) h l =
    ap (λ (z : ℕ). take z T') (sym (add-one k))
    ∙ (take_more_same T' T k no_entry (omega (arith, w.long)) (omega arith) (front t b T T' w k (omega arith) (omega arith)) (w.before k (omega arith))
    ∙ ap (λ (z : ℕ). take z T) (add-one k))

-- the first t, whether there are so many or not
pub front_kept : (t b : ℕ) (T T' : List Entry) → Within t b T T' → take t T' ≡ take t T
front_kept t b T T' w = ⊎_elim
    (λ h. front t b T T' w t (omega arith) (omega arith))
    (λ h. take_all t T' (omega (arith, w.long)) ∙ (sym (take_all (length T) T' (omega (arith, w.long))) ∙ (front t b T T' w (length T) h (omega arith) ∙ (take_all (length T) T (omega arith) ∙ sym (take_all t T h)))))
    (cases_lt t (length T))

pub answers_again_lem : AnswersAgain
answers_again_lem m L α β t n T M =
    let k = (check_meant m L β t n T M).within in
    by_job m L α t n T (check_of m β t n T M).table M k.long (front_kept t (t + n) T (check_of m β t n T M).table k)
