-- A verdict means what its two checks say of the term that the image stands for.
use Rattle.std.proofs.Common.{◌≡◌, ℕ, ◌-◌, List, [], length, take, Ok, Err, Result, sym, refl, ap, ◌∙◌, subst, ap₂, arith}
use Rattle.roles.specs.Meaning.{Meaning, Lawful}
use Rattle.calculus.specs.Syntax.{Term}
use Rattle.calculus.specs.Subtyping.{System, sufficient, necessary}
use Rattle.tables.specs.declared.entry.Entry.{Entry}
use Rattle.tables.specs.Entries.{no_entry}
use Rattle.trees.specs.Trees.{term_of}
use Rattle.walks.specs.Walk.{Walked, going, stopped, walk_of}
use Rattle.tables.specs.declared.fault.FormFault.{FormFault}
use Rattle.tables.specs.Asking.{Asked, told}
use Rattle.tables.specs.Form.{form}
use Rattle.jobs.specs.Asking.{Answer}
use Rattle.jobs.specs.Image.{types_told, terms_told}
use Rattle.jobs.specs.Reading.{read_asked, counts_told, types_left, terms_left}
use Rattle.checks.specs.declared.fault.CheckFault.{CheckFault}
use Rattle.checks.specs.declared.fault.CheckFault.TheVariants.{Form, Typing}
use Rattle.checks.specs.Checking.{walk_answer, after_form, check_of}
use Rattle.checks.specs.Sense.{job_term, Says}
use Rattle.checks.proofs.Meaning.{check_meant}
use Rattle.checks.proofs.Repeating.{answers_again_lem}
use Rattle.station.specs.Sense.{image_term, AnswerMeans, ImageMeans}
use Rattle.station.proofs.Accepted.{types_front, terms_front, form_ok}
use Rattle.station.specs.Verdicts.{of_check, checked_both, types_blank, terms_blank, after_reading, image_verdict}

-- the entry that an empty place holds
pub blank_entry : (e : Entry) → (e.tag ≡ 0) × ((e.first ≡ 0) × ((e.second ≡ 0) × (e.third ≡ 0))) → e ≡ no_entry
blank_entry e h =
    let P : ℕ → ℕ → ℕ → ℕ → Entry = λ a b c d. record { tag = a; first = b; second = c; third = d } in
    ap₂ (λ (a b : ℕ). P a b e.second e.third) h.0 h.1.0 ∙ ap₂ (P 0 0) h.1.1.0 h.1.1.1

-- what a check says of a job that has the form of one
says_means : (m : Meaning) (α : System) (e : Term) (a : Result ℕ CheckFault) → ((f : FormFault) → a ≡ Err (Form f) → ⊥) → Says m α e a → AnswerMeans m α e (of_check a)
says_means m α e (Ok b) h s = s
says_means m α e (Err (Typing c)) h s = s
says_means m α e (Err (Form f)) h s = h f refl

walk_typing : (m : Meaning) (w : Walked) (f : FormFault) → walk_answer m w ≡ Err (Form f) → ⊥
walk_typing m (going T u x) f h = let z : ◌≡◌ {A = ℕ} 0 1 = cc in omega arith
walk_typing m (stopped T c) f h = let z : ◌≡◌ {A = ℕ} 0 1 = cc in omega arith

module _ (m : Meaning) (L : Lawful m) (t n : ℕ) (T M : List Entry) (formed : form m t n T M ≡ Ok tt) where
  -- a check of such a job tells no fault of form
  typing : (α : System) (f : FormFault) → (check_of m α t n T M).answer ≡ Err (Form f) → ⊥
  typing α f h =
      let w : Walked = walk_of m α t (take n M) (n - 1) [] T t in
      walk_typing m w f (sym (ap (λ (a : Asked FormFault). (after_form m T a w).answer) formed) ∙ h)

  means : (α : System) → AnswerMeans m α (job_term t n T M) (of_check (check_of m α t n T M).answer)
  means α = says_means m α _ (check_of m α t n T M).answer (typing α) (check_meant m L α t n T M).sense

  -- the second check answers what it would have answered first
  both_mean : (image : List ℕ) → job_term t n T M ≡ image_term image → ImageMeans m image (checked_both m t n T M)
  both_mean image q = record {
    sufficiency = subst (λ (z : Term). AnswerMeans m sufficient z (of_check (check_of m sufficient t n T M).answer)) q (means sufficient);
    necessity =
        subst (λ (z : Term). AnswerMeans m necessary z (of_check (check_of m necessary t n (check_of m sufficient t n T M).table M).answer)) q
        (subst (λ (a : Result ℕ CheckFault). AnswerMeans m necessary (job_term t n T M) (of_check a)) (sym (answers_again_lem m L necessary sufficient t n T M)) (means necessary));
  }

module _ (m : Meaning) (L : Lawful m) (image : List ℕ) where
  abbrev t : ℕ
  t = types_told image

  abbrev n : ℕ
  n = terms_told image

  -- what is left by an accepted reading
  read_means : (T M : List Entry) → read_asked m image (length T) (length M) ≡ Ok tt → ImageMeans m image (checked_both m t n (types_left m image T M) (terms_left m image T M))
  read_means T M q =
      both_mean m L t n (types_left m image T M) (terms_left m image T M) (form_ok m image T M q) image
      (ap₂ (λ (a b : List Entry). term_of a b (n - 1)) (types_front m image T M q) (terms_front m image T M q))

  by_reading : (a : Answer) → read_asked m image (length types_blank) (length terms_blank) ≡ a → ImageMeans m image (after_reading m image (told a (counts_told image)))
  by_reading (Ok tt) q = read_means types_blank terms_blank q
  by_reading (Err f) q = record { sufficiency = tt; necessity = tt }

  pub image_means : ImageMeans m image (image_verdict m image)
  image_means = by_reading (read_asked m image (length types_blank) (length terms_blank)) refl
