-- How the answers of a reading's steps make up its own.
use Rattle.std.proofs.Common.{◌≡◌, ℕ, List, ◌++◌, drop, length, Ok, Err, Result, sym, ap, ◌∙◌, subst}
use Rattle.roles.specs.Meaning.{Meaning}
use Rattle.std.proofs.lemmas.List.FromFn.{length-map-range_with_len}
use Rattle.tables.specs.declared.entry.Entry.{Entry}
use Rattle.tables.specs.declared.entry.Counts.{Counts}
use Rattle.tables.specs.declared.fault.FormFault.{FormFault}
use Rattle.tables.specs.Form.{entries_asked}
use Rattle.jobs.specs.declared.fault.ImageFault.{ImageFault}
use Rattle.jobs.specs.declared.fault.ImageFault.TheVariants.{Form}
use Rattle.tables.specs.Asking.{and_then, told}
use Rattle.jobs.specs.Asking.{Answer, formed, left}
use Rattle.jobs.specs.Image.{types_told, terms_told, types_in, terms_in}
use Rattle.jobs.specs.Reading.{Outlined, counts_told, outline_asked, read_asked, read_told, types_left, terms_left, filled}
use Rattle.jobs.proofs.Asked.{told_yes, told_value, told_no, formed_no, formed_yes}
use Rattle.jobs.proofs.Outlines.{outlined, roomy, Roomy}

module _ (m : Meaning) (bs : List ℕ) (a b : ℕ) where
  -- the entries that counts say
  abbrev rest : Counts → Answer
  rest k = formed (entries_asked m.role (types_in bs k.types k.terms) (terms_in bs k.types k.terms))

  -- refused before an entry was looked at
  pub no_outline : (f : ImageFault) → Err f ≡ told (outline_asked m bs (types_told bs) (terms_told bs) a b) (counts_told bs) → read_asked m bs a b ≡ Err f
  no_outline f h = ap (λ z. and_then z (rest (counts_told bs))) (told_no _ (counts_told bs) f h)

  module _ (k : Counts) (h : Ok k ≡ told (outline_asked m bs (types_told bs) (terms_told bs) a b) (counts_told bs)) where
    -- the counts told have been asked about
    pub shape : Outlined m bs k.types k.terms
    shape =
        subst (λ (x : Counts). Outlined m bs x.types x.terms) (sym (told_value _ (counts_told bs) k h)) (outlined m bs _ _ a b (told_yes _ (counts_told bs) k h))

    pub space : Roomy k.types k.terms a b
    space =
        subst (λ (x : Counts). Roomy x.types x.terms a b) (sym (told_value _ (counts_told bs) k h)) (roomy m bs _ _ a b (told_yes _ (counts_told bs) k h))

    by_entries : read_asked m bs a b ≡ rest k
    by_entries =
        ap (λ z. and_then z (rest (counts_told bs))) (told_yes _ (counts_told bs) k h) ∙ ap rest (sym (told_value _ (counts_told bs) k h))

    -- refused at an entry
    pub no_entries : (f : FormFault) → Err f ≡ entries_asked m.role (types_in bs k.types k.terms) (terms_in bs k.types k.terms) → read_asked m bs a b ≡ Err (Form f)
    no_entries f e = by_entries ∙ formed_no _ f e

    pub accepted : (u : Unit {0}) → Ok u ≡ entries_asked m.role (types_in bs k.types k.terms) (terms_in bs k.types k.terms) → read_asked m bs a b ≡ Ok tt
    accepted u e = by_entries ∙ formed_yes _ u e

    pub types_filled : (T : List Entry) → types_in bs k.types k.terms ++ drop k.types T ≡ filled (types_in bs (types_told bs) (terms_told bs)) T
    types_filled T =
        ap (λ (x : Counts). types_in bs x.types x.terms ++ drop x.types T) (told_value _ (counts_told bs) k h)
        ∙ ap (λ z. types_in bs (types_told bs) (terms_told bs) ++ drop z T) (sym (length-map-range_with_len _ 0 (types_told bs)))

    pub terms_filled : (T : List Entry) → terms_in bs k.types k.terms ++ drop k.terms T ≡ filled (terms_in bs (types_told bs) (terms_told bs)) T
    terms_filled T =
        ap (λ (x : Counts). terms_in bs x.types x.terms ++ drop x.terms T) (told_value _ (counts_told bs) k h)
        ∙ ap (λ z. terms_in bs (types_told bs) (terms_told bs) ++ drop z T) (sym (length-map-range_with_len _ 0 (terms_told bs)))

-- what a reading tells and leaves, when it is refused
pub record Refused (m : Meaning) (bs : List ℕ) (T M : List Entry) (r : Result Counts ImageFault) : Type 0 where
  pub answer : r ≡ read_told m bs (length T) (length M)
  pub types : T ≡ types_left m bs T M
  pub terms : M ≡ terms_left m bs T M

pub refused : (m : Meaning) (bs : List ℕ) (T M : List Entry) (r : Result Counts ImageFault) (e f : ImageFault) → r ≡ Err e → e ≡ f → read_asked m bs (length T) (length M) ≡ Err f → Refused m bs T M r
refused m bs T M r e f p q h =
    record {
      answer = p ∙ (ap Err q ∙ sym (ap (λ z. told z (counts_told bs)) h));
      types = sym (ap (λ z. left z (filled (types_in bs (types_told bs) (terms_told bs)) T) T) h);
      terms = sym (ap (λ z. left z (filled (terms_in bs (types_told bs) (terms_told bs)) M) M) h);
    }
