-- What an answer about an image says of the questions that it answers.
use Rattle.std.proofs.Common.{◌≡◌, Ok, Err, sym, refl, ap}
use Rattle.tables.specs.declared.fault.FormFault.{FormFault}
use Rattle.tables.specs.Asking as form
use Rattle.tables.specs.Asking.{Asked, asks, told}
use Rattle.jobs.specs.declared.fault.ImageFault.TheVariants.{Form}
use Rattle.jobs.specs.Asking.{formed}

pub formed_ok : (a : form.Answer) → formed a ≡ Ok tt → a ≡ Ok tt
formed_ok (Ok u) h = refl
formed_ok (Err f) h = cc

-- a call that returned a value had a yes to all, and the value is the one told
pub told_yes : {F X : Type 0} (a : Asked F) (x y : X) → Ok y ≡ told a x → a ≡ Ok tt
told_yes (Ok u) x y h = refl
told_yes (Err f) x y h = cc

pub told_value : {F X : Type 0} (a : Asked F) (x y : X) → Ok y ≡ told a x → y ≡ x
told_value (Ok u) x y h = cc
told_value (Err f) x y h = cc

-- a call that returned a fault tells the fault of the answer
pub told_no : {F X : Type 0} (a : Asked F) (x : X) (f : F) → Err f ≡ told a x → a ≡ Err f
told_no (Ok u) x f h = cc
told_no (Err e) x f h = cc

pub formed_no : (a : form.Answer) (f : FormFault) → Err f ≡ a → formed a ≡ Err (Form f)
formed_no a f h = ap formed (sym h)

pub formed_yes : (a : form.Answer) (u : Unit {0}) → Ok u ≡ a → formed a ≡ Ok tt
formed_yes a u h = ap formed (sym h)
