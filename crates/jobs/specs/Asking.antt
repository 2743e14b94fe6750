-- Questions about an image in their order, those of form among them. Assumes nothing.
use Rattle.std.specs.Prelude.{Ok, Err}
use Rattle.tables.specs.Asking as form
use Rattle.tables.specs.Asking.{Asked}
use Rattle.jobs.specs.declared.fault.ImageFault.{ImageFault}
use Rattle.jobs.specs.declared.fault.ImageFault.TheVariants.{Form}

-- Yes to all that was asked of an image, or the fault to tell.
abbrev pub Answer : Type 0
Answer = Asked ImageFault

-- An answer to questions of form.
abbrev pub formed : form.Answer → Answer
formed (Ok u) = Ok tt
formed (Err f) = Err (Form f)

-- What a call leaves: the new if all was answered with yes, else the old.
abbrev pub left : {X : Type 0} → Answer → X → X → X
left (Ok u) new old = new
left (Err f) new old = old
