-- What a verdict means by the rules of the calculus. Assumes nothing.
use Rattle.std.specs.Prelude.{◌≡◌, ℕ, ◌-◌, List, Ok, Err, Result}
use Rattle.roles.specs.Meaning.{Meaning}
use Rattle.calculus.specs.Syntax.{Ty, Term}
use Rattle.calculus.specs.Subtyping.{System, sufficient, necessary}
use Rattle.trees.specs.Trees.{term_of}
use Rattle.walks.specs.Sense.{Least, Untyped}
use Rattle.blocks.specs.Format.{Parsed, block_of}
use Rattle.blocks.specs.Kinds.{scheme_of}
use Rattle.jobs.specs.Image.{types_told, terms_told, types_in, terms_in}
use Rattle.checks.specs.declared.fault.CheckFault.TheVariants.{Form, Typing}
use Rattle.checks.specs.Sense.{bound_of}
use Rattle.station.specs.declared.refusal.Refusal.{Refusal}
use Rattle.station.specs.declared.refusal.Refusal.TheVariants.{Block, Image, Check}
use Rattle.station.specs.declared.verdict.Verdict.{Verdict}

-- The term that an image of t types and n terms stands for.
abbrev pub term_in : List ℕ → ℕ → ℕ → Term
term_in image t n = term_of (types_in image t n) (terms_in image t n) (n - 1)

-- The term that an image stands for.
abbrev pub image_term : List ℕ → Term
image_term image = term_in image (types_told image) (terms_told image)

-- An accepted term has a least type by the rules, and the answer is its bound; the rules give a term refused by its typing no type. A check finds no fault of form in a job that was read.
abbrev pub AnswerMeans : Meaning → System → Term → Result ℕ Refusal → Type 0
AnswerMeans m α e (Ok b) = (t : Ty) × Least m α e t × (b ≡ bound_of m t)
AnswerMeans m α e (Err (Check (Typing c))) = Untyped m α e
AnswerMeans m α e (Err (Check (Form f))) = ⊥
AnswerMeans m α e (Err (Image f)) = Unit {0}
AnswerMeans m α e (Err (Block f)) = Unit {0}

-- What a verdict on an image says of the term that the image stands for.
pub record ImageMeans (m : Meaning) (image : List ℕ) (v : Verdict) : Type 0 where
  pub sufficiency : AnswerMeans m sufficient (image_term image) v.sufficient
  pub necessity : AnswerMeans m necessary (image_term image) v.necessary

-- What a verdict on an input says, if the input begins with a scheme block: the rest is an image, judged under that scheme.
abbrev pub InputMeans : List ℕ → Verdict → Type 0
InputMeans input v = (p : Parsed) → block_of input ≡ Ok p → ImageMeans (scheme_of p.block) p.rest v
