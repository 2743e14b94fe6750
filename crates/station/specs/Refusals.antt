-- The number and the place of each refusal. Assumes nothing.
use Rattle.std.specs.Prelude.{ℕ}
use Rattle.blocks.specs.Format as block
use Rattle.jobs.specs.Faults as image
use Rattle.checks.specs.Faults as check
use Rattle.station.specs.declared.refusal.Refusal.{Refusal}
use Rattle.station.specs.declared.refusal.Refusal.TheVariants.{Block, Image, Check}

-- The number of the question that was answered with no.
abbrev pub number_of : Refusal → ℕ
number_of (Block f) = block.number_of f
number_of (Image f) = image.number_of f
number_of (Check f) = check.number_of f

-- The place of the entry that is meant, counted from 0 through types, then terms; 0 if no entry is meant.
abbrev pub place_of : Refusal → ℕ
place_of (Block f) = block.place_of f
place_of (Image f) = image.place_of f
place_of (Check f) = check.place_of f
