-- The verdict on an input, and its 24 bytes. Assumes nothing.
use Rattle.std.specs.Prelude.{ℕ, List, [], ◌∷◌, ◌++◌, length, replicate, Ok, Err, Result}
use Rattle.roles.specs.Meaning.{Meaning}
use Rattle.calculus.specs.Subtyping.{sufficient, necessary}
use Rattle.blocks.specs.declared.block.BlockFault.{BlockFault}
use Rattle.blocks.specs.Format.{Parsed, block_of}
use Rattle.blocks.specs.Kinds.{scheme_of}
use Rattle.tables.specs.declared.entry.Counts.{Counts}
use Rattle.tables.specs.declared.entry.Entry.{Entry}
use Rattle.tables.specs.Entries.{no_entry}
use Rattle.jobs.specs.declared.fault.ImageFault.{ImageFault}
use Rattle.jobs.specs.Image.{bytes16, bytes64}
use Rattle.jobs.specs.Reading.{read_told, types_left, terms_left}
use Rattle.checks.specs.declared.fault.CheckFault.{CheckFault}
use Rattle.checks.specs.Checking.{check_of}
use Rattle.station.specs.declared.refusal.Refusal.{Refusal}
use Rattle.station.specs.declared.refusal.Refusal.TheVariants.{Block, Image, Check}
use Rattle.station.specs.declared.verdict.Verdict.{Verdict}
use Rattle.station.specs.Refusals.{number_of, place_of}

-- A refusal before the checks is told of both.
abbrev pub refused : Refusal → Verdict
refused r = record { sufficient = Err r; necessary = Err r }

-- The answer of a check as part of a verdict.
abbrev pub of_check : Result ℕ CheckFault → Result ℕ Refusal
of_check (Ok b) = Ok b
of_check (Err f) = Err (Check f)

-- Both checks of a job of t types and n terms: the sufficient one, and the necessary one on the tables that it leaves.
abbrev pub checked_both : Meaning → ℕ → ℕ → List Entry → List Entry → Verdict
checked_both m t n types terms =
    record {
      sufficient = of_check (check_of m sufficient t n types terms).answer;
      necessary = of_check (check_of m necessary t n (check_of m sufficient t n types terms).table terms).answer;
    }

-- The station's table of types before anything is read: 1,536 places, room for the types of every job and one more per term.
abbrev pub types_blank : List Entry
types_blank = replicate 1536 no_entry

-- The station's table of terms before anything is read: 1,024 places, room for the terms of every job.
abbrev pub terms_blank : List Entry
terms_blank = replicate 1024 no_entry

-- The verdict on an image, by what its reading told.
abbrev pub after_reading : Meaning → List ℕ → Result Counts ImageFault → Verdict
after_reading m image (Ok c) =
    checked_both m c.types c.terms (types_left m image types_blank terms_blank) (terms_left m image types_blank terms_blank)
after_reading m image (Err f) = refused (Image f)

-- The verdict on an image under a scheme.
abbrev pub image_verdict : Meaning → List ℕ → Verdict
image_verdict m image = after_reading m image (read_told m image (length types_blank) (length terms_blank))

-- The verdict by what was read of a scheme block.
abbrev pub after_block : Result Parsed BlockFault → Verdict
after_block (Ok p) = image_verdict (scheme_of p.block) p.rest
after_block (Err f) = refused (Block f)

-- The verdict on an input: a scheme block, and then an image.
abbrev pub verdict_on : List ℕ → Verdict
verdict_on input = after_block (block_of input)

-- The number that is told: 0 for an accepted job.
abbrev pub number_told : Result ℕ Refusal → ℕ
number_told (Ok b) = 0
number_told (Err r) = number_of r

-- The place that is told: 0 for an accepted job.
abbrev pub place_told : Result ℕ Refusal → ℕ
place_told (Ok b) = 0
place_told (Err r) = place_of r

-- The bound that is told: 0 for a refused job.
abbrev pub bound_told : Result ℕ Refusal → ℕ
bound_told (Ok b) = b
bound_told (Err r) = 0

-- The 24 bytes: both numbers, both places in 16 bits, two zeros, both bounds in 64 bits, lowest byte first.
abbrev pub verdict_bytes : Verdict → List ℕ
verdict_bytes v =
    (number_told v.sufficient ∷ number_told v.necessary ∷ [])
    ++ bytes16 (place_told v.sufficient) ++ bytes16 (place_told v.necessary) ++ (0 ∷ 0 ∷ [])
    ++ bytes64 (bound_told v.sufficient) ++ bytes64 (bound_told v.necessary)
