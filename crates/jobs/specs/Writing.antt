-- What the writing of an image answers and leaves. Assumes nothing.
use Rattle.std.specs.Prelude.{ℕ, List, length, take, ◌==◌}
use Rattle.roles.specs.Meaning.{Meaning}
use Rattle.tables.specs.declared.entry.Entry.{Entry}
use Rattle.tables.specs.Asking.{asks, and_then}
use Rattle.tables.specs.Form.{form}
use Rattle.jobs.specs.declared.fault.ImageFault.TheVariants.{Output}
use Rattle.jobs.specs.Asking.{Answer, formed, left}
use Rattle.jobs.specs.Image.{image_length, image}

-- Has an output of k bytes just the length of the image of t types and n terms?
abbrev pub output_asked : ℕ → ℕ → ℕ → Answer
output_asked t n k = asks (k == image_length t n) (Output k)

-- All questions that a writing puts, in their order: those of form, then that of the output.
abbrev pub write_asked : Meaning → ℕ → ℕ → List Entry → List Entry → ℕ → Answer
write_asked m t n types terms k = and_then (formed (form m t n types terms)) (output_asked t n k)

-- What a writing leaves of the output: the image if it accepts, else the bytes that were there.
abbrev pub out_left : Meaning → ℕ → ℕ → List Entry → List Entry → List ℕ → List ℕ
out_left m t n types terms out =
    left (write_asked m t n types terms (length out)) (image (take t types) (take n terms)) out
