-- Asking again. Assumes nothing.
use Rattle.std.specs.Prelude.{◌≡◌, ℕ, List, length, take}
use Rattle.roles.specs.Meaning.{Meaning, Lawful}
use Rattle.calculus.specs.Subtyping.{System}
use Rattle.tables.specs.declared.entry.Entry.{Entry}
use Rattle.checks.specs.Checking.{check_of}

-- A check looks at the job alone: it answers the same in every table of types that is as long and has the same first t entries.
abbrev pub AnswersByJob : Type 0
AnswersByJob =
    (m : Meaning) → Lawful m → (α : System) (t n : ℕ) (types types' terms : List Entry) → length types' ≡ length types → take t types' ≡ take t types →
    (check_of m α t n types' terms).answer ≡ (check_of m α t n types terms).answer

-- So a check answers after a check, be it of the same system or of the other, what it would have answered before.
abbrev pub AnswersAgain : Type 0
AnswersAgain =
    (m : Meaning) → Lawful m → (α β : System) (t n : ℕ) (types terms : List Entry) →
    (check_of m α t n (check_of m β t n types terms).table terms).answer ≡ (check_of m α t n types terms).answer
