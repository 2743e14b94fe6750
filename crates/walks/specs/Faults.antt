-- The number and the place of each fault of typing. Assumes nothing.
use Rattle.std.specs.Prelude.{ℕ}
use Rattle.walks.specs.declared.fault.TypingFault.{TypingFault}
use Rattle.walks.specs.declared.fault.TypingFault.TheVariants.{NoFunction, Argument, Result, NoGuard, NoComputation, Restriction}

-- The number of the question that was answered with no.
abbrev pub number_of : TypingFault → ℕ
number_of (NoFunction p) = 20
number_of (Argument p) = 21
number_of (Result p) = 22
number_of (NoGuard p) = 23
number_of (NoComputation p) = 24
number_of (Restriction p) = 25

-- The place of the term that asks, counted from 0 through types, then terms.
abbrev pub place_of : TypingFault → ℕ
place_of (NoFunction p) = p
place_of (Argument p) = p
place_of (Result p) = p
place_of (NoGuard p) = p
place_of (NoComputation p) = p
place_of (Restriction p) = p
