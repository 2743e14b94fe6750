-- The systems of the code are those of the calculus. Assumes nothing.
use Rattle.calculus.specs.Subtyping as calculus
use Rattle.checks.specs.declared.system.System.{System}
use Rattle.checks.specs.declared.system.System.TheVariants.{Sufficient, Necessary}

-- The system that is meant.
abbrev pub meant : System → calculus.System
meant Sufficient = calculus.sufficient
meant Necessary = calculus.necessary
