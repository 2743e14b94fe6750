-- A value for each number, made from the values of the lower numbers; no number below is asked twice. Assumes nothing.
use Rattle.std.specs.Prelude.{ℕ, zero, suc, List, [], ◌∷◌, ◌++◌}

-- The values of the numbers below n.
abbrev pub ladder : {X : Type 0} → (ℕ → List X → X) → ℕ → List X
ladder f zero = []
ladder f (suc n) = ladder f n ++ (f n (ladder f n) ∷ [])

-- The value of n.
abbrev pub rung : {X : Type 0} → (ℕ → List X → X) → ℕ → X
rung f n = f n (ladder f n)
