-- A code by its bits. Assumes nothing.
use Rattle.std.specs.Prelude.{ℕ, ◌-◌, ◌/◌, ◌%◌, ◌^◌, Bool, ◌==◌, bit_and}

-- bit j of the code, 0 or 1
abbrev pub bit : ℕ → ℕ → ℕ
bit j a = a / 2 ^ j % 2

-- does the code hold bit j?
abbrev pub holds_bit : ℕ → ℕ → Bool
holds_bit a j = bit j a == 1

-- does a hold every bit that b holds?
abbrev pub superset : ℕ → ℕ → Bool
superset a b = bit_and a b == b

-- the bits of b outside a, of 64
abbrev pub outside : ℕ → ℕ → ℕ
outside b a = bit_and b (2 ^ 64 - 1 - a)
