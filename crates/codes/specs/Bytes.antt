-- Numbers as bytes, the lowest byte first. Assumes nothing.
use Rattle.std.specs.Prelude.{ℕ, zero, suc, ◌+◌, ◌*◌, ◌/◌, ◌%◌, cond, List, [], ◌∷◌, length, Some, None, Option, nat_le, slice_index}

-- the number of k bytes from place p
abbrev pub little_endian : ℕ → List ℕ → ℕ → ℕ
little_endian zero bytes p = 0
little_endian (suc k) bytes p = slice_index bytes p + 256 * little_endian k bytes (p + 1)

-- a number as k bytes; what they do not hold of it is left out
abbrev pub bytes_of : ℕ → ℕ → List ℕ
bytes_of zero x = []
bytes_of (suc k) x = (x % 256) ∷ bytes_of k (x / 256)

-- the code that stands from place p, if its eight bytes are there
abbrev pub code_at : List ℕ → ℕ → Option ℕ
code_at bytes p = cond (nat_le (p + 8) (length bytes)) (Some (little_endian 8 bytes p)) None
