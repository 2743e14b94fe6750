-- What it takes to read a code. Assumes nothing.
use Rattle.std.proofs.Common.{◌≡◌, ℕ, ◌+◌, ◌≤◌, Bool, true, false, cond, leb, List, length, Some, None, refl, arith}
use Rattle.std.proofs.lemmas.Bool.{leb-true}
use Rattle.codes.specs.Bytes.{little_endian, code_at}

-- a code that was read stands within the bytes
pub code_within : (bytes : List ℕ) (p v : ℕ) → code_at bytes p ≡ Some v → (p + 8 ≤ length bytes) × (v ≡ little_endian 8 bytes p)
code_within bytes p v e = go (leb (p + 8) (length bytes)) refl e
  where
    go : (t : Bool) → leb (p + 8) (length bytes) ≡ t → cond t (Some (little_endian 8 bytes p)) None ≡ Some v → (p + 8 ≤ length bytes) × (v ≡ little_endian 8 bytes p)
    go true h i = (leb-true (p + 8) (length bytes) h, cc)
    go false h i = let z : ◌≡◌ {A = ℕ} 0 1 = cc in absurd (omega arith)
