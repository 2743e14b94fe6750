-- The rows of a block, read one by one. Assumes nothing.
use Rattle.std.proofs.Common.{◌≡◌, ℕ, zero, suc, ◌+◌, ◌-◌, ◌*◌, ◌<◌, ◌≤◌, Bool, true, false, cond, leb, List, [], ◌∷◌, ◌++◌, length, set, replicate, sym, refl, ap, ◌∙◌, ap₂, append_assoc, add-one, arith, length-append, drop, append-nil, Some, None}
use Rattle.std.proofs.lemmas.List.{set_at, drop-replicate}
use Rattle.std.proofs.lemmas.Bool.{leb-true, le-leb, cond-true}
use Rattle.codes.specs.Bytes.{little_endian}
use Rattle.blocks.specs.Format.{words, rows_after, rows_in, has_rows}

words_length : (k : ℕ) (bytes : List ℕ) → length (words k bytes) ≡ k
words_length zero bytes = refl
words_length (suc k) bytes = simp length-append (rw (words_length k bytes) (omega arith))

-- one row more, of n
pub rows_more : (n i : ℕ) (bytes : List ℕ) → i < n → set (words i bytes ++ replicate (n - i) 0) i (little_endian 8 bytes (8 * i)) ≡ words (i + 1) bytes ++ replicate (n - (i + 1)) 0
rows_more n i bytes h =
    let v = little_endian 8 bytes (8 * i) in
    let left : n - i ≡ suc (n - (i + 1)) = omega arith in
    ap (λ (k : ℕ). set (words i bytes ++ replicate k 0) i v) left
    ∙ set_at (words i bytes) 0 (replicate (n - (i + 1)) 0) v i (words_length i bytes)
    ∙ sym (append_assoc (words i bytes) (v ∷ []) (replicate (n - (i + 1)) 0))
    ∙ ap (λ (k : ℕ). words k bytes ++ replicate (n - (i + 1)) 0) (sym (add-one i))

pub rows_most : (n : ℕ) → rows_after n ≤ 64
rows_most n = go (leb n 64) refl
  where
    go : (t : Bool) → leb n 64 ≡ t → cond t n 0 ≤ 64
    go true e = leb-true n 64 e
    go false e = omega arith

-- all rows, and those that do not follow
pub rows_whole : (n : ℕ) (bytes xs : List ℕ) (k i : ℕ) → k ≡ rows_after n → i ≡ k → 8 * i ≤ length bytes → xs ≡ words i bytes ++ replicate (k - i) 0 → Some (xs ++ drop k (replicate 64 0)) ≡ cond (has_rows n bytes) (Some (rows_in n bytes)) None
rows_whole n bytes xs k i e f l h =
    let there : 8 * rows_after n ≤ length bytes = omega arith in
    let none : k - i ≡ 0 = omega arith in
    let same : xs ≡ words k bytes = h ∙ ap (λ (j : ℕ). words i bytes ++ replicate j 0) none ∙ append-nil (words i bytes) ∙ ap (λ (j : ℕ). words j bytes) f in
    ap Some (ap₂ ◌++◌ same (drop-replicate k 64 0) ∙ ap (λ (j : ℕ). words j bytes ++ replicate (64 - j) 0) e)
    ∙ sym (cond-true (has_rows n bytes) _ _ (le-leb _ _ there))
