-- The image of the entries that an image holds.
use Rattle.std.proofs.Common.{◌≡◌, ℕ, zero, suc, ◌+◌, ◌*◌, ◌≤◌, List, [], ◌++◌, length, get_or, take, drop, sym, refl, ap, ◌∙◌, ap₂, add-one, arith}
use Rattle.std.proofs.Math.Seq.{take-add}
use Rattle.std.specs.List.{range_with_len, flat_map}
use Rattle.std.proofs.lemmas.Simd.{map-map}
use Rattle.std.proofs.lemmas.List.FromFn.{fill_by_all, length-map-range_with_len, map-range_with_len_more}
use Rattle.std.proofs.lemmas.List.{length-take-le, length-drop, get_or-take, get_or-drop, drop-drop, take_all, flat_map_more}
use Rattle.codes.proofs.Numbers.{bytes_back}
use Rattle.tables.specs.declared.entry.Entry.{Entry}
use Rattle.jobs.specs.Image.{types_told, terms_told, image_length, entry_at, entries, operands_in, types_in, terms_in, bytes16, operand_bytes, tags, image}
use Rattle.rounds.specs.Rounds.{Bytes}

pub drop_bytes : (bs : List ℕ) (p : ℕ) → Bytes bs → Bytes (drop p bs)
drop_bytes bs p b k = rw (get_or-drop p bs k 0) (b (p + k))

-- the tags of the entries are the tags that they were read from
pub tags_same : (ts ops : List ℕ) (n : ℕ) → n ≤ length ts → tags (entries ts ops n) ≡ take n ts
tags_same ts ops n h =
    map-map (λ (e : Entry). e.tag) (entry_at ts ops) (range_with_len 0 n)
    ∙ sym (fill_by_all (λ k. get_or ts k 0) (take n ts) n 0 (length-take-le n ts h) (λ k l. get_or-take n ts k 0 l))

module _ (ts ops : List ℕ) (b : Bytes ops) where
  -- so are the operands of one entry
  operands_same : (k : ℕ) → 16 * k + 16 ≤ length ops → operand_bytes (entry_at ts ops k) ≡ take 16 (drop (16 * k) ops)
  operands_same k h =
      let p : ℕ = 16 * k in
      ap₂ (λ (x y : List ℕ). x ++ y) (ap₂ (λ (x y : List ℕ). x ++ y) (bytes_back 4 ops p b (omega arith)) (bytes_back 4 ops (p + 4) b (omega arith))) (bytes_back 8 ops (p + 8) b (omega arith))
      ∙ (ap₂ (λ (x y : List ℕ). take 4 (drop p ops) ++ take 4 x ++ take 8 y) (sym (drop-drop 4 p ops)) (sym (drop-drop 8 p ops))
      ∙ (ap (λ x. x ++ take 8 (drop 8 (drop p ops))) (sym (take-add 4 4 (drop p ops))) ∙ sym (take-add 8 8 (drop p ops))))

  -- and of all of them
  pub table_same : (n : ℕ) → 16 * n ≤ length ops → flat_map operand_bytes (entries ts ops n) ≡ take (16 * n) ops
  table_same zero h = refl
  table_same (suc n) h =
      let e : 16 * n + 16 ≡ 16 * suc n = omega arith in
      ap (flat_map operand_bytes) (ap (entries ts ops) (sym (add-one n)) ∙ map-range_with_len_more (entry_at ts ops) 0 n n (omega arith))
      ∙ (sym (flat_map_more operand_bytes [] (entries ts ops n) (entry_at ts ops n))
      ∙ (ap₂ (λ (x y : List ℕ). x ++ y) (table_same n (omega arith)) (operands_same n (omega arith))
      ∙ (sym (take-add (16 * n) 16 ops) ∙ ap (λ k. take k ops) e)))

-- an image of the right length is the image of its entries
module _ (bs : List ℕ) (t n : ℕ) (b : Bytes bs) (et : types_told bs ≡ t) (en : terms_told bs ≡ n) (l : length bs ≡ image_length t n) where
  long : length (operands_in bs t n) ≡ 16 * t + 16 * n
  long = length-drop (4 + t + n) bs ∙ omega arith

  counts : bytes16 (length (types_in bs t n)) ++ bytes16 (length (terms_in bs t n)) ≡ take 4 bs
  counts =
      ap₂ (λ (x y : List ℕ). x ++ y) (ap bytes16 (length-map-range_with_len _ 0 t ∙ sym et) ∙ bytes_back 2 bs 0 b (omega arith)) (ap bytes16 (length-map-range_with_len _ 0 n ∙ sym en) ∙ bytes_back 2 bs 2 b (omega arith))
      ∙ sym (take-add 2 2 bs)

  tagged : bytes16 (length (types_in bs t n)) ++ bytes16 (length (terms_in bs t n)) ++ tags (types_in bs t n) ++ tags (terms_in bs t n) ≡ take (4 + t + n) bs
  tagged =
      ap₂ (λ (x y : List ℕ). x ++ y) (ap₂ (λ (x y : List ℕ). x ++ y) counts (tags_same (drop 4 bs) (operands_in bs t n) t (omega (arith, length-drop 4 bs))) ∙ sym (take-add 4 t bs)) (tags_same (drop (4 + t) bs) (drop (16 * t) (operands_in bs t n)) n (omega (arith, length-drop (4 + t) bs)))
      ∙ sym (take-add (4 + t) n bs)

  pub image_same : image (types_in bs t n) (terms_in bs t n) ≡ bs
  image_same =
      let w = long in
      let first = table_same (drop 4 bs) (operands_in bs t n) (drop_bytes bs (4 + t + n) b) t (omega arith) in
      let second = table_same (drop (4 + t) bs) (drop (16 * t) (operands_in bs t n)) (drop_bytes (operands_in bs t n) (16 * t) (drop_bytes bs (4 + t + n) b)) n (omega (arith, length-drop (16 * t) (operands_in bs t n))) in
      ap₂ (λ (x y : List ℕ). x ++ y) (ap₂ (λ (x y : List ℕ). x ++ y) tagged first ∙ sym (take-add (4 + t + n) (16 * t) bs)) (second ∙ ap (take (16 * n)) (drop-drop (16 * t) (4 + t + n) bs))
      ∙ (sym (take-add (4 + t + n + 16 * t) (16 * n) bs) ∙ take_all (4 + t + n + 16 * t + 16 * n) bs (omega arith))
