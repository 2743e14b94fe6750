-- Numbers as bytes and bytes as numbers, for every number of bytes. Assumes nothing.
use Rattle.std.proofs.Common.{◌≡◌, ℕ, zero, suc, ◌+◌, ◌*◌, ◌/◌, ◌%◌, ◌^◌, ◌<◌, ◌≤◌, List, [], ◌∷◌, length, get_or, take, drop, sym, refl, ap, ◌∙◌, ap₂, add-zero, pow-suc, add-one, arith, drop-cons}
use native.Mathlib.Nat.{div-div-eq-div-mul}
use Rattle.codes.specs.Bytes.{little_endian, bytes_of}

-- the number that stands at a place depends on the bytes from there on
pub number_same : (k : ℕ) (xs ys : List ℕ) (p q : ℕ) → ((j : ℕ) → get_or xs (p + j) 0 ≡ get_or ys (q + j) 0) → little_endian k xs p ≡ little_endian k ys q
number_same zero xs ys p q h = refl
number_same (suc k) xs ys p q h =
    let here : get_or xs p 0 ≡ get_or ys q 0 = ap (λ i. get_or xs i 0) (sym (add-zero p)) ∙ (h 0 ∙ ap (λ i. get_or ys i 0) (add-zero q)) in
    let further : (zs : List ℕ) (r j : ℕ) → get_or zs (r + 1 + j) 0 ≡ get_or zs (r + (1 + j)) 0 = λ zs r j. let e : r + 1 + j ≡ r + (1 + j) = omega arith in ap (λ i. get_or zs i 0) e in
    let there = number_same k xs ys (p + 1) (q + 1) (λ j. further xs p j ∙ (h (1 + j) ∙ sym (further ys q j))) in
    ap₂ (λ (a b : ℕ). a + 256 * b) here there

-- past the first byte
number_past : (k y : ℕ) (ys : List ℕ) → little_endian k (y ∷ ys) 1 ≡ little_endian k ys 0
number_past k y ys = number_same k (y ∷ ys) ys 1 0 (λ j. let e : 1 + j ≡ suc j = omega arith in let f : 0 + j ≡ j = omega arith in ap (λ i. get_or (y ∷ ys) i 0) e ∙ sym (ap (λ i. get_or ys i 0) f))

-- a number that k bytes can hold is the number of its bytes
pub number_back : (k x : ℕ) → x < 256 ^ k → little_endian k (bytes_of k x) 0 ≡ x
number_back zero x h = omega arith
number_back (suc k) x h =
    let less : x / 256 < 256 ^ k = omega (arith, pow-suc 256 k) in
    let rest = number_past k (x % 256) (bytes_of k (x / 256)) ∙ number_back k (x / 256) less in
    ap (λ (r : ℕ). x % 256 + 256 * r) rest ∙ omega arith

-- the bytes of a number that was read are those that it was read from
pub bytes_back : (k : ℕ) (bs : List ℕ) (p : ℕ) → ((i : ℕ) → get_or bs i 0 < 256) → p + k ≤ length bs → bytes_of k (little_endian k bs p) ≡ take k (drop p bs)
bytes_back zero bs p b h = refl
bytes_back (suc k) bs p b h =
    let r : ℕ = little_endian k bs (p + 1) in
    let l = b p in
    let low : (get_or bs p 0 + 256 * r) % 256 ≡ get_or bs p 0 = omega arith in
    let high : (get_or bs p 0 + 256 * r) / 256 ≡ r = omega arith in
    let inside : p < length bs = omega arith in
    let rest = ap (bytes_of k) high ∙ (bytes_back k bs (p + 1) b (omega arith) ∙ ap (λ i. take k (drop i bs)) (add-one p)) in
    ap₂ (λ (x : ℕ) (xs : List ℕ). x ∷ xs) low rest ∙ ap (take (suc k)) (sym (drop-cons bs p 0 inside))

-- four and eight bytes, by their weights
pub four_bytes : (x : ℕ) → (x % 256) ∷ (x / 256 % 256) ∷ (x / 65536 % 256) ∷ (x / 16777216 % 256) ∷ [] ≡ bytes_of 4 x
four_bytes x =
    let a : x / 65536 ≡ x / 256 / 256 = sym (div-div-eq-div-mul x 256 256) in
    let b : x / 16777216 ≡ x / 65536 / 256 = sym (div-div-eq-div-mul x 65536 256) in
    cc

pub eight_bytes : (x : ℕ) → (x % 256) ∷ (x / 256 % 256) ∷ (x / 65536 % 256) ∷ (x / 16777216 % 256) ∷ (x / 4294967296 % 256) ∷ (x / 1099511627776 % 256) ∷ (x / 281474976710656 % 256) ∷ (x / 72057594037927936 % 256) ∷ [] ≡ bytes_of 8 x
eight_bytes x =
    let a : x / 65536 ≡ x / 256 / 256 = sym (div-div-eq-div-mul x 256 256) in
    let b : x / 16777216 ≡ x / 65536 / 256 = sym (div-div-eq-div-mul x 65536 256) in
    let c : x / 4294967296 ≡ x / 16777216 / 256 = sym (div-div-eq-div-mul x 16777216 256) in
    let d : x / 1099511627776 ≡ x / 4294967296 / 256 = sym (div-div-eq-div-mul x 4294967296 256) in
    let e : x / 281474976710656 ≡ x / 1099511627776 / 256 = sym (div-div-eq-div-mul x 1099511627776 256) in
    let f : x / 72057594037927936 ≡ x / 281474976710656 / 256 = sym (div-div-eq-div-mul x 281474976710656 256) in
    cc
