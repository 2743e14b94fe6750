-- Bytes put one after another.
use Rattle.std.proofs.Common.{◌≡◌, ℕ, ◌+◌, List, ◌++◌, take, ap, ◌∙◌, arith}
use Rattle.std.proofs.lemmas.List.{append_assoc}
use Rattle.tables.specs.declared.entry.Entry.{Entry}
use Rattle.jobs.specs.Image.{bytes32, bytes64, operand_bytes}

-- the operands of an entry, one after another
pub operands_put : (o0 o1 o2 o3 a b d : List ℕ) (p : ℕ) (e : Entry) → a ≡ bytes32 e.first → b ≡ bytes32 e.second → d ≡ bytes64 e.third → take (p + 4) o1 ≡ take p o0 ++ a → take (p + 4 + 4) o2 ≡ take (p + 4) o1 ++ b → take (p + 8 + 8) o3 ≡ take (p + 8) o2 ++ d → take (p + 16) o3 ≡ take p o0 ++ operand_bytes e
operands_put o0 o1 o2 o3 a b d p e ea eb ed h1 h2 h3 =
    let far : p + 16 ≡ p + 8 + 8 = omega arith in
    let mid : p + 8 ≡ p + 4 + 4 = omega arith in
    let two : take (p + 8) o2 ≡ take p o0 ++ a ++ b = ap (λ k. take k o2) mid ∙ (h2 ∙ ap (λ l. l ++ b) h1) in
    let all : take (p + 16) o3 ≡ take p o0 ++ a ++ b ++ d = ap (λ k. take k o3) far ∙ (h3 ∙ ap (λ l. l ++ d) two) in
    all ∙ (ap (λ l. l ++ d) (append_assoc (take p o0) a b)
    ∙ (append_assoc (take p o0) (a ++ b) d
    ∙ (λ i. take p o0 ++ (ea i ++ eb i ++ ed i))))
