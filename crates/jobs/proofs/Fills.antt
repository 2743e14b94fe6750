-- A table filled from below.
use Rattle.std.proofs.Common.{◌≡◌, ℕ, ◌+◌, ◌<◌, List, [], ◌∷◌, ◌++◌, map, length, get_or, drop, set, sym, ap, ◌∙◌, arith}
use Rattle.std.specs.List.{range_with_len}
use Rattle.std.proofs.lemmas.List.FromFn.{length-map-range_with_len, map-range_with_len_more}
use Rattle.std.proofs.lemmas.List.{drop_more, set_at, append_assoc}

-- one place more
pub fill_more : {X : Type 0} (f : ℕ → X) (xs : List X) (i : ℕ) (d : X) → i < length xs → set (map f (range_with_len 0 i) ++ drop i xs) i (f i) ≡ map f (range_with_len 0 (i + 1)) ++ drop (i + 1) xs
fill_more f xs i d h =
    ap (λ l. set (map f (range_with_len 0 i) ++ l) i (f i)) (drop_more xs i d h)
    ∙ (set_at (map f (range_with_len 0 i)) (get_or xs i d) (drop (i + 1) xs) (f i) i (length-map-range_with_len f 0 i)
    ∙ (sym (append_assoc (map f (range_with_len 0 i)) (f i ∷ []) (drop (i + 1) xs))
    ∙ ap (λ l. l ++ drop (i + 1) xs) (sym (map-range_with_len_more f 0 i i (omega arith)))))
