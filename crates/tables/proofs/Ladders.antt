-- A ladder's rungs.
use Rattle.std.proofs.Common.{◌≡◌, ℕ, zero, suc, ◌+◌, ◌<◌, ◌⊎◌, List, [], ◌∷◌, ◌++◌, length, get_or, refl, ap, ◌∙◌, inl, inr, arith}
use Rattle.std.proofs.lemmas.List.{length_push, get_or_push, get_or_append_left}
use Rattle.std.proofs.lemmas.Bool.{cases_eq}
use Rattle.tables.specs.Ladder.{ladder, rung}

pub length_ladder : {X : Type 0} (f : ℕ → List X → X) (n : ℕ) → length (ladder f n) ≡ n
length_ladder f zero = refl
length_ladder f (suc n) = let h = length_ladder f n in omega (arith, length_push (ladder f n) (f n (ladder f n)))

-- a place of a ladder is its rung, however long the ladder is
pub get_or_ladder : {X : Type 0} (f : ℕ → List X → X) (n k : ℕ) (d : X) → k < n → get_or (ladder f n) k d ≡ rung f k
get_or_ladder f zero k d h = let z : ⊥ = omega arith in absurd z
get_or_ladder {X} f (suc n) k d h = go (λ l. get_or_ladder f n k d l) (cases_eq k n)
  where
    len : length (ladder f n) ≡ n
    len = length_ladder f n

    go : (k < n → get_or (ladder f n) k d ≡ rung f k) → (k ≡ n) ⊎ (k ≡ n → ⊥) → get_or (ladder f (suc n)) k d ≡ rung f k
    go ih (inl e) = rw e (get_or_push (ladder f n) (f n (ladder f n)) d n len)
    go ih (inr ne) =
        let lt : k < length (ladder f n) = omega (arith, len) in
        get_or_append_left (ladder f n) (f n (ladder f n) ∷ []) d k lt ∙ ih (omega arith)

-- a ladder depends only on the steps below it
pub ladder_same : {X : Type 0} (f g : ℕ → List X → X) (n : ℕ) → ((k : ℕ) → k < n → f k ≡ g k) → ladder f n ≡ ladder g n
ladder_same f g zero h = refl
ladder_same f g (suc n) h =
    let ih = ladder_same f g n (λ k l. h k (omega arith)) in
    ap (λ l. l ++ (f n l ∷ [])) ih ∙ ap (λ s. ladder g n ++ (s (ladder g n) ∷ [])) (h n (omega arith))

pub rung_same : {X : Type 0} (f g : ℕ → List X → X) (n : ℕ) → ((k : ℕ) → k < n + 1 → f k ≡ g k) → rung f n ≡ rung g n
rung_same f g n h =
    ap (f n) (ladder_same f g n (λ k l. h k (omega arith))) ∙ ap (λ s. s (ladder g n)) (h n (omega arith))
