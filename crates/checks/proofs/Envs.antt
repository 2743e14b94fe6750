-- The types of the binders.
use Rattle.std.proofs.Common.{◌≡◌, ℕ, zero, suc, ◌-◌, ◌<◌, ◌≤◌, List, ◌∷◌, length, get_or, set, refl, ap, ◌∙◌, ap₂, arith}
use Rattle.std.proofs.lemmas.List.{get_or-set_same, get_or-set_other}
use Rattle.checks.specs.Frames.{env}

pub env_same : (bs : List ℕ) (d x k : ℕ) → k ≤ d → env (set bs d x) k ≡ env bs k
env_same bs d x zero h = refl
env_same bs d x (suc k) h = ap₂ ◌∷◌ (get_or-set_other bs d k x 0 (omega arith)) (env_same bs d x k (omega arith))

pub env_more : (bs : List ℕ) (d x : ℕ) → d < length bs → env (set bs d x) (suc d) ≡ x ∷ env bs d
env_more bs d x l = ap₂ ◌∷◌ (get_or-set_same bs d x 0 l) (env_same bs d x d (omega arith))

pub env_at : (bs : List ℕ) (d i : ℕ) → i < d → get_or (env bs d) i 0 ≡ get_or bs ((d - 1) - i) 0
env_at bs zero i h = let z : ⊥ = omega arith in absurd z
env_at bs (suc d) zero h = let e : d ≡ (suc d - 1) - 0 = omega arith in ap (λ k. get_or bs k 0) e
env_at bs (suc d) (suc i) h =
    let e : (d - 1) - i ≡ (suc d - 1) - suc i = omega arith in
    env_at bs d i (omega arith) ∙ ap (λ k. get_or bs k 0) e

pub env_low : (bs : List ℕ) (u d i : ℕ) → i < d → ((k : ℕ) → k < d → get_or bs k 0 < u) → get_or (env bs d) i 0 < u
env_low bs u d i h low = let e = env_at bs d i h in let l = low ((d - 1) - i) (omega arith) in omega arith
