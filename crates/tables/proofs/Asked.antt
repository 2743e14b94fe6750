-- How a scan goes on, where it stops, and what it has found when it comes to the end.
use Rattle.std.proofs.Common.{◌≡◌, ℕ, zero, suc, ◌+◌, ◌-◌, ◌<◌, Bool, true, false, Ok, Err, sym, refl, ap, ◌∙◌, add-zero, arith}
use Rattle.tables.specs.declared.fault.FormFault.{FormFault}
use Rattle.tables.specs.Asking.{Asked, Answer, asks, and_then, of_each}

each_more : (ask : ℕ → Answer) (n i : ℕ) → i < n → of_each ask (n - i) i ≡ and_then (ask i) (of_each ask (n - (i + 1)) (i + 1))
each_more ask n i h = let e : n - i ≡ suc (n - (i + 1)) = omega arith in ap (λ k. of_each ask k i) e

-- past an entry that answered with yes
pub each_ok : (ask : ℕ → Answer) (n i : ℕ) (u : Unit {0}) → i < n → Ok u ≡ ask i → of_each ask (n - i) i ≡ of_each ask (n - (i + 1)) (i + 1)
each_ok ask n i u h e = each_more ask n i h ∙ ap (λ r. and_then r (of_each ask (n - (i + 1)) (i + 1))) (sym e)

-- at the first no
pub each_err : (ask : ℕ → Answer) (n i : ℕ) (f : FormFault) → i < n → Err f ≡ ask i → of_each ask (n - i) i ≡ Err f
each_err ask n i f h e = each_more ask n i h ∙ ap (λ r. and_then r (of_each ask (n - (i + 1)) (i + 1))) (sym e)

pub and_ok : {F : Type 0} (a b : Asked F) (u : Unit {0}) → Ok u ≡ a → and_then a b ≡ b
and_ok a b u e = ap (λ r. and_then r b) (sym e)

pub and_err : {F : Type 0} (a b : Asked F) (f : F) → Err f ≡ a → and_then a b ≡ Err f
and_err a b f e = ap (λ r. and_then r b) (sym e)

pub and_first : {F : Type 0} (a b : Asked F) → and_then a b ≡ Ok tt → a ≡ Ok tt
and_first (Ok u) b h = refl
and_first (Err f) b h = h

pub and_second : {F : Type 0} (a b : Asked F) → and_then a b ≡ Ok tt → b ≡ Ok tt
and_second (Ok u) b h = h
and_second (Err f) b h = cc

pub asks_yes : {F : Type 0} (b : Bool) (f : F) → asks b f ≡ Ok tt → b ≡ true
asks_yes true f h = refl
asks_yes false f h = cc

-- a scan that ends with yes had a yes from each
pub each_yes : (ask : ℕ → Answer) (k i : ℕ) → of_each ask k i ≡ Ok tt → (j : ℕ) → j < k → ask (i + j) ≡ Ok tt
each_yes ask zero i h j l = let z : ⊥ = omega arith in absurd z
each_yes ask (suc k) i h zero l = rw (add-zero i) (and_first (ask i) (of_each ask k (i + 1)) h)
each_yes ask (suc k) i h (suc j) l =
    let e : i + suc j ≡ i + 1 + j = omega arith in
    rw e (each_yes ask k (i + 1) (and_second (ask i) (of_each ask k (i + 1)) h) j (omega arith))
