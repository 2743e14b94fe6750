-- A vector as a stack: its elements, the last one first.
use Rattle.std.proofs.Common.{◌≡◌, ◌+◌, List, [], ◌∷◌, ◌++◌, length, Some, refl, ap, ◌∙◌, arith}
use Rattle.std.specs.Option.{option_to_list}

module _ {A : Type 0} where
  -- xs pushed in turn
  abbrev pub onto : List A → List A → List A
  onto st [] = st
  onto st (x ∷ xs) = onto (x ∷ st) xs

  abbrev pub stack : List A → List A
  stack xs = onto [] xs

  pub onto_both : (st xs ys : List A) → onto st (xs ++ ys) ≡ onto (onto st xs) ys
  onto_both st [] ys = refl
  onto_both st (x ∷ xs) ys = onto_both (x ∷ st) xs ys

  -- what was pushed
  pub pushed : (xs ys zs : List A) → zs ≡ xs ++ ys → stack zs ≡ onto (stack xs) ys
  pushed xs ys zs q = ap (onto []) q ∙ onto_both [] xs ys

  -- what was popped
  pub popped : (x : A) (xs zs : List A) → zs ≡ xs ++ option_to_list (Some x) → stack zs ≡ x ∷ stack xs
  popped x xs zs q = pushed xs (x ∷ []) zs q

  pub pushed_two : (a b : A) (xs ys zs : List A) → ys ≡ xs ++ a ∷ [] → zs ≡ ys ++ b ∷ [] → stack zs ≡ b ∷ a ∷ stack xs
  pushed_two a b xs ys zs p q = pushed ys (b ∷ []) zs q ∙ ap (λ z. b ∷ z) (pushed xs (a ∷ []) ys p)

  onto_length : (st xs : List A) → length (onto st xs) ≡ length st + length xs
  onto_length st [] = omega arith
  onto_length st (x ∷ xs) = omega (arith, onto_length (x ∷ st) xs)

  pub stack_length : (xs : List A) → length (stack xs) ≡ length xs
  stack_length xs = omega (arith, onto_length [] xs)
