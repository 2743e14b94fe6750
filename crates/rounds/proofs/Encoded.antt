-- The entries that an image of entries holds.
use Rattle.std.proofs.Common.{◌≡◌, ℕ, zero, suc, ◌+◌, ◌-◌, ◌*◌, ◌<◌, List, [], ◌∷◌, ◌++◌, map, length, get_or, take, drop, sym, refl, ap, ◌∙◌, ap₂, add-one, arith, lit<}
use Rattle.std.specs.List.{range_with_len, flat_map}
use Rattle.std.proofs.lemmas.List.{append_assoc, append-nil, length-append, length-map, get_or-append_right, drop-drop, drop_at}
use Rattle.codes.proofs.Numbers.{number_same, number_back}
use Rattle.tables.specs.declared.entry.Entry.{Entry}
use Rattle.tables.specs.Entries.{at}
use Rattle.jobs.specs.Image.{types_told, terms_told, image_length, entry_at, entries, operands_in, types_in, terms_in, number32, number64, operand_bytes, tags, image}
use Rattle.rounds.specs.Rounds.{Fits, Fit}

map_same : {X Y : Type 0} (f g : X → Y) (xs : List X) → ((x : X) → f x ≡ g x) → map f xs ≡ map g xs
map_same f g [] h = refl
map_same f g (x ∷ xs) h = ap₂ (λ y ys. y ∷ ys) (h x) (map_same f g xs h)

shift : {X : Type 0} (f : ℕ → X) (a n : ℕ) → map f (range_with_len (a + 1) n) ≡ map (λ k. f (k + 1)) (range_with_len a n)
shift f a zero = refl
shift f a (suc n) = ap (λ l. f (a + 1) ∷ l) (shift f (a + 1) n)

-- past the 16 bytes of an entry
past : (o ops : List ℕ) → length o ≡ 16 → (q r : ℕ) → q ≡ 16 + r → get_or (o ++ ops) q 0 ≡ get_or ops r 0
past o ops h q r e =
    let m : q - 16 ≡ r = omega arith in get_or-append_right o ops 16 q 0 h (omega arith) ∙ ap (λ k. get_or ops k 0) m

next : (x : ℕ) (ts o ops : List ℕ) → length o ≡ 16 → (k : ℕ) → entry_at (x ∷ ts) (o ++ ops) (k + 1) ≡ entry_at ts ops k
next x ts o ops h k =
    let a : get_or (x ∷ ts) (k + 1) 0 ≡ get_or ts k 0 = ap (λ j. get_or (x ∷ ts) j 0) (add-one k) in
    let b : number32 (o ++ ops) (16 * (k + 1)) ≡ number32 ops (16 * k) = number_same 4 (o ++ ops) ops (16 * (k + 1)) (16 * k) (λ j. past o ops h _ _ (omega arith)) in
    let c : number32 (o ++ ops) (16 * (k + 1) + 4) ≡ number32 ops (16 * k + 4) = number_same 4 (o ++ ops) ops (16 * (k + 1) + 4) (16 * k + 4) (λ j. past o ops h _ _ (omega arith)) in
    let d : number64 (o ++ ops) (16 * (k + 1) + 8) ≡ number64 ops (16 * k + 8) = number_same 8 (o ++ ops) ops (16 * (k + 1) + 8) (16 * k + 8) (λ j. past o ops h _ _ (omega arith)) in
    λ i. record { tag = a i; first = b i; second = c i; third = d i }

here : (e : Entry) (ts ops : List ℕ) → Fits e → entry_at (e.tag ∷ ts) (operand_bytes e ++ ops) 0 ≡ e
here e ts ops f =
    λ i. record { tag = e.tag; first = number_back 4 e.first f.first i; second = number_back 4 e.second f.second i; third = number_back 8 e.third f.third i }

-- the entries whose tags and operands stand at the front
pub entries_back : (es : List Entry) (r s : List ℕ) → Fit es → entries (tags es ++ r) (flat_map operand_bytes es ++ s) (length es) ≡ es
entries_back [] r s f = refl
entries_back (e ∷ es) r s f =
    ap₂ (λ (x : Entry) (xs : List Entry). x ∷ xs) (here e (tags es ++ r) (flat_map operand_bytes es ++ s) (f 0))
    (shift (entry_at (e.tag ∷ (tags es ++ r)) (operand_bytes e ++ (flat_map operand_bytes es ++ s))) 0 (length es)
    ∙ (map_same _ (entry_at (tags es ++ r) (flat_map operand_bytes es ++ s)) (range_with_len 0 (length es)) (next e.tag (tags es ++ r) (operand_bytes e) (flat_map operand_bytes es ++ s) refl)
    ∙ entries_back es r s (λ k. f (suc k))))

pub length_operands : (es : List Entry) → length (flat_map operand_bytes es) ≡ 16 * length es
length_operands [] = refl
length_operands (e ∷ es) = length-append (operand_bytes e) (flat_map operand_bytes es) ∙ omega (arith, length_operands es)

-- the entries of a front fit where those of the table do
pub fit_take : (es : List Entry) (k : ℕ) → Fit es → Fit (take k es)
fit_take es zero f = λ j. record { tag = lit< tt; first = lit< tt; second = lit< tt; third = lit< tt }
fit_take [] (suc k) f = f
fit_take (e ∷ es) (suc k) f = go (fit_take es k (λ i. f (suc i)))
  where
    go : Fit (take k es) → (j : ℕ) → Fits (at (e ∷ take k es) j)
    go ih zero = f 0
    go ih (suc j) = ih j

module _ (T M : List Entry) where
  abbrev JT : List ℕ
  JT = flat_map operand_bytes T

  abbrev JM : List ℕ
  JM = flat_map operand_bytes M

  -- what follows the counts, the tags of the types, and all tags
  body : drop 4 (image T M) ≡ tags T ++ (tags M ++ (JT ++ JM))
  body = append_assoc (tags T ++ tags M) JT JM ∙ append_assoc (tags T) (tags M) (JT ++ JM)

  after_types : drop (4 + length T) (image T M) ≡ tags M ++ (JT ++ JM)
  after_types =
      sym (drop-drop (length T) 4 (image T M)) ∙ (ap (drop (length T)) body ∙ drop_at (tags T) (tags M ++ (JT ++ JM)) (length T) (length-map T (λ e. e.tag)))

  after_tags : operands_in (image T M) (length T) (length M) ≡ JT ++ JM
  after_tags =
      sym (drop-drop (length M) (4 + length T) (image T M)) ∙ (ap (drop (length M)) after_types ∙ drop_at (tags M) (JT ++ JM) (length M) (length-map M (λ e. e.tag)))

  pub types_back : Fit T → types_in (image T M) (length T) (length M) ≡ T
  types_back f =
      ap₂ (λ (x y : List ℕ). entries x y (length T)) body after_tags ∙ entries_back T (tags M ++ (JT ++ JM)) JM f

  pub terms_back : Fit M → terms_in (image T M) (length T) (length M) ≡ M
  terms_back f =
      ap₂ (λ (x y : List ℕ). entries x y (length M)) after_types (ap (drop (16 * length T)) after_tags ∙ (drop_at JT JM (16 * length T) (length_operands T) ∙ sym (append-nil JM)))
      ∙ entries_back M (JT ++ JM) [] f

  pub types_told_back : length T < 65536 → types_told (image T M) ≡ length T
  types_told_back h = number_back 2 (length T) h

  pub terms_told_back : length M < 65536 → terms_told (image T M) ≡ length M
  terms_told_back h = number_back 2 (length M) h

  pub length_image : length (image T M) ≡ image_length (length T) (length M)
  length_image =
      let a : length (drop 4 (image T M)) ≡ length T + (length M + (16 * length T + 16 * length M)) = ap length body ∙ (length-append (tags T) (tags M ++ (JT ++ JM)) ∙ ap₂ (λ (x y : ℕ). x + y) (length-map T (λ e. e.tag)) (length-append (tags M) (JT ++ JM) ∙ ap₂ (λ (x y : ℕ). x + y) (length-map M (λ e. e.tag)) (length-append JT JM ∙ ap₂ (λ (x y : ℕ). x + y) (length_operands T) (length_operands M)))) in
      let b : length (image T M) ≡ suc (suc (suc (suc (length (drop 4 (image T M)))))) = refl in
      b ∙ omega arith
