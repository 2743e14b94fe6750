-- The laws of a hierarchy, bit by bit. Assumes nothing.
use Rattle.std.specs.Prelude.{◌≡◌, ℕ, ◌-◌, ◌^◌, ◌<◌, ◌≤◌, min, true, ◌&&◌, ◌⊎◌, List, nat_le, nat_lt}
use Rattle.std.proofs.Common.{inl, inr, arith, le_trans, pow_pos, pow_mono}
use Rattle.std.specs.Int.Bits.{bit_and, bit_or, and_zero_r}
use Rattle.std.proofs.lemmas.Nat.{and_le_l, or_lt}
use Rattle.std.proofs.lemmas.Bool.{and_parts, and_from, leb-true, ltb-true, lt-ltb, eqb-true, eq-eqb}
use Rattle.roles.specs.Meaning.{Lawful}
use Rattle.roles.proofs.Guarding.{Raw, guarded_lawful}
use Rattle.codes.specs.Bits.{bit, holds_bit, superset, outside}
use Rattle.codes.proofs.Digits.{bit-and, bit-or, bit_outside, bit_cases, zero_bit, same_bits, superset_bits, superset_by}
use Rattle.hierarchies.specs.Kind.{every, row, closed, row_sound, joined_rows, hierarchy_frame, hierarchy}
use Rattle.hierarchies.specs.Every.{every_at}
use Rattle.hierarchies.specs.Rows.{row_held, closed_by, joined_from, joined_has, joined_lt}

-- if a has each bit that b has
under : (k a b : ℕ) → (bit k b ≡ 1 → bit k a ≡ 1) → bit k b ≤ bit k a
under k a b f = pick (bit_cases k b)
  where
    pick : (bit k b ≡ 1) ⊎ (bit k b ≡ 0) → bit k b ≤ bit k a
    pick (inl e) = omega (arith, f e)
    pick (inr e) = omega arith

module _ (n : ℕ) (rows : List ℕ) (s : ((nat_le 1 n && nat_le n 64) && every n (row_sound n rows)) ≡ true) where
  size : (nat_le 1 n && nat_le n 64) ≡ true
  size = (and_parts (nat_le 1 n && nat_le n 64) (every n (row_sound n rows)) s).0

  high : n ≤ 64
  high = leb-true n 64 (and_parts _ _ size).1

  row_at : (i : ℕ) → i < n → row_sound n rows i ≡ true
  row_at i l = every_at n (row_sound n rows) (and_parts (nat_le 1 n && nat_le n 64) (every n (row_sound n rows)) s).1 i l

  row_parts : (i : ℕ) → i < n → (holds_bit (row rows i) i ≡ true) × ((nat_lt (row rows i) (2 ^ n) && closed n rows (row rows i)) ≡ true)
  row_parts i l = and_parts (holds_bit (row rows i) i) (nat_lt (row rows i) (2 ^ n) && closed n rows (row rows i)) (row_at i l)

  own : (i : ℕ) → i < n → bit i (row rows i) ≡ 1
  own i l = eqb-true _ _ (row_parts i l).0

  row_lt : (i : ℕ) → i < n → row rows i < 2 ^ n
  row_lt i l = ltb-true _ _ (and_parts (nat_lt (row rows i) (2 ^ n)) (closed n rows (row rows i)) (row_parts i l).1).0

  row_closed : (i : ℕ) → i < n → closed n rows (row rows i) ≡ true
  row_closed i l = (and_parts (nat_lt (row rows i) (2 ^ n)) (closed n rows (row rows i)) (row_parts i l).1).1

  below : (a : ℕ) → (nat_lt a (2 ^ n) && closed n rows a) ≡ true → a < 2 ^ n
  below a e = ltb-true a (2 ^ n) (and_parts (nat_lt a (2 ^ n)) (closed n rows a) e).0

  word : (a : ℕ) → (nat_lt a (2 ^ n) && closed n rows a) ≡ true → a < 2 ^ 64
  word a e = let h = high in omega (arith, below a e, pow_mono h)

  -- a role that holds bit j holds the bits of row j
  juniors : (a : ℕ) → (nat_lt a (2 ^ n) && closed n rows a) ≡ true → (j : ℕ) → j < n → bit j a ≡ 1 → (k : ℕ) → bit k (row rows j) ≤ bit k a
  juniors a e j l h = superset_bits a (row rows j) (row_held n rows a (and_parts (nat_lt a (2 ^ n)) (closed n rows a) e).1 j l h)

  is_role : (a : ℕ) → a < 2 ^ n → ((j : ℕ) → j < n → bit j a ≡ 1 → (k : ℕ) → bit k (row rows j) ≤ bit k a) → (nat_lt a (2 ^ n) && closed n rows a) ≡ true
  is_role a l h = and_from _ _ (lt-ltb a (2 ^ n) l) (closed_by n rows a (λ j m e. superset_by n a (row rows j) (row_lt j m) (λ k _. h j m e k)))

  or_juniors : (a b : ℕ) → (nat_lt a (2 ^ n) && closed n rows a) ≡ true → (nat_lt b (2 ^ n) && closed n rows b) ≡ true → (j : ℕ) → j < n → bit j (bit_or a b) ≡ 1 → (k : ℕ) → bit k (row rows j) ≤ bit k (bit_or a b)
  or_juniors a b p q j l h k = pick (bit_cases j a)
    where
      pick : (bit j a ≡ 1) ⊎ (bit j a ≡ 0) → bit k (row rows j) ≤ bit k (bit_or a b)
      pick (inl e) = omega (arith, bit-or k a b, juniors a p j l e k)
      pick (inr e) = let f : bit j b ≡ 1 = omega (arith, bit-or j a b) in omega (arith, bit-or k a b, juniors b q j l f k)

  and_juniors : (a b : ℕ) → (nat_lt a (2 ^ n) && closed n rows a) ≡ true → (nat_lt b (2 ^ n) && closed n rows b) ≡ true → (j : ℕ) → j < n → bit j (bit_and a b) ≡ 1 → (k : ℕ) → bit k (row rows j) ≤ bit k (bit_and a b)
  and_juniors a b p q j l h k =
      let x : bit j a ≡ 1 = omega (arith, bit-and j a b) in
      let y : bit j b ≡ 1 = omega (arith, bit-and j a b) in
      omega (arith, bit-and k a b, juniors a p j l x k, juniors b q j l y k)

  rest_lt : (c : ℕ) → joined_rows rows c n < 2 ^ n
  rest_lt c = joined_lt rows c n n row_lt

  rest_juniors : (c j : ℕ) → j < n → bit j (joined_rows rows c n) ≡ 1 → (k : ℕ) → bit k (row rows j) ≤ bit k (joined_rows rows c n)
  rest_juniors c j l h k =
      let f = joined_from rows c n j h in
      let g = joined_has rows c n f.j k f.within f.held in
      let r = superset_bits (row rows f.j) (row rows j) (row_held n rows _ (row_closed f.j f.within) j l f.has) k in
      le_trans r g

  lacks : (b a k : ℕ) → k < n → (nat_lt a (2 ^ n) && closed n rows a) ≡ true → bit k (outside b a) ≡ min (bit k b) (1 - bit k a)
  lacks b a k l q = let h = high in bit_outside k b a (omega arith) (word a q)

  pub hierarchy_raw : Raw (hierarchy_frame n rows)
  hierarchy_raw = record {
    wide = (leb-true 1 n (and_parts _ _ size).0, high);
    fits = below;
    itself = λ a p. superset_by n a a (below a p) (λ k h. omega arith);
    trans = λ a b c p q r e f. superset_by n a c (below c r) (λ k h. omega (arith, superset_bits a b e k, superset_bits b c f k));
    anti = λ a b p q e f. same_bits n a b (below a p) (below b q) (λ k h. omega (arith, superset_bits a b e k, superset_bits b a f k));
    bottom_role = is_role 0 (pow_pos n) (λ j l e k. absurd (omega (arith, zero_bit j)));
    bottom_least = λ a p. eq-eqb (bit_and a 0) 0 (and_zero_r a);
    join_role = λ a b p q. is_role (bit_or a b) (or_lt n a b (below a p) (below b q)) (or_juniors a b p q);
    join_left = λ a b p q. superset_by n (bit_or a b) a (below a p) (λ k h. omega (arith, bit-or k a b));
    join_right = λ a b p q. superset_by n (bit_or a b) b (below b q) (λ k h. omega (arith, bit-or k a b));
    join_least = λ a b x p q r e f. superset_by n x (bit_or a b) (or_lt n a b (below a p) (below b q)) (λ k h. omega (arith, bit-or k a b, superset_bits x a e k, superset_bits x b f k));
    meet_role = λ a b p q. is_role (bit_and a b) (omega (arith, and_le_l a b, below a p)) (and_juniors a b p q);
    meet_left = λ a b p q. superset_by n a (bit_and a b) (omega (arith, and_le_l a b, below a p)) (λ k h. omega (arith, bit-and k a b));
    meet_right = λ a b p q. superset_by n b (bit_and a b) (omega (arith, and_le_l a b, below a p)) (λ k h. omega (arith, bit-and k a b));
    meet_greatest = λ a b x p q r e f. superset_by n (bit_and a b) x (below x r) (λ k h. omega (arith, bit-and k a b, superset_bits a x e k, superset_bits b x f k));
    remainder_role = λ b a p q. is_role (joined_rows rows (outside b a) n) (rest_lt (outside b a)) (rest_juniors (outside b a));
    remainder_enough = λ b a x p q r e. superset_by n (bit_or a x) b (below b p) (λ k h. enough b a x q e k h);
    remainder_needed = λ b a x p q r e. superset_by n x (joined_rows rows (outside b a) n) (rest_lt (outside b a)) (λ k h. under k x (joined_rows rows (outside b a) n) (needed b a x q r e k));
  }
    where
      enough : (b a x : ℕ) → (nat_lt a (2 ^ n) && closed n rows a) ≡ true → superset x (joined_rows rows (outside b a) n) ≡ true → (k : ℕ) → k < n → bit k b ≤ bit k (bit_or a x)
      enough b a x q e k h = pick (bit_cases k b) (bit_cases k a)
        where
          pick : (bit k b ≡ 1) ⊎ (bit k b ≡ 0) → (bit k a ≡ 1) ⊎ (bit k a ≡ 0) → bit k b ≤ bit k (bit_or a x)
          pick (inr i) j = omega arith
          pick (inl i) (inl j) = omega (arith, bit-or k a x)
          pick (inl i) (inr j) =
              let o : bit k (outside b a) ≡ 1 = omega (arith, lacks b a k h q) in
              omega (arith, bit-or k a x, superset_bits x (joined_rows rows (outside b a) n) e k, joined_has rows (outside b a) n k k h o, own k h)

      needed : (b a x : ℕ) → (nat_lt a (2 ^ n) && closed n rows a) ≡ true → (nat_lt x (2 ^ n) && closed n rows x) ≡ true → superset (bit_or a x) b ≡ true → (k : ℕ) → bit k (joined_rows rows (outside b a) n) ≡ 1 → bit k x ≡ 1
      needed b a x q r e k h =
          let f = joined_from rows (outside b a) n k h in
          let o = f.held in let g = f.has in
          let y : bit f.j x ≡ 1 = omega (arith, lacks b a f.j f.within q, superset_bits (bit_or a x) b e f.j, bit-or f.j a x) in
          omega (arith, juniors x r f.j f.within y k)

pub hierarchy_lawful : (n : ℕ) (rows : List ℕ) → Lawful (hierarchy n rows)
hierarchy_lawful n rows = guarded_lawful (hierarchy_frame n rows) (hierarchy_raw n rows)
