-- Two schemes side by side: one code holds a role of each. Assumes nothing.
use Rattle.std.specs.Prelude.{ℕ, ◌+◌, ◌*◌, ◌/◌, ◌%◌, ◌^◌, Bool, true, false, cond, ◌&&◌, Some, None, Option, nat_le}
use Rattle.roles.specs.Meaning.{Meaning}
use Rattle.roles.specs.Frame.{when}

-- Is the pair sound: both parts are, and their widths add to at most 64?
abbrev pub pair_sound : Meaning → Meaning → Bool
pair_sound m n = (m.sound && n.sound) && nat_le (m.width + n.width) 64

-- the first's part of a code, above the second's w bits
abbrev pub high : ℕ → ℕ → ℕ
high w c = c / 2 ^ w

-- the second's part of a code, its low w bits
abbrev pub low : ℕ → ℕ → ℕ
low w c = c % 2 ^ w

-- one code of two parts, the second in the low w bits
abbrev pub packed : ℕ → ℕ → ℕ → ℕ
packed w x y = x * 2 ^ w + y

-- two answers as one; nothing where either is absent
abbrev pub packed_answers : ℕ → Option ℕ → Option ℕ → Option ℕ
packed_answers w None y = None
packed_answers w (Some x) None = None
packed_answers w (Some x) (Some y) = Some (packed w x y)

-- the answer of a sound scheme; nothing of an unsound one
abbrev pub only : Bool → Option ℕ → Option ℕ
only true o = o
only false o = None

-- What a pair means: all goes part by part.
abbrev pub pair : Meaning → Meaning → Meaning
pair m n = record {
  role = λ c. pair_sound m n && (m.role (high n.width c) && n.role (low n.width c));
  dom = λ a b. pair_sound m n && (m.dom (high n.width a) (high n.width b) && n.dom (low n.width a) (low n.width b));
  sound = pair_sound m n;
  width = cond (pair_sound m n) (m.width + n.width) 64;
  bottom = cond (pair_sound m n) (packed n.width m.bottom n.bottom) 0;
  join = λ a b. only (pair_sound m n) (packed_answers n.width (m.join (high n.width a) (high n.width b)) (n.join (low n.width a) (low n.width b)));
  meet = λ a b. only (pair_sound m n) (packed_answers n.width (m.meet (high n.width a) (high n.width b)) (n.meet (low n.width a) (low n.width b)));
  remainder = λ b a. only (pair_sound m n) (packed_answers n.width (m.remainder (high n.width b) (high n.width a)) (n.remainder (low n.width b) (low n.width a)));
}

-- The code of a role of each part; nothing where the pair is unsound or a part is no role.
abbrev pub pair_code : Meaning → Meaning → ℕ → ℕ → Option ℕ
pair_code m n x y = when (pair_sound m n && (m.role x && n.role y)) (packed n.width x y)
