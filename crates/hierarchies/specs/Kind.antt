-- The hierarchy of numbered roles, by the rows of their juniors. Assumes nothing.
use Rattle.std.specs.Prelude.{ℕ, zero, suc, ◌^◌, Bool, true, cond, not, ◌&&◌, ◌||◌, List, bit_or, nat_le, nat_lt, slice_index}
use Rattle.std.specs.Int.Bits.{bit_and}
use Rattle.roles.specs.Meaning.{Meaning}
use Rattle.roles.specs.Frame.{Frame, guarded}
use Rattle.codes.specs.Bits.{holds_bit, superset, outside}

-- does the test pass at each number below n?
abbrev pub every : ℕ → (ℕ → Bool) → Bool
every zero p = true
every (suc k) p = p k && every k p

-- row j: the bits of role j and of its juniors
abbrev pub row : List ℕ → ℕ → ℕ
row rows j = slice_index rows j

-- if the code holds bit j, does it hold the whole row of j?
abbrev pub keeps_row : List ℕ → ℕ → ℕ → Bool
keeps_row rows c j = not (holds_bit c j) || superset c (row rows j)

-- does the code hold the whole row of each of its bits below n?
abbrev pub closed : ℕ → List ℕ → ℕ → Bool
closed n rows c = every n (keeps_row rows c)

-- does row i hold its own bit, no bit from n up, and the whole row of each of its bits?
abbrev pub row_sound : ℕ → List ℕ → ℕ → Bool
row_sound n rows i = holds_bit (row rows i) i && (nat_lt (row rows i) (2 ^ n) && closed n rows (row rows i))

-- the rows of the code's bits below n, joined
abbrev pub joined_rows : List ℕ → ℕ → ℕ → ℕ
joined_rows rows c zero = 0
joined_rows rows c (suc k) = cond (holds_bit c k) (bit_or (joined_rows rows c k) (row rows k)) (joined_rows rows c k)

-- Sound for 1 to 64 roles with sound rows; the codes that hold the juniors of all they hold, ordered as sets; what a lacks of b is the rows of b's bits outside a.
abbrev pub hierarchy_frame : ℕ → List ℕ → Frame
hierarchy_frame n rows = record {
  sound = (nat_le 1 n && nat_le n 64) && every n (row_sound n rows);
  width = n;
  bottom = 0;
  role = λ c. nat_lt c (2 ^ n) && closed n rows c;
  above = superset;
  join = bit_or;
  meet = bit_and;
  remainder = λ b a. joined_rows rows (outside b a) n;
}

-- What a hierarchy of n roles with these rows means.
abbrev pub hierarchy : ℕ → List ℕ → Meaning
hierarchy n rows = guarded (hierarchy_frame n rows)
