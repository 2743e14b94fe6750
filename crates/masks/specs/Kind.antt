-- The mask of a width: every code that fits is a role. Assumes nothing.
use Rattle.std.specs.Prelude.{ℕ, ◌^◌, ◌&&◌, nat_le, nat_lt}
use Rattle.std.specs.Int.Bits.{bit_and, bit_or}
use Rattle.roles.specs.Meaning.{Meaning}
use Rattle.roles.specs.Frame.{Frame, guarded}
use Rattle.codes.specs.Bits.{superset, outside}

-- Sound for widths 1 to 64; the codes below two to the width, ordered as sets of bits; what a lacks of b is b's bits outside a.
abbrev pub mask_frame : ℕ → Frame
mask_frame w = record {
  sound = nat_le 1 w && nat_le w 64;
  width = w;
  bottom = 0;
  role = λ c. nat_lt c (2 ^ w);
  above = superset;
  join = bit_or;
  meet = bit_and;
  remainder = outside;
}

-- What the mask of a width means.
abbrev pub mask : ℕ → Meaning
mask w = guarded (mask_frame w)
