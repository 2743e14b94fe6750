-- The ladder of ranks up to a top. Assumes nothing.
use Rattle.std.specs.Prelude.{ℕ, min, max, cond, ◌&&◌, nat_le, nat_lt}
use Rattle.roles.specs.Meaning.{Meaning}
use Rattle.roles.specs.Frame.{Frame, guarded}

-- Sound for tops 1 to 255; the ranks 0 to top in a byte, the higher dominates; what a lacks of b is nothing where a is at least b, else b.
abbrev pub ladder_frame : ℕ → Frame
ladder_frame top = record {
  sound = nat_le 1 top && nat_lt top 256;
  width = 8;
  bottom = 0;
  role = λ c. nat_le c top;
  above = λ a b. nat_le b a;
  join = max;
  meet = min;
  remainder = λ b a. cond (nat_le b a) 0 b;
}

-- What the ladder with a top rank means.
abbrev pub ladder : ℕ → Meaning
ladder top = guarded (ladder_frame top)
