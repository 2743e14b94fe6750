-- A tiny kind whose bottom is not 0. Assumes nothing.
use Rattle.std.specs.Prelude.{min, max, true, cond, ◌||◌, ◌==◌, nat_le}
use Rattle.roles.specs.Meaning.{Meaning}
use Rattle.roles.specs.Frame.{Frame, guarded}

-- two roles, standby 5 and alert 9; alert dominates standby
abbrev pub watch_frame : Frame
watch_frame = record {
  sound = true;
  width = 4;
  bottom = 5;
  role = λ c. (c == 5) || (c == 9);
  above = λ a b. nat_le b a;
  join = max;
  meet = min;
  remainder = λ b a. cond (nat_le b a) 5 b;
}

-- what the watch means
abbrev pub watch : Meaning
watch = guarded watch_frame
