-- A kind of scheme by its operations on roles alone; what it answers elsewhere is the same for all kinds. Assumes nothing.
use Rattle.std.specs.Prelude.{ℕ, Bool, true, false, cond, ◌&&◌, Some, None, Option}
use Rattle.roles.specs.Meaning.{Meaning}

-- What a kind does with codes that are roles of a sound scheme.
pub record Frame : Type 0 where
  pub sound : Bool
  pub width : ℕ
  pub bottom : ℕ
  pub role : ℕ → Bool
  pub above : ℕ → ℕ → Bool
  pub join : ℕ → ℕ → ℕ
  pub meet : ℕ → ℕ → ℕ
  pub remainder : ℕ → ℕ → ℕ

-- The answer, if the test passes.
abbrev pub when : Bool → ℕ → Option ℕ
when true x = Some x
when false x = None

-- Are both codes roles of a sound scheme?
abbrev pub both_roles : Frame → ℕ → ℕ → Bool
both_roles f a b = (f.sound && f.role a) && (f.sound && f.role b)

-- The meaning of a frame: no roles, width 64 and bottom 0 where it is unsound, and no answer at a code that is no role.
abbrev pub guarded : Frame → Meaning
guarded f = record {
  role = λ c. f.sound && f.role c;
  dom = λ a b. both_roles f a b && f.above a b;
  sound = f.sound;
  width = cond f.sound f.width 64;
  bottom = cond f.sound f.bottom 0;
  join = λ a b. when (both_roles f a b) (f.join a b);
  meet = λ a b. when (both_roles f a b) (f.meet a b);
  remainder = λ b a. when (both_roles f b a) (f.remainder b a);
}
