-- What a role scheme means, and the laws that make a meaning a scheme of roles. Assumes nothing.
use Rattle.std.specs.Prelude.{◌≡◌, ℕ, ◌^◌, ◌<◌, ◌≤◌, Bool, true, false, ◌&&◌, is_some, Some, Option}

-- The role set and the order are the heart of a meaning; the laws leave the other answers no choice.
pub record Meaning : Type 0 where
  -- is the code a role?
  pub role : ℕ → Bool
  -- does the first role dominate the second?
  pub dom : ℕ → ℕ → Bool
  -- has the scheme roles at all?
  pub sound : Bool
  -- how many bits a role takes
  pub width : ℕ
  -- the role that every role dominates
  pub bottom : ℕ
  -- the least role that dominates both
  pub join : ℕ → ℕ → Option ℕ
  -- the greatest role that both dominate
  pub meet : ℕ → ℕ → Option ℕ
  -- the remainder of the first by the second: the least role that, joined to the second, dominates the first
  pub remainder : ℕ → ℕ → Option ℕ

-- The laws. They hold of every code: at one that is no role `dom` is false and an operation answers nothing.
pub record Lawful (m : Meaning) : Type 0 where
  -- domination is a partial order, and it is between roles
  pub dom_roles : (a b : ℕ) → m.dom a b ≡ true → (m.role a ≡ true) × (m.role b ≡ true)
  pub reflexive : (a : ℕ) → m.role a ≡ true → m.dom a a ≡ true
  pub transitive : (a b c : ℕ) → m.dom a b ≡ true → m.dom b c ≡ true → m.dom a c ≡ true
  pub antisymmetric : (a b : ℕ) → m.dom a b ≡ true → m.dom b a ≡ true → a ≡ b
  -- only a sound scheme has roles; an unsound one has width 64 and bottom 0
  pub role_sound : (c : ℕ) → m.role c ≡ true → m.sound ≡ true
  pub unsound : m.sound ≡ false → (m.width ≡ 64) × (m.bottom ≡ 0)
  -- the width is 1 to 64, and every role is below two to the width
  pub wide : (1 ≤ m.width) × (m.width ≤ 64)
  pub role_fits : (c : ℕ) → m.role c ≡ true → c < 2 ^ m.width
  -- bottom is a role, and every role dominates it
  pub bottom_role : m.sound ≡ true → m.role m.bottom ≡ true
  pub bottom_least : (a : ℕ) → m.role a ≡ true → m.dom a m.bottom ≡ true
  -- two roles have a join, and no other codes do; it is the least role that dominates both
  pub join_some : (a b : ℕ) → is_some (m.join a b) ≡ (m.role a && m.role b)
  pub join_upper : (a b j : ℕ) → m.join a b ≡ Some j → (m.dom j a ≡ true) × (m.dom j b ≡ true)
  pub join_least : (a b j x : ℕ) → m.join a b ≡ Some j → m.dom x a ≡ true → m.dom x b ≡ true → m.dom x j ≡ true
  -- two roles have a meet, and no other codes do; it is the greatest role that both dominate
  pub meet_some : (a b : ℕ) → is_some (m.meet a b) ≡ (m.role a && m.role b)
  pub meet_lower : (a b k : ℕ) → m.meet a b ≡ Some k → (m.dom a k ≡ true) × (m.dom b k ≡ true)
  pub meet_greatest : (a b k x : ℕ) → m.meet a b ≡ Some k → m.dom a x ≡ true → m.dom b x ≡ true → m.dom k x ≡ true
  -- two roles have a remainder, a role, and no other codes do
  pub remainder_some : (b a : ℕ) → is_some (m.remainder b a) ≡ (m.role b && m.role a)
  pub remainder_role : (b a r : ℕ) → m.remainder b a ≡ Some r → m.role r ≡ true
  -- a role x dominates the remainder of b by a exactly when the join of a and x dominates b
  pub residuation : (b a r x j : ℕ) → m.remainder b a ≡ Some r → m.join a x ≡ Some j → m.dom x r ≡ m.dom j b
