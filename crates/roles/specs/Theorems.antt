-- What the laws say together. Assumes nothing.
use Rattle.std.specs.Prelude.{◌≡◌, ℕ}
use Rattle.roles.specs.Meaning.{Meaning, Lawful}

-- The answers of two meanings that the role set and the order decide.
pub record SameAnswers (m n : Meaning) : Type 0 where
  pub sound : m.sound ≡ n.sound
  pub bottom : m.bottom ≡ n.bottom
  pub join : (a b : ℕ) → m.join a b ≡ n.join a b
  pub meet : (a b : ℕ) → m.meet a b ≡ n.meet a b
  pub remainder : (b a : ℕ) → m.remainder b a ≡ n.remainder b a

-- The role set and the order decide the rest: lawful meanings that agree on these two agree on soundness, bottom, join, meet and remainder.
abbrev pub OrderDecides : Type 0
OrderDecides =
    (m n : Meaning) → Lawful m → Lawful n → ((c : ℕ) → m.role c ≡ n.role c) → ((a b : ℕ) → m.dom a b ≡ n.dom a b) → SameAnswers m n
