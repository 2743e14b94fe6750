-- The two systems, and which type is below which in each. Assumes nothing.
use Rattle.std.specs.Prelude.{◌≡◌, ℕ, Bool, true, ◌&&◌}
use Rattle.roles.specs.Meaning.{Meaning}
use Rattle.calculus.specs.Syntax.{Kind, Ty, base, function, guarded, computation}

-- A sufficient bound is a role under which a run meets no role fault; a necessary one is a role without which it yields no value.
pub data System : Type 0 where
  sufficient : System
  necessary : System

-- May the role a stand where b is named? A sufficient bound may grow, and a necessary one may fall.
abbrev pub role_test : Meaning → System → ℕ → ℕ → Bool
role_test m sufficient a b = m.dom b a
role_test m necessary a b = m.dom a b

-- t is below s: what has the type t may stand where an s is asked for.
pub data Subtype (m : Meaning) (α : System) : Ty → Ty → Type 0 where
  base_below : {k : Kind} → Subtype m α (base k) (base k)
  -- the arguments in reverse, the results forward
  function_below : {t s t' s' : Ty} → Subtype m α t' t → Subtype m α s s' → Subtype m α (function t s) (function t' s')
  guarded_below : {a b : ℕ} {t t' : Ty} → role_test m α a b ≡ true → Subtype m α t t' → Subtype m α (guarded a t) (guarded b t')
  computation_below : {a b : ℕ} {t t' : Ty} → role_test m α a b ≡ true → Subtype m α t t' → Subtype m α (computation a t) (computation b t')

-- Is every code in the type a role?
abbrev pub well_coded : Meaning → Ty → Bool
well_coded m (base k) = true
well_coded m (function t s) = well_coded m t && well_coded m s
well_coded m (guarded a t) = m.role a && well_coded m t
well_coded m (computation a t) = m.role a && well_coded m t
