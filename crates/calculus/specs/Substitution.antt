-- Closed terms, and a closed term in the place of a variable. Assumes nothing.
use Rattle.std.specs.Prelude.{ℕ, suc, Bool, true, cond, ◌&&◌, ◌==◌, nat_lt}
use Rattle.calculus.specs.Syntax.{Term, constant, variable, abstraction, application, fix, guard, check, unit, let_in, raise, restrict}

-- Is every variable of the term bound in it or by one of the d binders around it? With d = 0 the term is closed.
abbrev pub closed : ℕ → Term → Bool
closed d (constant k p) = true
closed d (variable i) = nat_lt i d
closed d (abstraction t u e) = closed (suc d) e
closed d (application f x) = closed d f && closed d x
closed d (fix f) = closed d f
closed d (guard a e) = closed d e
closed d (check e) = closed d e
closed d (unit e) = closed d e
closed d (let_in e u) = closed d e && closed (suc d) u
closed d (raise a e) = closed d e
closed d (restrict a e) = closed d e

-- The term n for the variable that d binders of the term stand before. A step puts in closed terms only, so n needs no renumbering under a binder.
abbrev pub substitute : ℕ → Term → Term → Term
substitute d n (constant k p) = constant k p
substitute d n (variable i) = cond (i == d) n (variable i)
substitute d n (abstraction t u e) = abstraction t u (substitute (suc d) n e)
substitute d n (application f x) = application (substitute d n f) (substitute d n x)
substitute d n (fix f) = fix (substitute d n f)
substitute d n (guard a e) = guard a (substitute d n e)
substitute d n (check e) = check (substitute d n e)
substitute d n (unit e) = unit (substitute d n e)
substitute d n (let_in e u) = let_in (substitute d n e) (substitute (suc d) n u)
substitute d n (raise a e) = raise a (substitute d n e)
substitute d n (restrict a e) = restrict a (substitute d n e)
