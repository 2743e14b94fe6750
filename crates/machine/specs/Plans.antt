-- One step on trees with numbers, and the entries that it appends. Assumes nothing.
use Rattle.std.specs.Prelude.{ℕ, ◌+◌, Bool, true, false, cond, ◌||◌, List, [], ◌∷◌, ◌++◌, length, Some, None, Option, ◌==◌}
use Rattle.roles.specs.Meaning.{Meaning}
use Rattle.tables.specs.declared.entry.Entry.{Entry}
use Rattle.machine.specs.Labelled.{constants, variables, One, abstracts, fixes, guards, checks, units, raises, restricts, Two, applies, lets, entry_one, entry_two, Tree, stray, leaf, one, two, label, inside, beside}

-- A term to be written: an old tree, which is shared, or a new entry over what is written for its operands.
pub data Plan : Type 0 where
  old : Tree → Plan
  new_one : One → Plan → Plan
  new_two : Two → Plan → Plan → Plan

-- The entries that are appended, and the place of the whole.
pub record Written : Type 0 where
  pub entries : List Entry
  pub place : ℕ

-- One more entry, over what was written from place b on.
abbrev pub add_one : ℕ → One → Written → Written
add_one b h w = record { entries = w.entries ++ (entry_one h w.place ∷ []); place = b + length w.entries }

-- One more entry, over two that were written one after the other from place b on.
abbrev pub add_two : ℕ → Two → Written → Written → Written
add_two b h w v = record {
  entries = (w.entries ++ v.entries) ++ (entry_two h w.place v.place ∷ []);
  place = b + length (w.entries ++ v.entries);
}

-- What a plan appends from place b on: the first operand's entries, the second's, then the entry.
abbrev pub write : ℕ → Plan → Written
write b (old t) = record { entries = []; place = label t }
write b (new_one h p) = add_one b h (write b p)
write b (new_two h p q) = add_two b h (write b p) (write (b + length (write b p).entries) q)

-- Does the tree contain the variable of the binder that d others stand inside of?
abbrev pub free : ℕ → Tree → Bool
free d stray = false
free d (leaf i (constants k p)) = false
free d (leaf i (variables k)) = k == d
free d (one i h t) = free (inside h d) t
free d (two i h t u) = free d t || free (beside h d) u

-- The tree n for that variable: each place that contains it and is not it is copied, the rest is shared.
abbrev pub replace : ℕ → Tree → Tree → Plan
replace d n stray = old stray
replace d n (leaf i (constants k p)) = old (leaf i (constants k p))
replace d n (leaf i (variables k)) = cond (k == d) (old n) (old (leaf i (variables k)))
replace d n (one i h t) = cond (free (inside h d) t) (new_one h (replace (inside h d) n t)) (old (one i h t))
replace d n (two i h t u) = cond (free d t || free (beside h d) u) (new_two h (replace d n t) (replace (beside h d) n u)) (old (two i h t u))

-- What a step meets: a value; a plan to make; a refused check, with its entry, the guard's role and the context role; a wrong shape at an entry.
pub data Met : Type 0 where
  ready : Met
  makes : Plan → Met
  refused : ℕ → ℕ → ℕ → Met
  misfit : ℕ → Met

-- Is it a value: base value, abstraction, guard or unit?
abbrev pub valued : Tree → Bool
valued stray = false
valued (leaf i (constants k p)) = true
valued (leaf i (variables k)) = false
valued (one i (abstracts c₁ c₂) t) = true
valued (one i fixes t) = false
valued (one i (guards a) t) = true
valued (one i checks t) = false
valued (one i units t) = true
valued (one i (raises a) t) = false
valued (one i (restricts a) t) = false
valued (two i h t u) = false

-- Entry i, whose function is the value t: its body for n.
abbrev pub call : ℕ → Tree → Tree → Met
call i stray n = misfit i
call i (leaf j h) n = misfit i
call i (one j (abstracts c₁ c₂) t) n = makes (replace 0 n t)
call i (one j fixes t) n = misfit i
call i (one j (guards a) t) n = misfit i
call i (one j checks t) n = misfit i
call i (one j units t) n = misfit i
call i (one j (raises a) t) n = misfit i
call i (one j (restricts a) t) n = misfit i
call i (two j h t u) n = misfit i

-- The check i of a guard: a new unit, if the context role dominates the guard's.
abbrev pub granted : Bool → ℕ → ℕ → ℕ → Tree → Met
granted true i a r t = makes (new_one units (old t))
granted false i a r t = refused i a r

-- The check i of the value t.
abbrev pub test : ℕ → Tree → Meaning → ℕ → Met
test i stray m r = misfit i
test i (leaf j h) m r = misfit i
test i (one j (abstracts c₁ c₂) t) m r = misfit i
test i (one j fixes t) m r = misfit i
test i (one j (guards a) t) m r = granted (m.dom r a) i a r t
test i (one j checks t) m r = misfit i
test i (one j units t) m r = misfit i
test i (one j (raises a) t) m r = misfit i
test i (one j (restricts a) t) m r = misfit i
test i (two j h t u) m r = misfit i

-- The let i of the value t: its second for what is inside the unit.
abbrev pub hand : ℕ → Tree → Tree → Met
hand i stray u = misfit i
hand i (leaf j h) u = misfit i
hand i (one j (abstracts c₁ c₂) t) u = misfit i
hand i (one j fixes t) u = misfit i
hand i (one j (guards a) t) u = misfit i
hand i (one j checks t) u = misfit i
hand i (one j units t) u = makes (replace 0 t u)
hand i (one j (raises a) t) u = misfit i
hand i (one j (restricts a) t) u = misfit i
hand i (two j h t u') u = misfit i

-- What the first operand comes to, seen from the entry: written anew over it, or v where it is a value.
abbrev pub inward : Met → (Plan → Plan) → Met → Met
inward ready f v = v
inward (makes p) f v = makes (f p)
inward (refused i a r) f v = refused i a r
inward (misfit i) f v = misfit i

-- The same under the changed context role, if there is one.
abbrev pub under : ℕ → Option ℕ → (ℕ → Met) → Met
under i None f = misfit i
under i (Some j) f = f j

-- What the next step under the context role r meets: inward through the first operand until it is a value.
unfoldable pub step : Meaning → ℕ → Tree → Met
step m r stray = misfit 0
step m r (leaf i (constants k p)) = ready
step m r (leaf i (variables k)) = misfit i
step m r (one i (abstracts c₁ c₂) t) = ready
step m r (one i fixes t) = inward (step m r t) (new_one fixes) (call i t (one i fixes t))
step m r (one i (guards a) t) = ready
step m r (one i checks t) = inward (step m r t) (new_one checks) (test i t m r)
step m r (one i units t) = ready
step m r (one i (raises a) t) = cond (valued t) (makes (old t)) (under i (m.join a r) (λ j. inward (step m j t) (new_one (raises a)) (misfit i)))
step m r (one i (restricts a) t) = cond (valued t) (makes (old t)) (under i (m.meet a r) (λ j. inward (step m j t) (new_one (restricts a)) (misfit i)))
step m r (two i applies t u) = inward (step m r t) (λ p. new_two applies p (old u)) (call i t u)
step m r (two i lets t u) = inward (step m r t) (λ p. new_two lets p (old u)) (hand i t u)
