-- The trees that the terms of a table write out, each node with the number of its entry, and the terms of the calculus that they stand for. Assumes nothing.
use Rattle.std.specs.Prelude.{ℕ, suc, Bool, true, false, cond, ◌&&◌, List, [], ◌∷◌, ◌++◌, length, ◌==◌, nat_lt, slice_index_or}
use Rattle.calculus.specs.Syntax.{Ty, Term, constant, variable, abstraction, application, fix, guard, check, unit, let_in, raise, restrict}
use Rattle.tables.specs.declared.entry.Entry.{Entry}
use Rattle.trees.specs.Trees.{kind}

-- What an entry that names no term holds: a base value by kind and payload, or a variable.
pub data Leaf : Type 0 where
  constants : ℕ → ℕ → Leaf
  variables : ℕ → Leaf

-- What an entry that names one term holds besides it: an abstraction's two claims, a role, or nothing.
pub data One : Type 0 where
  abstracts : ℕ → ℕ → One
  fixes : One
  guards : ℕ → One
  checks : One
  units : One
  raises : ℕ → One
  restricts : ℕ → One

-- Which entry it is that names two terms.
pub data Two : Type 0 where
  applies : Two
  lets : Two

-- An entry by how many terms it names; none is no entry of a term.
pub data Head : Type 0 where
  none : Head
  leafs : Leaf → Head
  ones : One → Head
  twos : Two → Head

-- The head of an entry, by its tag.
abbrev pub head : Entry → Head
head e =
    cond (e.tag == 16) (leafs (constants e.first e.third))
    (cond (e.tag == 17) (leafs (variables e.first))
    (cond (e.tag == 18) (ones (abstracts e.second e.third))
    (cond (e.tag == 19) (twos applies)
    (cond (e.tag == 20) (ones fixes)
    (cond (e.tag == 21) (ones (guards e.third))
    (cond (e.tag == 22) (ones checks)
    (cond (e.tag == 23) (ones units)
    (cond (e.tag == 24) (twos lets)
    (cond (e.tag == 25) (ones (raises e.third))
    (cond (e.tag == 26) (ones (restricts e.third))
    none))))))))))

-- The entry with that head over the term j; an operand that is not used is 0.
abbrev pub entry_one : One → ℕ → Entry
entry_one (abstracts c₁ c₂) j = record { tag = 18; first = j; second = c₁; third = c₂ }
entry_one fixes j = record { tag = 20; first = j; second = 0; third = 0 }
entry_one (guards a) j = record { tag = 21; first = j; second = 0; third = a }
entry_one checks j = record { tag = 22; first = j; second = 0; third = 0 }
entry_one units j = record { tag = 23; first = j; second = 0; third = 0 }
entry_one (raises a) j = record { tag = 25; first = j; second = 0; third = a }
entry_one (restricts a) j = record { tag = 26; first = j; second = 0; third = a }

-- The entry with that head over the terms i and j.
abbrev pub entry_two : Two → ℕ → ℕ → Entry
entry_two applies i j = record { tag = 19; first = i; second = j; third = 0 }
entry_two lets i j = record { tag = 24; first = i; second = j; third = 0 }

-- A written-out tree: each node has its entry's number; a stray is what no entry writes out.
pub data Tree : Type 0 where
  stray : Tree
  leaf : ℕ → Leaf → Tree
  one : ℕ → One → Tree → Tree
  two : ℕ → Two → Tree → Tree → Tree

-- The number of the entry at the root.
abbrev pub label : Tree → ℕ
label stray = 0
label (leaf i h) = i
label (one i h t) = i
label (two i h t u) = i

-- The tree of the next entry, which names the terms f and s, over the trees so far.
abbrev pub planted : List Tree → ℕ → ℕ → Head → Tree
planted acc f s none = stray
planted acc f s (leafs h) = leaf (length acc) h
planted acc f s (ones h) = one (length acc) h (slice_index_or acc f stray)
planted acc f s (twos h) = two (length acc) h (slice_index_or acc f stray) (slice_index_or acc s stray)

-- The tree of the entry that comes after those of the trees acc.
abbrev pub node : List Tree → Entry → Tree
node acc e = planted acc e.first e.second (head e)

-- The trees acc with those of the entries that follow, made in one pass upward.
abbrev pub grow : List Tree → List Entry → List Tree
grow acc [] = acc
grow acc (e ∷ es) = grow (acc ++ (node acc e ∷ [])) es

-- The trees of a table.
abbrev pub trees : List Entry → List Tree
trees es = grow [] es

-- The tree of entry i.
abbrev pub tree : List Entry → ℕ → Tree
tree es i = slice_index_or (trees es) i stray

-- Under how many binders the operand stands, if the entry stands under d.
abbrev pub inside : One → ℕ → ℕ
inside (abstracts c₁ c₂) d = suc d
inside fixes d = d
inside (guards a) d = d
inside checks d = d
inside units d = d
inside (raises a) d = d
inside (restricts a) d = d

-- Under how many the second operand of two stands.
abbrev pub beside : Two → ℕ → ℕ
beside applies d = d
beside lets d = suc d

-- Is every variable bound in the tree or by one of the d binders around it, and nothing a stray?
abbrev pub closed : ℕ → Tree → Bool
closed d stray = false
closed d (leaf i (constants k p)) = true
closed d (leaf i (variables k)) = nat_lt k d
closed d (one i h t) = closed (inside h d) t
closed d (two i h t u) = closed d t && closed (beside h d) u

-- The term of a leaf.
abbrev pub erase_leaf : Leaf → Term
erase_leaf (constants k p) = constant (kind k) p
erase_leaf (variables i) = variable i

-- The term of a head over an operand's term; claims are looked up.
abbrev pub erase_one : (ℕ → Ty) → One → Term → Term
erase_one claim (abstracts c₁ c₂) e = abstraction (claim c₁) (claim c₂) e
erase_one claim fixes e = fix e
erase_one claim (guards a) e = guard a e
erase_one claim checks e = check e
erase_one claim units e = unit e
erase_one claim (raises a) e = raise a e
erase_one claim (restricts a) e = restrict a e

-- The term of a head over two.
abbrev pub erase_two : Two → Term → Term → Term
erase_two applies e u = application e u
erase_two lets e u = let_in e u

-- The term of a tree, without the numbers; a stray is a term of a wrong shape.
abbrev pub erase : (ℕ → Ty) → Tree → Term
erase claim stray = application (constant (kind 0) 0) (constant (kind 0) 0)
erase claim (leaf i h) = erase_leaf h
erase claim (one i h t) = erase_one claim h (erase claim t)
erase claim (two i h t u) = erase_two h (erase claim t) (erase claim u)
