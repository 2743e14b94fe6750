-- What holds of turns and advances on lists. Assumes nothing.
use Rattle.std.specs.Prelude.{◌≡◌, ℕ, ◌+◌, ◌<◌, true, ◌⊎◌, List, ◌++◌, length, get_or, None, slice_index_or}
use Rattle.roles.specs.Meaning.{Meaning, Lawful}
use Rattle.calculus.specs.Syntax.{Ty}
use Rattle.tables.specs.declared.entry.Entry.{Entry}
use Rattle.machine.specs.Labelled.{Head, none, leafs, ones, twos, head, Tree, stray, leaf, one, two, tree, closed, erase}
use Rattle.calculus.specs.Steps.{IsRoleFault}
use Rattle.machine.specs.Plans.{refused, step}
use Rattle.machine.specs.Refused.{RefusedAt}
use Rattle.machine.specs.Turns.{State, turn, moves, moved, once, advance, Agrees, added_to}

-- A tree stays as entries are appended.
abbrev pub TreesStay : Type 0
TreesStay = (es new : List Entry) (i : ℕ) → i < length es → tree (es ++ new) i ≡ tree es i

-- The tree of an entry whose operands stand below it, from the trees of its operands.
abbrev pub rooted : ℕ → Tree → Tree → Head → Tree
rooted i t u none = stray
rooted i t u (leafs h) = leaf i h
rooted i t u (ones h) = one i h t
rooted i t u (twos h) = two i h t u

-- The operands that the head has stand below i.
abbrev pub Lower : ℕ → Entry → Head → Type 0
Lower i e none = Unit {0}
Lower i e (leafs h) = Unit {0}
Lower i e (ones h) = e.first < i
Lower i e (twos h) = (e.first < i) × (e.second < i)

-- So every such entry's tree is made of its operands' trees.
abbrev pub TreesUnfold : Type 0
TreesUnfold =
    (es : List Entry) (i : ℕ) (d : Entry) → i < length es → Lower i (slice_index_or es i d) (head (slice_index_or es i d)) →
    tree es i ≡ rooted i (tree es (get_or es i d).first) (tree es (get_or es i d).second) (head (slice_index_or es i d))

-- The current tree is closed.
abbrev pub Closed : State → Type 0
Closed s = closed 0 (tree s.used s.current) ≡ true

-- A turn is what the calculus says of the current term: a value, a step to the term after it, a role fault or a shape fault.
abbrev pub TurnsAgree : Type 0
TurnsAgree = (m : Meaning) (r : ℕ) (claim : ℕ → Ty) (s : State) → Closed s → Agrees m r claim s (turn m r s)

-- A turn from a closed term leaves a closed one.
abbrev pub TurnsClose : Type 0
TurnsClose = (m : Meaning) (r : ℕ) (s : State) (new : List Entry) (c : ℕ) → Closed s → turn m r s ≡ moves new c → Closed (moved s new c)

-- A role that dominates another makes the same turn where the other makes a step.
abbrev pub TurnsGrow : Type 0
TurnsGrow = (m : Meaning) → Lawful m → (r q : ℕ) (s : State) (new : List Entry) (c : ℕ) → m.dom q r ≡ true → turn m r s ≡ moves new c → turn m q s ≡ moves new c

-- One advance after another is an advance by both budgets; after one that left budget over, another leaves all as it was.
abbrev pub AdvancesJoin : Type 0
AdvancesJoin =
    (m : Meaning) (r places j k : ℕ) (s : State) →
    ((advance m r places j s).made ≡ j → advance m r places (j + k) s ≡ added_to j (advance m r places k (advance m r places j s).state))
    × ((advance m r places j s).made < j → advance m r places (j + k) s ≡ advance m r places j s)

-- An advance spends its budget, or stops where no further step fits.
abbrev pub AdvancesSpend : Type 0
AdvancesSpend = (m : Meaning) (r places k : ℕ) (s : State) → ((advance m r places k s).made ≡ k) ⊎ (once m r places (advance m r places k s).state ≡ None)

-- A role fault that a step meets is at the check, the guard's role and the context role that it tells, and it is one of the calculus.
abbrev pub RefusalsTold : Type 0
RefusalsTold =
    (m : Meaning) (r : ℕ) (t : Tree) (i a c : ℕ) →
    (step m r t ≡ refused i a c → RefusedAt m r t i a c) × ((claim : ℕ → Ty) → RefusedAt m r t i a c → IsRoleFault m r (erase claim t))
