-- How far the free variables of a tree reach, and of the entries that write it out. Assumes nothing.
use Rattle.std.specs.Prelude.{◌≡◌, ℕ, suc, ◌+◌, ◌-◌, ◌<◌, ◌≤◌, max, Bool, true, cond, ◌&&◌, ◌||◌, List, length, get_or, ◌==◌, nat_lt, slice_index, slice_index_or}
use Rattle.tables.specs.declared.entry.Entry.{Entry}
pub use Rattle.tables.specs.Entries.{no_entry}
use Rattle.machine.specs.Labelled.{constants, variables, One, abstracts, fixes, guards, checks, units, raises, restricts, Two, applies, lets, Head, none, leafs, ones, twos, head, Tree, stray, leaf, one, two, tree}
use Rattle.machine.specs.Theorems.{Lower}
use Rattle.std.proofs.Props.{props}

-- A reach, seen from outside the binder that the head may be.
abbrev pub outside : One → ℕ → ℕ
outside (abstracts c₁ c₂) r = r - 1
outside fixes r = r
outside (guards a) r = r
outside checks r = r
outside units r = r
outside (raises a) r = r
outside (restricts a) r = r

-- The reach of a second operand, seen from outside.
abbrev pub outside_two : Two → ℕ → ℕ
outside_two applies r = r
outside_two lets r = r - 1

-- 0 if no variable of the tree is free, else one more than the largest that is.
abbrev pub reach_of : Tree → ℕ
reach_of stray = 0
reach_of (leaf i (constants k p)) = 0
reach_of (leaf i (variables k)) = suc k
reach_of (one i h t) = outside h (reach_of t)
reach_of (two i h t u) = max (reach_of t) (outside_two h (reach_of u))

-- The tag is one of a term.
abbrev pub Tagged : Entry → Type 0
Tagged e = (16 ≤ e.tag) × (e.tag ≤ 26)

-- Every entry is a term, names lower ones, and a variable passes over few binders.
pub record Ground (es : List Entry) : Type 0 where
  pub tagged : (k : ℕ) → k < length es → Tagged (slice_index_or es k no_entry)
  pub lowered : (k : ℕ) → k < length es → Lower k (slice_index_or es k no_entry) (head (slice_index_or es k no_entry))
  pub small : (k : ℕ) → k < length es → (get_or es k no_entry).tag ≡ 17 → (get_or es k no_entry).first < 1024

-- Any two proofs that operands are lower are one, and so any two that all this holds.
lower_prop : (i : ℕ) (e : Entry) (h : Head) → IsProp (Lower i e h)
lower_prop i e none = hlevel props
lower_prop i e (leafs h) = hlevel props
lower_prop i e (ones h) = hlevel props
lower_prop i e (twos h) = hlevel props

pub ground_prop : (es : List Entry) → IsProp (Ground es)
ground_prop es = hlevel (props, lower_prop)

-- The numbers are the reaches of the entries.
abbrev pub Known : List Entry → List ℕ → Type 0
Known es rs = (k : ℕ) → k < length es → slice_index rs k ≡ reach_of (tree es k)

-- Does entry i name lower ones, by its tag?
abbrev pub lower : Entry → ℕ → Bool
lower e i =
    cond (e.tag == 16) true
    (cond (e.tag == 17) (nat_lt e.first 1024)
    (cond (e.tag == 19 || e.tag == 24) (nat_lt e.first i && nat_lt e.second i) (nat_lt e.first i)))

-- The reach of an entry, from those of the entries below.
abbrev pub step_of : Entry → List ℕ → ℕ
step_of e rs =
    cond (e.tag == 16) 0
    (cond (e.tag == 17) (e.first + 1)
    (cond (e.tag == 18) (slice_index rs e.first - 1)
    (cond (e.tag == 19) (max (slice_index rs e.first) (slice_index rs e.second))
    (cond (e.tag == 24) (max (slice_index rs e.first) (slice_index rs e.second - 1)) (slice_index rs e.first)))))
