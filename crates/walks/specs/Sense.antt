-- What a walk means by the rules of the calculus. Assumes nothing.
use Rattle.std.specs.Prelude.{◌≡◌, ℕ, ◌+◌, ◌-◌, ◌<◌, ◌≤◌, true, List, [], length, take}
use Rattle.roles.specs.Meaning.{Meaning, Lawful}
use Rattle.calculus.specs.Syntax.{Ty, Term}
use Rattle.calculus.specs.Subtyping.{System, Subtype}
use Rattle.calculus.specs.Typing.{Has}
use Rattle.tables.specs.declared.entry.Entry.{Entry}
use Rattle.tables.specs.Entries.{at, type_tag}
use Rattle.trees.specs.Trees.{type_of, term_of}
use Rattle.walks.specs.Places.{Walkable}
use Rattle.walks.specs.Walk.{Walked, going, stopped, table_of, walk_of}

-- The rules give the closed term the type, and it is below every other type that they give it.
pub record Least (m : Meaning) (α : System) (e : Term) (t : Ty) : Type 0 where
  pub has : Has m α [] e t
  pub least : (s : Ty) → Has m α [] e s → Subtype m α t s

-- The rules give the closed term no type.
abbrev pub Untyped : Meaning → System → Term → Type 0
Untyped m α e = (s : Ty) → Has m α [] e s → ⊥

-- A walk that goes on has found the least type of the term, and one that has stopped shows that it has none.
abbrev pub TypedBy : Meaning → System → Term → Walked → Type 0
TypedBy m α e (going T u x) = Least m α e (type_of T x)
TypedBy m α e (stopped T c) = Untyped m α e

-- What a walk has found is an entry of a type.
abbrev pub Found : Walked → Type 0
Found (going T u x) = type_tag (at T x).tag ≡ true
Found (stopped T c) = Unit {0}

-- Two tables of one length differ in places from a up to b alone.
pub record Within (a b : ℕ) (T T' : List Entry) : Type 0 where
  pub long : length T' ≡ length T
  pub before : (i : ℕ) → i < a → at T' i ≡ at T i
  pub beyond : (i : ℕ) → b ≤ i → at T' i ≡ at T i

-- What the walk of a job comes to: it decides the typing of the job's term, and writes to one place per term at most, from place t up.
pub record Decides (m : Meaning) (α : System) (t : ℕ) (types terms : List Entry) (w : Walked) : Type 0 where
  pub typed : TypedBy m α (term_of (take t types) terms (length terms - 1)) w
  pub found : Found w
  pub within : Within t (t + length terms) types (table_of w)

-- So it is for every lawful scheme and every job in the form of one.
abbrev pub WalkDecides : Type 0
WalkDecides =
    (m : Meaning) → Lawful m → (α : System) (t : ℕ) (types terms : List Entry) → Walkable m t types terms →
    Decides m α t types terms (walk_of m α t terms (length terms - 1) [] types t)

-- Two walks tell the same: the same fault, or a type at the same place, with the same entry there.
abbrev pub TellsSame : Walked → Walked → Type 0
TellsSame (going T u x) (going T' u' x') = (x' ≡ x) × (at T' x' ≡ at T x)
TellsSame (going T u x) (stopped T' c) = ⊥
TellsSame (stopped T c) (going T' u x) = ⊥
TellsSame (stopped T c) (stopped T' c') = c' ≡ c

-- What stands from place t up does not matter to a walk.
abbrev pub WalkAgain : Type 0
WalkAgain =
    (m : Meaning) → Lawful m → (α : System) (t : ℕ) (types types' terms : List Entry) → Walkable m t types terms →
    length types' ≡ length types → ((i : ℕ) → i < t → at types' i ≡ at types i) →
    TellsSame (walk_of m α t terms (length terms - 1) [] types t) (walk_of m α t terms (length terms - 1) [] types' t)
