-- What the next step is, found at the table. Assumes nothing.
use Rattle.std.specs.Prelude.{◌≡◌, ℕ, zero, suc, ◌+◌, ◌<◌, Bool, true, false, cond, ◌||◌, List, length, get_or, Some, Option, Ok, Err, Result, ◌==◌, ◌≢◌, ⊤, slice_index_or}
use Rattle.roles.specs.Meaning.{Meaning}
use Rattle.tables.specs.declared.entry.Entry.{Entry}
use Rattle.machine.specs.Labelled.{units, Head, none, leafs, ones, twos, head, tree, closed}
use Rattle.machine.specs.Plans.{Plan, old, new_one, new_two, replace, Met, ready, makes, refused, misfit}
use Rattle.runs.specs.declared.find.Act.{Act}
use Rattle.runs.specs.declared.find.Act.TheVariants.{Place, Unit, Share}
use Rattle.runs.specs.declared.find.Redex.{Redex}
use Rattle.machine.specs.declared.condition.Condition.{Condition}
use Rattle.machine.specs.declared.condition.Condition.TheVariants.{Going, Finished, RoleFault, ShapeFault, TableFull}
use Rattle.runs.specs.Reach.{no_entry}
use Rattle.runs.specs.Copy.{names}

-- What an act writes.
abbrev pub act_plan : List Entry → Act → Plan
act_plan us (Place b w) = replace 0 (tree us w) (tree us b)
act_plan us (Unit k) = new_one units (old (tree us k))
act_plan us (Share k) = old (tree us k)

-- A new entry with that head over what is written for its operands.
abbrev pub wrap : Head → Plan → Plan → Plan
wrap none p q = p
wrap (leafs h) p q = p
wrap (ones h) p q = new_one h p
wrap (twos h) p q = new_two h p q

-- What an act writes, n entries inward from i.
abbrev pub along : List Entry → ℕ → ℕ → Act → Plan
along us zero i a = act_plan us a
along us (suc n) i a = wrap (head (slice_index_or us i no_entry)) (along us n (get_or us i no_entry).first a) (old (tree us (get_or us i no_entry).second))

-- What was found at entry i, as a step meets it. That a run goes on or halts for places is never found.
abbrev pub met_of : List Entry → ℕ → Result Redex Condition → Met
met_of us i (Ok x) = makes (along us x.path i x.act)
met_of us i (Err Going) = misfit 0
met_of us i (Err Finished) = ready
met_of us i (Err (RoleFault k a r)) = refused k a r
met_of us i (Err (ShapeFault k)) = misfit k
met_of us i (Err TableFull) = misfit 0

-- How many entries inward.
abbrev pub path_of : Result Redex Condition → ℕ
path_of (Ok x) = x.path
path_of (Err c) = 0

-- Was a value found?
abbrev pub is_ready : Result Redex Condition → Bool
is_ready (Ok x) = false
is_ready (Err Going) = false
is_ready (Err Finished) = true
is_ready (Err (RoleFault k a r)) = false
is_ready (Err (ShapeFault k)) = false
is_ready (Err TableFull) = false

-- The tags of values: base value, abstraction, guard and unit.
abbrev pub value_tag : ℕ → Bool
value_tag t = (t == 16 || t == 18) || (t == 21 || t == 23)

-- An act at the entry itself.
abbrev pub at_once : Act → Result Redex Condition
at_once a = Ok (record { act = a; path = 0 })

-- What entry e, of number i, does with the value f; ok tells whether the context role r dominates the role of f.
abbrev pub found_here : Bool → ℕ → ℕ → Entry → Entry → Result Redex Condition
found_here ok r i e f =
    cond (e.tag == 19) (cond (f.tag == 18) (at_once (Place f.first e.second)) (Err (ShapeFault i)))
    (cond (e.tag == 20) (cond (f.tag == 18) (at_once (Place f.first i)) (Err (ShapeFault i)))
    (cond (e.tag == 22) (cond (f.tag == 21) (cond ok (at_once (Unit f.first)) (Err (RoleFault i f.third r))) (Err (ShapeFault i)))
    (cond (e.tag == 24) (cond (f.tag == 23) (at_once (Place e.second f.first)) (Err (ShapeFault i)))
    (at_once (Share e.first)))))

-- The context role within the first operand: raise joins, restrict meets.
abbrev pub role_within : Meaning → ℕ → Entry → Option ℕ
role_within m r e = cond (e.tag == 25) (m.join e.third r) (cond (e.tag == 26) (m.meet e.third r) (Some r))

-- The same, seen from one entry further out.
abbrev pub one_out : Result Redex Condition → Result Redex Condition
one_out (Ok x) = Ok (record { act = x.act; path = x.path + 1 })
one_out (Err c) = Err c

-- What an act names is there, and a body has at most one variable free.
abbrev pub ActFits : List Entry → Act → Type 0
ActFits us (Place b w) = (b < length us) × (w < length us) × (closed 1 (tree us b) ≡ true)
ActFits us (Unit k) = k < length us
ActFits us (Share k) = k < length us

-- And the entries on the way have operands.
abbrev pub PathFits : List Entry → ℕ → ℕ → Act → Type 0
PathFits us zero i a = ActFits us a
PathFits us (suc n) i a = (i < length us) × (names (get_or us i no_entry).tag ≢ 0) × PathFits us n (get_or us i no_entry).first a

-- What was found can be made; where nothing is to be made, a value or a fault was found.
abbrev pub FoundFits : List Entry → ℕ → Result Redex Condition → Type 0
FoundFits us i (Ok x) = PathFits us x.path i x.act
FoundFits us i (Err Going) = ⊥
FoundFits us i (Err Finished) = ⊤
FoundFits us i (Err (RoleFault k a r)) = ⊤
FoundFits us i (Err (ShapeFault k)) = ⊤
FoundFits us i (Err TableFull) = ⊥
