-- What the tag of an entry asks of its operands. Assumes nothing.
use Rattle.std.specs.Prelude.{ℕ, Bool, false, cond, not, ◌&&◌, ◌||◌, List, ◌==◌, nat_le, nat_lt, slice_index_or}
use Rattle.tables.specs.declared.entry.Entry.{Entry}

-- What is read past a table's end.
abbrev pub no_entry : Entry
no_entry = record { tag = 0; first = 0; second = 0; third = 0 }

-- Entry k of a table.
abbrev pub at : List Entry → ℕ → Entry
at es k = slice_index_or es k no_entry

-- Types have the tags 1 base, 2 function, 3 guarded and 4 computation.
abbrev pub type_tag : ℕ → Bool
type_tag k = nat_le 1 k && nat_le k 4

-- Terms have the tags 16 base value, 17 variable, 18 abstraction, 19 application, 20 fix, 21 guard, 22 check, 23 unit, 24 let, 25 raise and 26 restrict.
abbrev pub term_tag : ℕ → Bool
term_tag k = nat_le 16 k && nat_le k 26

-- The tags whose third operand is a role code: guarded, computation, guard, raise and restrict.
abbrev pub role_tag : ℕ → Bool
role_tag k = k == 3 || k == 4 || k == 21 || k == 25 || k == 26

-- How many terms an entry names: two of application and let, none of base value and variable, else one.
abbrev pub names : ℕ → ℕ
names k = cond (k == 16 || k == 17) 0 (cond (k == 19 || k == 24) 2 1)

-- The first term that an entry names, of number 0, or the second.
abbrev pub operand_of : Entry → ℕ → ℕ
operand_of e j = cond (j == 0) e.first e.second

-- Does an entry bind a variable in the term of number j that it names? Abstraction in its first, let in its second.
abbrev pub binds : ℕ → ℕ → Bool
binds k j = cond (j == 0) (k == 18) (cond (j == 1) (k == 24) false)

-- The operands of type i: a kind is at most 2, an entry that is named is a lower one, and what is not used is 0.
abbrev pub type_operands : Entry → ℕ → Bool
type_operands e i =
    cond (e.tag == 1) (nat_le e.first 2 && e.second == 0 && e.third == 0)
    (cond (e.tag == 2) (nat_lt e.first i && nat_lt e.second i && e.third == 0)
    (nat_lt e.first i && e.second == 0))

-- The operands of a base value: a kind, and a payload that is 0 for Unit.
abbrev pub value_operands : Entry → Bool
value_operands e = nat_le e.first 2 && e.second == 0 && (nat_lt 0 e.first || e.third == 0)

-- The operands of a term that names one lower term, and has no role.
abbrev pub one_operand : Entry → ℕ → Bool
one_operand e i = nat_lt e.first i && e.second == 0 && (role_tag e.tag || e.third == 0)

-- The operands of term i in a job of t types: the terms it names are lower ones, and the claims of an abstraction are types.
abbrev pub term_operands : Entry → ℕ → ℕ → Bool
term_operands e i t =
    cond (e.tag == 16) (value_operands e)
    (cond (e.tag == 17) (nat_lt e.first 1024 && e.second == 0 && e.third == 0)
    (cond (e.tag == 18) (nat_lt e.first i && nat_lt e.second t && nat_lt e.third t)
    (cond (names e.tag == 2) (nat_lt e.first i && nat_lt e.second i && e.third == 0)
    (one_operand e i))))

-- If the tag has a role code, it is a role.
abbrev pub role_fits : (ℕ → Bool) → Entry → Bool
role_fits role e = not (role_tag e.tag) || role e.third
