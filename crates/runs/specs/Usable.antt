-- Can a run go on in a table? Assumes nothing.
use Rattle.std.specs.Prelude.{ℕ, zero, suc, ◌+◌, Bool, true, cond, ◌&&◌, List, length, take, ◌==◌, nat_le, nat_lt}
use Rattle.tables.specs.declared.entry.Entry.{Entry}
use Rattle.tables.specs.Entries.{at, term_tag, term_operands, role_fits}
use Rattle.machine.specs.Labelled.{tree, closed}

-- The operands of term i, claims not looked at: of an abstraction only the body is.
abbrev pub plain_operands : Entry → ℕ → Bool
plain_operands e i = cond (e.tag == 18) (nat_lt e.first i) (term_operands e i 0)

-- Has term i a tag of a term, operands as the tag asks, and a role for a role code?
abbrev pub passes : (ℕ → Bool) → Entry → ℕ → Bool
passes role e i = term_tag e.tag && plain_operands e i && role_fits role e

-- Do the entries i, i + 1, …, k of them, pass?
abbrev pub all_pass : (ℕ → Bool) → List Entry → ℕ → ℕ → Bool
all_pass role es zero i = true
all_pass role es (suc k) i = passes role (at es i) i && all_pass role es k (i + 1)

-- Has the table at most 16,384 places, u of which are used and pass, and is the tree of entry c closed?
abbrev pub usable : (ℕ → Bool) → List Entry → ℕ → ℕ → Bool
usable role es u c = nat_le (length es) 16384 && nat_le u (length es) && all_pass role es u 0 && closed 0 (tree (take u es) c)
