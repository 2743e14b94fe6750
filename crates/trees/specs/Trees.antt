-- The types and terms that entries stand for, made in one pass upward: an entry names lower ones, so their trees are there. Assumes nothing.
use Rattle.std.specs.Prelude.{ℕ, Bool, true, cond, ◌&&◌, List, ◌==◌, slice_index_or}
use Rattle.roles.specs.Meaning.{Meaning}
use Rattle.calculus.specs.Subtyping.{well_coded}
use Rattle.calculus.specs.Syntax.{Kind, unit_kind, number_kind, text_kind, Ty, base, function, guarded, computation, Term, constant, variable, abstraction, application, fix, guard, check, unit, let_in, raise, restrict}
use Rattle.tables.specs.declared.entry.Entry.{Entry}
use Rattle.tables.specs.Entries.{at}
use Rattle.tables.specs.Ladder.{rung}

-- The kind that a number stands for.
abbrev pub kind : ℕ → Kind
kind k = cond (k == 0) unit_kind (cond (k == 1) number_kind text_kind)

-- The type of an entry, by the types of the entries that it names.
abbrev pub type_by : Entry → (ℕ → Ty) → Ty
type_by e w =
    cond (e.tag == 1) (base (kind e.first))
    (cond (e.tag == 2) (function (w e.first) (w e.second))
    (cond (e.tag == 3) (guarded e.third (w e.first)) (computation e.third (w e.first))))

-- The type of entry k by the list of the types below it.
abbrev pub type_step : List Entry → ℕ → List Ty → Ty
type_step types k ts = type_by (at types k) (λ i. slice_index_or ts i (base unit_kind))

-- The type that entry k of a table stands for.
unfoldable pub type_of : List Entry → ℕ → Ty
type_of types k = rung (type_step types) k

-- The term of an entry, by the types that its claims name and the terms of the entries that it names.
abbrev pub term_by : (ℕ → Ty) → Entry → (ℕ → Term) → Term
term_by claim e w =
    cond (e.tag == 16) (constant (kind e.first) e.third)
    (cond (e.tag == 17) (variable e.first)
    (cond (e.tag == 18) (abstraction (claim e.second) (claim e.third) (w e.first))
    (cond (e.tag == 19) (application (w e.first) (w e.second))
    (cond (e.tag == 20) (fix (w e.first))
    (cond (e.tag == 21) (guard e.third (w e.first))
    (cond (e.tag == 22) (check (w e.first))
    (cond (e.tag == 23) (unit (w e.first))
    (cond (e.tag == 24) (let_in (w e.first) (w e.second))
    (cond (e.tag == 25) (raise e.third (w e.first)) (restrict e.third (w e.first)))))))))))

-- The term of entry k by the list of the terms below it.
abbrev pub term_step : List Entry → List Entry → ℕ → List Term → Term
term_step types terms k es = term_by (type_of types) (at terms k) (λ i. slice_index_or es i (variable 0))

-- The term that entry k stands for, its claims being types of the first table.
unfoldable pub term_of : List Entry → List Entry → ℕ → Term
term_of types terms k = rung (term_step types terms) k

-- Are all role codes of a term, its claims included, roles?
abbrev pub coded : Meaning → Term → Bool
coded m (constant k p) = true
coded m (variable i) = true
coded m (abstraction t u e) = well_coded m t && well_coded m u && coded m e
coded m (application f x) = coded m f && coded m x
coded m (fix f) = coded m f
coded m (guard a e) = m.role a && coded m e
coded m (check e) = coded m e
coded m (unit e) = coded m e
coded m (let_in e u) = coded m e && coded m u
coded m (raise a e) = m.role a && coded m e
coded m (restrict a e) = m.role a && coded m e
