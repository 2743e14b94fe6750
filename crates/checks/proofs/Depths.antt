-- The depth of an operand goes by the depth of its term, in a job whose terms are named once.
use Rattle.std.proofs.Common.{◌≡◌, ℕ, ◌-◌, ◌<◌, ◌≤◌, not, ◌||◌, eqb, ltb, ◌⊎◌, List, length, get_or, take, sym, refl, ap, ◌∙◌, inl, inr, arith}
use Rattle.std.proofs.lemmas.Bool.{and_from, eq-eqb, lt-ltb, ltb-true, cases_eq}
use Rattle.roles.specs.Meaning.{Meaning}
use Rattle.tables.specs.declared.entry.Entry.{Entry}
use Rattle.tables.specs.Depths.{depths}
use Rattle.tables.specs.Entries.{at, names, operand_of}
use Rattle.trees.proofs.Handing.{depth_last, depth_first_lem, depth_second_lem}
use Rattle.trees.proofs.Unfolding.{lower}
use Rattle.walks.specs.Places.{Walkable}
use Rattle.checks.specs.Frames.{deeper_of}

module _ (m : Meaning) (t : ℕ) (T es : List Entry) (w : Walkable m t T es) where
  -- the last term stands under no binder
  pub root_depth : get_or (depths es) (length es - 1) 0 ≡ 0
  root_depth = depth_last es (lower m.role (take t T) es w.formed.threaded) w.few w.some

  module _ (k : ℕ) (l : k < length es) where
    abbrev E : Entry
    E = at es k

    first_down : 0 < names E.tag → get_or (depths es) E.first 0 ≡ deeper_of E 0 (get_or (depths es) k 0)
    first_down h =
        let low = lower m.role (take t T) es w.formed.threaded in
        let j : E.first < k = (low k l).first h in
        let once = w.formed.threaded.once E.first (omega arith) in
        let few = w.few in
        depth_first_lem es low few k E.first l (omega arith) once (and_from _ _ (lt-ltb 0 (names E.tag) h) (eq-eqb E.first E.first refl))

    second_down : 1 < names E.tag → get_or (depths es) E.second 0 ≡ deeper_of E 1 (get_or (depths es) k 0)
    second_down h =
        let low = lower m.role (take t T) es w.formed.threaded in
        let j : E.second < k = (low k l).second h in
        let once = w.formed.threaded.once E.second (omega arith) in
        let few = w.few in
        depth_second_lem es low few k E.second l (omega arith) once (and_from _ _ (lt-ltb 1 (names E.tag) h) (eq-eqb E.second E.second refl))

    pub depth_down : (s : ℕ) → s ≤ 1 → s < names E.tag → get_or (depths es) (operand_of E s) 0 ≡ deeper_of E s (get_or (depths es) k 0)
    depth_down s o h = go (cases_eq s 0)
      where
        go : (s ≡ 0) ⊎ (s ≡ 0 → ⊥) → get_or (depths es) (operand_of E s) 0 ≡ deeper_of E s (get_or (depths es) k 0)
        go (inl z) = rw z (first_down (omega arith))
        go (inr n) = let z : s ≡ 1 = omega arith in rw z (second_down (omega arith))

    pub bound_here : E.tag ≡ 17 → E.first < get_or (depths es) k 0
    bound_here h = ltb-true E.first (get_or (depths es) k 0) (ap (λ z. not (eqb z 17) || ltb E.first (get_or (depths es) k 0)) (sym h) ∙ w.formed.bound k l)
