-- Trees of appended tables, and of an entry by its operands. Assumes nothing.
use Rattle.std.proofs.Common.{◌≡◌, ℕ, suc, ◌<◌, List, [], ◌∷◌, ◌++◌, length, get_or, take, drop, sym, refl, ap, ◌∙◌, subst, append_assoc, arith, length-take-le}
use lib.ListN.{get_or-append}
use lib.Seq.{split_at, get_or-append_seam}
use Rattle.tables.specs.declared.entry.Entry.{Entry}
use Rattle.machine.specs.Labelled.{Head, none, leafs, ones, twos, head, Tree, stray, leaf, one, two, planted, node, trees, tree}
use Rattle.machine.specs.Theorems.{TreesStay, rooted, Lower, TreesUnfold}
use Rattle.machine.proofs.Growing.{grow_append, grow_extends, length_trees}

pub trees_stay_lem : TreesStay
trees_stay_lem es new i l =
    let k = grow_extends (trees es) new in
    ap (λ (z : List Tree). get_or z i stray) (grow_append [] es new ∙ k.1)
    ∙ get_or-append (trees es) k.0 stray i (subst (λ (n : ℕ). i < n) (sym (length_trees es)) l)

planted_rooted : (acc : List Tree) (i : ℕ) (t u : Tree) (e : Entry) (h : Head) → length acc ≡ i → Lower i e h →
    (e.first < i → get_or acc e.first stray ≡ t) → (e.second < i → get_or acc e.second stray ≡ u) → planted acc e.first e.second h ≡ rooted i t u h
planted_rooted acc i t u e none n l f g = refl
planted_rooted acc i t u e (leafs h) n l f g = ap (λ k. leaf k h) n
planted_rooted acc i t u e (ones h) n l f g = ap (λ k. one k h (get_or acc e.first stray)) n ∙ ap (one i h) (f l)
planted_rooted acc i t u e (twos h) n l f g =
    ap (λ k. two k h (get_or acc e.first stray) (get_or acc e.second stray)) n ∙ ap (λ z. two i h z (get_or acc e.second stray)) (f l.0) ∙ ap (two i h t) (g l.1)

pub trees_unfold_lem : TreesUnfold
trees_unfold_lem es i d l k =
    let e = get_or es i d in
    let low = take i es in
    let n : length low ≡ i = length-take-le i es (omega arith) in
    let whole : es ≡ low ++ e ∷ drop (suc i) es = split_at es i d l in
    let more = grow_extends (trees low ++ (node (trees low) e ∷ [])) (drop (suc i) es) in
    let all : trees es ≡ (trees low ++ (node (trees low) e ∷ [])) ++ more.0 = ap trees whole ∙ grow_append [] low (e ∷ drop (suc i) es) ∙ more.1 in
    let tn : length (trees low) ≡ i = length_trees low ∙ n in
    let at : tree es i ≡ node (trees low) e =
    ap (λ (z : List Tree). get_or z i stray) (all ∙ append_assoc (trees low) (node (trees low) e ∷ []) more.0)
    ∙ ap (λ (j : ℕ). get_or (trees low ++ (node (trees low) e ∷ more.0)) j stray) (sym tn)
    ∙ get_or-append_seam (trees low) (node (trees low) e) more.0 stray in
    let below : (j : ℕ) → j < i → get_or (trees low) j stray ≡ tree es j =
    λ j h. sym (ap (λ (z : List Entry). tree z j) whole ∙ trees_stay_lem low (e ∷ drop (suc i) es) j (omega arith)) in
    at ∙ planted_rooted (trees low) i (tree es e.first) (tree es e.second) e (head e) tn k (below e.first) (below e.second)
