-- Term entries by their tags. Assumes nothing.
use Rattle.std.proofs.Common.{◌≡◌, ℕ, zero, suc, ◌<◌, leb, List, length, get_or, sym, subst, ⊎_elim, arith}
use Rattle.std.proofs.lemmas.Bool.{and_from, le-leb, cases_eq}
use Rattle.tables.specs.declared.entry.Entry.{Entry}
pub use Rattle.trees.proofs.ByTag.{made, At, retag}
use Rattle.trees.proofs.ByTag.{by_term_tag}
use Rattle.machine.specs.Labelled.{head, tree}
use Rattle.machine.specs.Theorems.{rooted, Lower}
use Rattle.machine.proofs.Unfolding.{trees_unfold_lem}
use Rattle.runs.specs.Reach.{no_entry, Tagged, Ground}

-- what holds at each tag holds of every term entry
pub by_tag : (P : Entry → Type 0) → At P 16 → At P 17 → At P 18 → At P 19 → At P 20 → At P 21 → At P 22 → At P 23 → At P 24 → At P 25 → At P 26 → (e : Entry) → Tagged e → P e
by_tag P p16 p17 p18 p19 p20 p21 p22 p23 p24 p25 p26 e t =
    by_term_tag P p16 p17 p18 p19 p20 p21 p22 p23 p24 p25 p26 e (and_from (leb 16 e.tag) (leb e.tag 26) (le-leb 16 e.tag t.0) (le-leb e.tag 26 t.1))

-- the tree of an entry by those of its operands
pub tree_at : (us : List Entry) (i : ℕ) (e : Entry) → Ground us → i < length us → get_or us i no_entry ≡ e → tree us i ≡ rooted i (tree us e.first) (tree us e.second) (head e)
tree_at us i e g l p =
    let F : Entry → Type 0 = λ x. tree us i ≡ rooted i (tree us x.first) (tree us x.second) (head x) in
    subst F p (trees_unfold_lem us i no_entry l (g.lowered i l))

pub lower_at : (us : List Entry) (i : ℕ) (e : Entry) → Ground us → i < length us → get_or us i no_entry ≡ e → Lower i e (head e)
lower_at us i e g l p = let F : Entry → Type 0 = λ x. Lower i x (head x) in subst F p (g.lowered i l)

pub tagged_at : (us : List Entry) (i : ℕ) (e : Entry) → Ground us → i < length us → get_or us i no_entry ≡ e → Tagged e
tagged_at us i e g l p = subst Tagged p (g.tagged i l)

pub small_at : (us : List Entry) (i : ℕ) (e : Entry) → Ground us → i < length us → get_or us i no_entry ≡ e → e.tag ≡ 17 → e.first < 1024
small_at us i e g l p = let F : Entry → Type 0 = λ x. x.tag ≡ 17 → x.first < 1024 in subst F p (g.small i l)

-- what holds at each number if it holds at all below it
pub below_all : (P : ℕ → Type 0) (n : ℕ) → ((i : ℕ) → i < n → ((k : ℕ) → k < i → P k) → P i) → (k : ℕ) → k < n → P k
below_all P zero f k h = absurd (omega arith)
below_all P (suc n) f k h =
    let ih = below_all P n (λ i l b. f i (omega arith) b) in
    ⊎_elim (λ e. subst P (sym e) (f n (omega arith) ih)) (λ ne. ih k (omega arith)) (cases_eq k n)
