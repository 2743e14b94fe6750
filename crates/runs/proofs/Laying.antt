-- Entries laid into a table from a place on. Assumes nothing.
use Rattle.std.proofs.Common.{◌≡◌, ℕ, ◌+◌, ◌<◌, ◌≤◌, List, [], ◌∷◌, ◌++◌, length, take, drop, set, sym, ap, ◌∙◌, append_assoc, add-zero, add_assoc, refl, add-one, arith, length-append, length-drop, length-take-le, take-take, drop-drop, take_at, drop_at}
use lib.Seq.{take-append-le, set_split}
use Rattle.std.proofs.lemmas.List.{take-append-drop}
use Rattle.tables.specs.declared.entry.Entry.{Entry}
use Rattle.machine.specs.Plans.{Written}
use Rattle.runs.specs.declared.room.Room.{Room}
use Rattle.runs.specs.Copy.{laid, fresh, Wrote, renewal}

pub laid_nil : (es : List Entry) (u : ℕ) → laid es u [] ≡ es
laid_nil es u = ap (λ k. take u es ++ drop k es) (add-zero u) ∙ take-append-drop u es

pub laid_take : (es : List Entry) (u : ℕ) (new : List Entry) (n : ℕ) → n ≤ u → u ≤ length es → take n (laid es u new) ≡ take n es
laid_take es u new n h k =
    let l = length-take-le u es k in
    take-append-le n (take u es) (new ++ drop (u + length new) es) (omega arith) ∙ take-take n u es h

pub laid_laid : (es : List Entry) (u : ℕ) (xs ys : List Entry) → u ≤ length es → laid (laid es u xs) (u + length xs) ys ≡ laid es u (xs ++ ys)
laid_laid es u xs ys h =
    let T : List Entry = take u es in
    let n : ℕ = u + length xs in
    let L : List Entry = laid es u xs in
    let lT : length T ≡ u = length-take-le u es h in
    let lTx : length (T ++ xs) ≡ n = length-append T xs ∙ ap (λ k. k + length xs) lT in
    let whole : L ≡ (T ++ xs) ++ drop n es = sym (append_assoc T xs (drop n es)) in
    let front : take n L ≡ T ++ xs = ap (take n) whole ∙ take_at (T ++ xs) (drop n es) n lTx in
    let back : drop (n + length ys) L ≡ drop (n + length ys) es =
    sym (drop-drop (length ys) n L) ∙ (ap (λ z. drop (length ys) (drop n z)) whole ∙ (ap (drop (length ys)) (drop_at (T ++ xs) (drop n es) n lTx) ∙ drop-drop (length ys) n es)) in
    let count : n + length ys ≡ u + length (xs ++ ys) = add_assoc u (length xs) (length ys) ∙ sym (ap (λ k. u + k) (length-append xs ys)) in
    ap (λ z. z ++ (ys ++ drop (n + length ys) L)) front
    ∙ (ap (λ z. (T ++ xs) ++ (ys ++ z)) back
    ∙ (append_assoc T xs (ys ++ drop (n + length ys) es)
    ∙ (ap (λ z. T ++ z) (sym (append_assoc xs ys (drop (n + length ys) es)))
    ∙ ap (λ k. T ++ ((xs ++ ys) ++ drop k es)) count)))

pub set_laid : (es : List Entry) (n : ℕ) (x : Entry) → n < length es → set es n x ≡ laid es n (x ∷ [])
set_laid es n x h = set_split es n x h ∙ ap (λ k. take n es ++ (x ∷ drop k es)) (sym (add-one n))

-- nothing is written
pub still : (x : Room) (k : ℕ) (w : Written) → w ≡ record { entries = []; place = k } → Wrote x x w k
still x k w e = record {
  table = sym (ap (λ (z : Written). laid x.free.now x.filled z.entries) e ∙ laid_nil x.free.now x.filled);
  place = sym (ap (λ (z : Written). z.place) e);
  filled = sym (ap (λ (z : Written). x.filled + length z.entries) e ∙ add-zero x.filled);
  base = refl;
  same = refl;
}

-- one entry is written
pub appended : (x y : Room) (e : Entry) → x.filled < length x.free.now → y.free.now ≡ set x.free.now x.filled e → y.filled ≡ x.filled + 1 → y.base ≡ x.base → y.free.ghost_name ≡ x.free.ghost_name →
    Wrote x y (fresh (x.base + x.filled) e) (x.base + x.filled)
appended x y e h t f b n = record { table = t ∙ set_laid x.free.now x.filled e h; place = refl; filled = omega arith; base = b; same = n }

-- one after another
pub joined : (x y z : Room) (v w u : Written) (a c : ℕ) → x.filled ≤ length x.free.now → Wrote x y v a → Wrote y z w c → u ≡ record { entries = v.entries ++ w.entries; place = w.place } → Wrote x z u c
joined x y z v w u a c h V W q = record {
  table = W.table ∙ (ap (λ (t : List Entry). laid t y.filled w.entries) V.table ∙ (ap (λ (k : ℕ). laid (laid x.free.now x.filled v.entries) k w.entries) V.filled
      ∙ (laid_laid x.free.now x.filled v.entries w.entries h ∙ ap (λ (t : Written). laid x.free.now x.filled t.entries) (sym q))));
  place = W.place ∙ sym (ap (λ (t : Written). t.place) q);
  filled = let n = ap (λ (t : Written). length t.entries) q in let m = length-append v.entries w.entries in let i = W.filled in let j = V.filled in omega arith;
  base = W.base ∙ V.base;
  same = W.same ∙ V.same;
}

-- the room stays as long
pub long : (x y : Room) (w : Written) (k : ℕ) → Wrote x y w k → x.filled + length w.entries ≤ length x.free.now → length y.free.now ≡ length x.free.now
long x y w k W h =
    let es : List Entry = x.free.now in
    let u : ℕ = x.filled in
    let a = length-take-le u es (omega arith) in
    let b = length-append (take u es) (w.entries ++ drop (u + length w.entries) es) in
    let c = length-append w.entries (drop (u + length w.entries) es) in
    let d = length-drop (u + length w.entries) es in
    let e = ap length W.table in
    omega arith

-- an entry over what was written
abbrev pub over : ℕ → Entry → List Entry → ℕ → ℕ → Written
over b e xs i j = record { entries = xs ++ (renewal e i j ∷ []); place = b + length xs }

pub over_is : (b : ℕ) (e x : Entry) (xs : List Entry) (i j n : ℕ) → x ≡ renewal e i j → n ≡ b + length xs → over b e xs i j ≡ record { entries = xs ++ (x ∷ []); place = n }
over_is b e x xs i j n r q =
    ap (λ (y : Entry). record { entries = xs ++ (y ∷ []); place = b + length xs }) (sym r) ∙ ap (λ (m : ℕ). record { entries = xs ++ (x ∷ []); place = m }) (sym q)

-- beyond what is written the table is as it was
pub drop_laid : (es : List Entry) (u : ℕ) (new : List Entry) → u ≤ length es → drop (u + length new) (laid es u new) ≡ drop (u + length new) es
drop_laid es u new h =
    let t : List Entry = take u es in
    let n : length (t ++ new) ≡ u + length new = length-append t new ∙ ap (λ k. k + length new) (length-take-le u es h) in
    ap (drop (u + length new)) (sym (append_assoc t new (drop (u + length new) es))) ∙ drop_at (t ++ new) (drop (u + length new) es) (u + length new) n
