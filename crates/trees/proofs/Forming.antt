-- From a yes to all questions to what they ask.
use Rattle.std.proofs.Common.{◌≡◌, ℕ, zero, suc, ◌+◌, ◌-◌, ◌<◌, ◌≤◌, Bool, true, eqb, leb, List, length, get_or, Ok, sym, refl, ap, ◌∙◌, zero-add, arith}
use Rattle.std.proofs.lemmas.Bool.{leb-true, le-leb, eqb-true, eq-eqb}
use Rattle.tables.specs.declared.entry.Entry.{Entry}
use Rattle.tables.specs.declared.fault.FormFault.{FormFault}
use Rattle.tables.specs.declared.fault.FormFault.TheVariants.{Size, Named, Unbound}
use Rattle.tables.specs.Asking.{Answer, asks, and_then, of_each}
use Rattle.tables.specs.Entries.{at}
use Rattle.tables.specs.Sizes.{size}
use Rattle.tables.specs.Uses.{uses}
use Rattle.tables.specs.Depths.{depths, bound_at}
use Rattle.tables.specs.Form.{type_asked, ask_type, ask_term, ask_use, ask_bound, entries_asked}
use Rattle.tables.proofs.Asked.{and_first, and_second, asks_yes, each_yes}
use Rattle.tables.proofs.Rooting.{type_yes, term_yes}
use Rattle.trees.specs.Formed.{FitType, FitTerm, Formed}

-- each of the first k was asked
each : (ask : ℕ → Answer) (k i : ℕ) → of_each ask k 0 ≡ Ok tt → i < k → ask i ≡ Ok tt
each ask k i h l = ap ask (sym (zero-add i)) ∙ each_yes ask k 0 h i l

module _ (role : ℕ → Bool) (types terms : List Entry) (h : entries_asked role types terms ≡ Ok tt) where
  abbrev t : ℕ
  t = length types

  abbrev n : ℕ
  n = length terms

  after_types : and_then (of_each (ask_term role t terms) n 0) (and_then (of_each (ask_use t terms) (n - 1) 0) (of_each (ask_bound t terms) n 0)) ≡ Ok tt
  after_types = and_second (of_each (ask_type role types) t 0) _ h

  after_terms : and_then (of_each (ask_use t terms) (n - 1) 0) (of_each (ask_bound t terms) n 0) ≡ Ok tt
  after_terms = and_second (of_each (ask_term role t terms) n 0) _ after_types

  fit_type : (i : ℕ) → i < t → FitType role types i
  fit_type i l =
      let a = each (ask_type role types) t i (and_first (of_each (ask_type role types) t 0) _ h) l in
      let e = type_yes role (at types i) i (and_first (type_asked role (at types i) i) _ a) in
      record {
        tag = e.0;
        operands = e.1;
        code = e.2;
        small = leb-true (size types i) 4096 (asks_yes (leb (size types i) 4096) (Size i (size types i)) (and_second (type_asked role (at types i) i) _ a));
      }

  fit_term : (i : ℕ) → i < n → FitTerm role t terms i
  fit_term i l =
      let e = term_yes role (at terms i) i t (t + i) (each (ask_term role t terms) n i (and_first (of_each (ask_term role t terms) n 0) _ after_types) l) in
      record { tag = e.0; operands = e.1; code = e.2 }

  pub formed_here : Formed role types terms
  formed_here =
      record {
        types_fit = fit_type;
        threaded = record { fit = fit_term; once = λ i l. eqb-true (uses terms i) 1 (asks_yes (eqb (uses terms i) 1) (Named (t + i) (uses terms i)) (each (ask_use t terms) (n - 1) i (and_first (of_each (ask_use t terms) (n - 1) 0) _ after_terms) l)) };
        bound = λ i l. asks_yes (bound_at (at terms i) (get_or (depths terms) i 0)) (Unbound (t + i)) (each (ask_bound t terms) n i (and_second (of_each (ask_use t terms) (n - 1) 0) _ after_terms) l);
      }

pub yes : (b : Bool) (f : FormFault) → b ≡ true → asks b f ≡ Ok tt
yes b f h = ap (λ x. asks x f) h

pub both : (a b : Answer) → a ≡ Ok tt → b ≡ Ok tt → and_then a b ≡ Ok tt
both a b p q = ap (λ x. and_then x b) p ∙ q

-- a yes from each of k makes a yes of the scan
every : (ask : ℕ → Answer) (k i : ℕ) → ((j : ℕ) → i ≤ j → j < i + k → ask j ≡ Ok tt) → of_each ask k i ≡ Ok tt
every ask zero i h = refl
every ask (suc k) i h = both _ _ (h i (omega arith) (omega arith)) (every ask k (i + 1) (λ j a b. h j (omega arith) (omega arith)))

module _ (role : ℕ → Bool) (types terms : List Entry) (ok : Formed role types terms) where
  pub accepted_here : entries_asked role types terms ≡ Ok tt
  accepted_here =
      both _ _ (every (ask_type role types) (length types) 0 (λ i a l.
      let e = ok.types_fit i (omega arith) in
      both _ _ (both _ _ (yes _ _ e.tag) (both _ _ (yes _ _ e.operands) (yes _ _ e.code))) (yes _ _ (le-leb (size types i) 4096 e.small))))
      (both _ _ (every (ask_term role (length types) terms) (length terms) 0 (λ i a l.
      let e = ok.threaded.fit i (omega arith) in
      both _ _ (yes _ _ e.tag) (both _ _ (yes _ _ e.operands) (yes _ _ e.code))))
      (both _ _ (every (ask_use (length types) terms) (length terms - 1) 0 (λ i a l. yes _ _ (eq-eqb (uses terms i) 1 (ok.threaded.once i (omega arith)))))
      (every (ask_bound (length types) terms) (length terms) 0 (λ i a l. yes _ _ (ok.bound i (omega arith))))))
