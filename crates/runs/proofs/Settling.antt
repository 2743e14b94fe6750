-- What an advance leaves, refused and not. Assumes nothing.
use Rattle.std.proofs.Common.{◌≡◌, ℕ, ◌+◌, List, ◌++◌, length, take, drop, Some, None, Ok, Err, Option, Result, sym, refl, ap, ◌∙◌, arith, length-take-le}
use Rattle.std.proofs.lemmas.List.{take-append-drop}
use Rattle.roles.specs.Meaning.{Meaning}
use Rattle.tables.specs.declared.entry.Entry.{Entry}
use Rattle.machine.specs.Turns.{Advanced}
use Rattle.runs.specs.declared.fault.RunFault.{RunFault}
use Rattle.runs.specs.declared.run.Run.{Run}
use Rattle.runs.specs.declared.run.Progress.{Progress}
use Rattle.runs.specs.Table.{advanced}
use Rattle.runs.specs.Run.{gone, answered, asked_first, settled, run_after, terms_after}
use Rattle.runs.specs.Went.{Went}

abbrev Left : Option RunFault → Run → Run → List Entry → List Entry → Result Progress RunFault → Advanced → Type 0
Left o x y es fs r a = (r ≡ answered o a) × (y ≡ run_after o x a) × (fs ≡ terms_after o es a)

pub refused_so : (o : Option RunFault) (f : RunFault) (x : Run) (es : List Entry) (a : Advanced) → ◌≡◌ {A = Result (Unit {0}) RunFault} (Err f) (asked_first o) → Left o x x es es (Err f) a
refused_so None f x es a h = let z : ◌≡◌ {A = ℕ} 0 1 = cc in let y : ⊥ = omega arith in absurd y
refused_so (Some e) f x es a h = let q : f ≡ e = cc in (ap Err q, refl, refl)

none_so : (o : Option RunFault) (u : Unit {0}) → ◌≡◌ {A = Result (Unit {0}) RunFault} (Ok u) (asked_first o) → o ≡ None
none_so None u h = refl
none_so (Some e) u h = let z : ◌≡◌ {A = ℕ} 0 1 = cc in let y : ⊥ = omega arith in absurd y

module _ (m : Meaning) (k : ℕ) (x y : Run) (es fs : List Entry) (n : ℕ) (W : Went m k x y es fs n) where
  abbrev a : Advanced
  a = gone m x es k

  size : length (take y.used fs) ≡ y.used
  size = length-take-le y.used fs W.low

  run_is : y ≡ settled x (advanced fs n y.used y.current y.condition)
  run_is =
      ap (λ (r : ℕ). record { role = r; steps = y.steps; used = y.used; current = y.current; condition = y.condition }) W.role
      ∙ (ap (λ (s : ℕ). record { role = x.role; steps = s; used = y.used; current = y.current; condition = y.condition }) W.steps
      ∙ ap (λ (u : ℕ). record { role = x.role; steps = x.steps + n; used = u; current = y.current; condition = y.condition }) (sym size))

  table_is : fs ≡ take y.used fs ++ drop (length (take y.used fs)) es
  table_is =
      sym (take-append-drop y.used fs)
      ∙ (ap (λ (z : List Entry). take y.used fs ++ z) W.rest ∙ ap (λ (j : ℕ). take y.used fs ++ drop j es) (sym size))

  pub went_so : (o : Option RunFault) (u : Unit {0}) → ◌≡◌ {A = Result (Unit {0}) RunFault} (Ok u) (asked_first o) → Left o x y es fs (Ok (record { made = n; condition = y.condition })) a
  went_so o u h =
      let q = none_so o u h in
      let e = W.is in (
        ap (λ (b : Advanced). answered None b) (sym e) ∙ ap (λ (p : Option RunFault). answered p a) (sym q),
        run_is ∙ (ap (λ (b : Advanced). settled x b) (sym e) ∙ ap (λ (p : Option RunFault). run_after p x a) (sym q)),
        table_is ∙ (ap (λ (b : Advanced). terms_after None es b) (sym e) ∙ ap (λ (p : Option RunFault). terms_after p es a) (sym q)),
      )
