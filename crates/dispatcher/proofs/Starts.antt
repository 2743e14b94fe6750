-- A start is allowed exactly where the role on duty dominates the bound. Assumes nothing.
use Rattle.std.proofs.Common.{◌≡◌, ℕ, Bool, true, false, cond, not, ◌↔◌, sym, refl, ◌∙◌, arith, Ok, Err, Result}
use Rattle.roles.specs.Meaning.{Meaning, Lawful}
use Rattle.roles.specs.declared.scheme.SchemeFault.TheVariants.{Unsound}
use Rattle.dispatcher.specs.declared.report.Codes.{Codes}
use Rattle.dispatcher.specs.declared.report.Refusal.{Refusal}
use Rattle.dispatcher.specs.declared.report.Refusal.TheVariants.{Scheme, BoundNoRole, DutyNoRole}
use Rattle.dispatcher.specs.declared.report.Decision.{Decision}
use Rattle.dispatcher.specs.declared.report.Decision.TheVariants.{MayStart, MayNotStart}
use Rattle.dispatcher.specs.Decide.{compared}

-- the last test passed
passed : (sound bound duty dominates : Bool) → cond (not sound) (Err (Scheme Unsound)) (cond (not bound) (Err BoundNoRole) (cond (not duty) (Err DutyNoRole) (Ok (cond dominates MayStart MayNotStart)))) ≡ Ok MayStart → dominates ≡ true
passed false b d o e = let z : ◌≡◌ {A = ℕ} 0 1 = cc in absurd (omega arith)
passed true false d o e = let z : ◌≡◌ {A = ℕ} 0 1 = cc in absurd (omega arith)
passed true true false o e = let z : ◌≡◌ {A = ℕ} 0 1 = cc in absurd (omega arith)
passed true true true true e = refl
passed true true true false e = let z : ◌≡◌ {A = ℕ} 0 1 = cc in absurd (omega arith)

pub starts_exactly : {m : Meaning} → Lawful m → (codes : Codes) (d : Result Decision Refusal) → d ≡ compared m codes → (d ≡ Ok MayStart) ↔ (m.dom codes.on_duty codes.bound ≡ true)
starts_exactly {m = m} laws codes d e = (λ s. passed m.sound (m.role codes.bound) (m.role codes.on_duty) (m.dom codes.on_duty codes.bound) (sym e ∙ s), λ o. e ∙ decided o)
  where
    decided : m.dom codes.on_duty codes.bound ≡ true → compared m codes ≡ Ok MayStart
    decided o =
        let r = laws.dom_roles _ _ o in
        let s = laws.role_sound _ r.0 in
        rw (s, r.1, r.0, o)
