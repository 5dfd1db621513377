use Rattle.std.proofs.Common.{◌≡◌, ◌≢◌, ℕ, Bool, true, false, nat_eq, refl, ap}
use Rattle.std.specs.Prelude.{Some, None, if◌then◌else◌}
use Rattle.std.proofs.lemmas.Bool.{eq-eqb, eqb-true}
use Rattle.lsl_script.specs.declared.going.Going.TheVariants.{Stays, Leaves, Enters}
use Rattle.lsl_script.specs.GoingLaws.{ResetsRestart}
use Rattle.lsl_script.proofs.laws.ends_lead_on.Goals as goal

resets : ResetsRestart
resets None state exits = refl
resets (Some n) state exits = refl

differ : (n state : ℕ) → n ≢ state → nat_eq n state ≡ false
differ n state apart = go (nat_eq n state) refl where
  go : (b : Bool) → nat_eq n state ≡ b → b ≡ false
  go true e = absurd (apart (eqb-true n state e))
  go false e = refl

pub returns-clause-reset : goal.returns-clause-reset
returns-clause-reset c = resets

pub returns-clause-stays : goal.returns-clause-stays
returns-clause-stays c = λ state exits. (
  refl,
  ap (λ (b : Bool). if b then Stays else (if exits then Leaves state else Enters state)) (eq-eqb state state refl),
)

pub returns-clause-changes : goal.returns-clause-changes
returns-clause-changes c = λ n state apart. (
  ap (λ (b : Bool). if b then Stays else Leaves n) (differ n state apart),
  ap (λ (b : Bool). if b then Stays else Enters n) (differ n state apart),
)
