-- A refusal that has a fault.
use Rattle.std.proofs.Common.{◌≡◌, ℕ, Result, Ok, Err, refl, ap, sym, ◌∙◌}
use Rattle.std.specs.Prelude.{IsErrOf}
use Rattle.lsl_text.specs.declared.Refusal.{Refusal}
use Rattle.lsl_text.specs.declared.Refusal.TheVariants.{Fault, NoMemory}
use Rattle.lsl_build.specs.declared.faults.BuildFault.{BuildFault}
use Rattle.lsl_notes.specs.declared.faults.CardFault.{CardFault}
use Rattle.lsl_top.specs.Meant.{bad_at, refused_at}
use Rattle.lsl_top.specs.declared.building.Refused.{Refused}
use Rattle.lsl_top.specs.declared.noting.BadCard.{BadCard}

pub err-one : {T E : Type 0} (a b : E) → IsErrOf {T = T} (Err a) b → a ≡ b
err-one {T = T} {E = E} a b e = ap value e
  where
    value : Result T E → E
    value (Ok t) = a
    value (Err f) = f

-- the refusal at a place has the text's fault, and that place
pub record IsAt (place : ℕ) (refusal : Refusal BuildFault) (refused : Refused) : Type 0 where
  pub fault : BuildFault
  pub was : refusal ≡ Fault fault
  pub is : record { place = place; fault = fault } ≡ refused

at-place : (place : ℕ) (refusal : Refusal BuildFault) (refused : Refused) → refused_at place refusal ≡ Fault refused
    → IsAt place refusal refused
at-place place (Fault fault) refused e = record { fault = fault; was = refl; is = ap value e }
  where
    value : Refusal Refused → Refused
    value (Fault r) = r
    value NoMemory = refused
at-place place NoMemory refused e = absurd (cc)

pub refused-place : {T : Type 0} (place : ℕ) (refusal : Refusal BuildFault) (result : Refusal Refused)
    (refused : Refused)
    → result ≡ refused_at place refusal → IsErrOf {T = T} (Err result) (Fault refused) → IsAt place refusal refused
refused-place {T = T} place refusal result refused e is =
    at-place place refusal refused (sym e ∙ err-one {T = T} result (Fault refused) is)

-- the same for a text that isn't a notecard
pub record IsBadThere (place : ℕ) (refusal : Refusal CardFault) (bad : BadCard) : Type 0 where
  pub fault : CardFault
  pub was : refusal ≡ Fault fault
  pub is : record { place = place; fault = fault } ≡ bad

bad-there : (place : ℕ) (refusal : Refusal CardFault) (bad : BadCard) → bad_at place refusal ≡ Fault bad
    → IsBadThere place refusal bad
bad-there place (Fault fault) bad e = record { fault = fault; was = refl; is = ap value e }
  where
    value : Refusal BadCard → BadCard
    value (Fault b) = b
    value NoMemory = bad
bad-there place NoMemory bad e = absurd (cc)

pub bad-place : {T : Type 0} (place : ℕ) (refusal : Refusal CardFault) (result : Refusal BadCard) (bad : BadCard)
    → result ≡ bad_at place refusal → IsErrOf {T = T} (Err result) (Fault bad) → IsBadThere place refusal bad
bad-place {T = T} place refusal result bad e is =
    bad-there place refusal bad (sym e ∙ err-one {T = T} result (Fault bad) is)
