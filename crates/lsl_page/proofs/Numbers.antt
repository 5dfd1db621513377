-- The number that answers a request, by its result.
use Rattle.std.proofs.Common.{◌≡◌, ℕ, ◌<◌, ◌≤◌, refl, arith}
use Rattle.std.specs.Prelude.{Result, Ok, Err, IfOk, IsErrOf, OnErr}
use Rattle.lsl_top.specs.Status.{number_of}
use Rattle.lsl_top.specs.declared.status.Status.{Status}
use Rattle.lsl_page.specs.declared.words.Refused.{Refused}
use Rattle.lsl_page.specs.declared.words.Refused.TheVariants.{NotInForm, NoMemory}
use Rattle.lsl_page.proofs.Headlines.{number-below}

-- an answer has this number
pub record Numbered (answer : Result Status Refused) (n : ℕ) : Type 0 where
  pub ok : IfOk answer (λ (status : Status). n ≡ number_of status)
  pub form : IsErrOf answer NotInForm → n ≡ 9
  pub memory : IsErrOf answer NoMemory → n ≡ 10

-- below 9 it is a status's; what holds of each status of an answer holds of it
pub status-of : (answer : Result Status Refused) (n : ℕ) (P Q : Status → Type 0) → Numbered answer n → IfOk answer P
    → IfOk answer Q → n < 9 → (status : Status) × (n ≡ number_of status) × P status × Q status
status-of (Ok status) n P Q it p q below = (status, it.ok, p, q)
status-of (Err NotInForm) n P Q it p q below = let e = it.form refl in absurd (omega (arith, e, below))
status-of (Err NoMemory) n P Q it p q below = let e = it.memory refl in absurd (omega (arith, e, below))

-- 9 is that of a request that isn't in its form
pub form-of : (answer : Result Status Refused) (n : ℕ) → Numbered answer n → n ≡ 9 → IsErrOf answer NotInForm
form-of (Ok status) n it e = let o = it.ok in absurd (omega (arith, e, o, number-below status))
form-of (Err NotInForm) n it e = refl
form-of (Err NoMemory) n it e = let o = it.memory refl in absurd (omega (arith, e, o))

-- from 9 on there is no status
pub refused-of : (answer : Result Status Refused) (n : ℕ) (P : Type 0) → Numbered answer n → OnErr answer P → 9 ≤ n → P
refused-of (Ok status) n P it p high = let o = it.ok in absurd (omega (arith, high, o, number-below status))
refused-of (Err refused) n P it p high = p

pub most-ten : (answer : Result Status Refused) (n : ℕ) → Numbered answer n → n ≤ 10
most-ten (Ok status) n it = let o = it.ok in omega (arith, o, number-below status)
most-ten (Err NotInForm) n it = let o = it.form refl in omega (arith, o)
most-ten (Err NoMemory) n it = let o = it.memory refl in omega (arith, o)
