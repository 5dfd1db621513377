-- Faults by their numbers, from 1.
use Rattle.std.proofs.Common.{◌≡◌, refl, arith, ℕ, zero, suc, ◌<◌, ◌≤◌}
use Rattle.lsl_running.specs.declared.ends.Fault.TheVariants.{MathError, StackHeap, TooManyListens}
use Rattle.lsl_image.specs.Rest.{fault_numbered}

pub first : (n : ℕ) → n < 2 → fault_numbered n ≡ MathError
first zero few = refl
first (suc zero) few = refl
first (suc (suc n)) few = absurd (omega (arith, few))

pub second : (n : ℕ) → 2 ≤ n → n < 3 → fault_numbered n ≡ StackHeap
second zero least few = absurd (omega (arith, least))
second (suc zero) least few = absurd (omega (arith, least))
second (suc (suc zero)) least few = refl
second (suc (suc (suc n))) least few = absurd (omega (arith, few))

pub last : (n : ℕ) → 3 ≤ n → fault_numbered n ≡ TooManyListens
last zero least = absurd (omega (arith, least))
last (suc zero) least = absurd (omega (arith, least))
last (suc (suc zero)) least = absurd (omega (arith, least))
last (suc (suc (suc n))) least = refl
