-- Which limits a script gets, and which it doesn't.
use Rattle.std.proofs.Common.{◌≡◌, ◌⊎◌, ⊎_elim, ℕ, ◌+◌, ◌<◌, ◌≤◌, ℤ, pos, negsuc, ◌<ℤ◌, Bool, true, false, ◌&&◌, cond, nat_le, Some, None, refl, ap, ap₂, ◌∙◌, arith}
use Rattle.std.proofs.lemmas.Bool.Decides.{nat_tests}
use Rattle.std.proofs.lemmas.Int.{ints}
use Rattle.lsl_running.specs.Charging.{default_limit}
use Rattle.lsl_running.specs.Limits.{granted}

pub granted_within : (n charge : ℕ) → charge + 8 ≤ n → n ≤ default_limit → granted (pos n) charge ≡ Some n
granted_within n charge low high =
    let above : nat_le (charge + 8) n ≡ true = grind (arith, nat_tests) in
    let below : nat_le n default_limit ≡ true = grind (arith, nat_tests) in
    ap₂ (λ a b. cond (a && b) (Some n) None) above below

neither : (n : ℕ) (b : Bool) → cond (b && false) (Some n) None ≡ None
neither n true = refl
neither n false = refl

pub granted_without : (n : ℤ) (charge : ℕ) → (n <ℤ pos (charge + 8)) ⊎ (pos default_limit <ℤ n)
    → granted n charge ≡ None
granted_without (negsuc n) charge outside = refl
granted_without (pos n) charge outside = ⊎_elim low high outside
  where
    low : pos n <ℤ pos (charge + 8) → granted (pos n) charge ≡ None
    low lt =
        let less : n < charge + 8 = grind (arith, ints) in
        let not_above : nat_le (charge + 8) n ≡ false = grind (arith, nat_tests) in
        ap (λ a. cond (a && nat_le n default_limit) (Some n) None) not_above

    high : pos default_limit <ℤ pos n → granted (pos n) charge ≡ None
    high lt =
        let more : default_limit < n = grind (arith, ints) in
        let not_below : nat_le n default_limit ≡ false = grind (arith, nat_tests) in
        ap (λ b. cond (nat_le (charge + 8) n && b) (Some n) None) not_below ∙ neither n (nat_le (charge + 8) n)
