-- What follows if a script got a limit.
use Rattle.std.proofs.Common.{◌≡◌, ℕ, ◌+◌, ◌<◌, ◌≤◌, ℤ, pos, negsuc, Bool, true, false, ◌&&◌, cond, nat_le, Some, None, refl, arith}
use Rattle.std.proofs.lemmas.Bool.Decides.{nat_tests}
use Rattle.lsl_running.specs.Charging.{default_limit}
use Rattle.lsl_running.specs.Limits.{granted}

both : (a b : Bool) → (a && b) ≡ true → (a ≡ true) × (b ≡ true)
both true b e = (refl, e)
both false b e = absurd cc

-- the charge and an integer are within it, and it is at most the first one
pub granted_told : (n : ℤ) (charge m : ℕ) → granted n charge ≡ Some m
    → (charge + 8 ≤ m) × (m ≤ default_limit)
granted_told (pos n) charge m got = by_test (nat_le (charge + 8) n && nat_le n default_limit) refl got
  where
    by_test : (b : Bool) → (nat_le (charge + 8) n && nat_le n default_limit) ≡ b
        → cond b (Some n) None ≡ Some m → (charge + 8 ≤ m) × (m ≤ default_limit)
    by_test true e is =
        let same : n ≡ m = cc in
        let tests = both (nat_le (charge + 8) n) (nat_le n default_limit) e in
        let low : nat_le (charge + 8) n ≡ true = tests.0 in
        let high : nat_le n default_limit ≡ true = tests.1 in
        let above : charge + 8 < n + 1 = grind (arith, nat_tests) in
        let below : n < 65537 = grind (arith, nat_tests) in
        (omega arith, omega arith)
    by_test false e is = absurd cc
granted_told (negsuc n) charge m got = absurd cc
