-- A line, its end, and what follows.
use Rattle.std.proofs.Common.{◌≡◌, ℕ, ◌≤◌, ◌-◌, List, [], ◌∷◌, ◌++◌, length, take, drop, get_or, arith}
use Rattle.std.proofs.lemmas.Grind.{common_steps}

pub line_back : (s p x : List ℕ) → s ≡ p ++ x → 1 ≤ length x → get_or x 0 0 ≡ 10
    → p ++ 10 ∷ take (length x - 1) (drop 1 x) ≡ s
line_back s p [] e h k = absurd (omega arith)
line_back s p (b ∷ x) e h k = grind (arith, common_steps, e, k)
