-- How long quoted bytes are that begin with a byte.
use Rattle.std.proofs.Common.{◌≡◌, ℕ, ◌+◌, ◌<◌, ◌==◌, true, false, if◌then◌else◌, List, [], ◌∷◌, length, drop, get_or, refl, arith}
use Rattle.lsl_marks.specs.Lines.{after_byte, told_length}

pub length_step : (b : ℕ) (more : List ℕ) → told_length (b ∷ more) ≡ told_length (after_byte b more) + 1
length_step b [] = refl
length_step b (c ∷ rest) =
    elim (b == 92) as (λ t. (if t then told_length rest + 1 else told_length (c ∷ rest) + 1)
    ≡ told_length (if t then rest else c ∷ rest) + 1) [ true ↦ refl | false ↦ refl ]

pub length_first : (xs : List ℕ) → 0 < length xs
    → told_length xs ≡ told_length (after_byte (get_or xs 0 0) (drop 1 xs)) + 1
length_first [] h = absurd (omega arith)
length_first (b ∷ more) h = length_step b more
