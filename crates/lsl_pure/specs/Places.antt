-- Places of a text or a list, and ranges of places.
use Rattle.std.specs.Prelude.{ℕ, zero, suc, min, ℤ, pos, negsuc, ◌+ℤ◌, nat_lt, nat_le, int_lt, int_le, Bool, ◌&&◌, ◌||◌, if◌then◌else◌, List, [], ◌∷◌}

-- a negative place counts from the end of n places
abbrev pub place_of : ℕ → ℤ → ℤ
place_of n p = if int_lt p (pos 0) then p +ℤ pos n else p

-- the nearest place from 0 to n
abbrev pub clamped : ℕ → ℤ → ℕ
clamped n (pos p) = min p n
clamped n (negsuc p) = 0

-- place k stands in the range from one place to another: where the first is behind the last one, the range
-- is what stands up to the last and from the first one on
abbrev pub in_range_between : ℤ → ℤ → ℕ → Bool
in_range_between first last k =
    if int_le first last then int_le first (pos k) && int_le (pos k) last
    else (int_le (pos k) last || int_le first (pos k))

-- the same for places that may count from the end of n places
abbrev pub in_range : ℕ → ℤ → ℤ → ℕ → Bool
in_range n first last = in_range_between (place_of n first) (place_of n last)

-- the elements whose places pass the test, in order
abbrev pub pick : {X : Type 0} → (ℕ → Bool) → List X → List X
pick passes [] = []
pick passes (x ∷ xs) = if passes zero then x ∷ pick (λ k. passes (suc k)) xs else pick (λ k. passes (suc k)) xs

-- the place stands from start up to end
abbrev pub within : ℕ → ℕ → ℕ → Bool
within start end k = nat_le start k && nat_lt k end
