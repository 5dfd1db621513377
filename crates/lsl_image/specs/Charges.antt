-- The charge of saved integers.
use Rattle.std.specs.Prelude.{ℕ, ◌*◌}

-- each of these integers is charged 8
abbrev pub integers_charge : ℕ → ℕ
integers_charge count = 8 * count
