-- Link numbers: which prims a number names. The root of several prims has number 1 and the others follow; a
-- lone prim has number 0.
use Rattle.std.specs.Prelude.{ℕ, ◌+◌, ◌-◌, ℤ, pos, negsuc, Bool, true, false, not, nat_eq, nat_le, nat_lt, if◌then◌else◌, Option, Some, None}
use Rattle.std.proofs.Common.{zero, suc}

-- the number of the prim at this place, among `count`
abbrev pub link_of : ℕ → ℕ → ℕ
link_of count place = if nat_eq count 1 then 0 else place + 1

-- the place of the prim that a number names, among `count`: 0 and 1 both name the root
abbrev pub prim_named : ℕ → ℤ → Option ℕ
prim_named count (pos n) = if nat_le n 1 then Some 0 else (if nat_le n count then Some (n - 1) else None)
prim_named count (negsuc n) = None

-- the place of the prim that a number names, where -4 names the one that asks
abbrev pub prim_or_this : ℕ → ℕ → ℤ → Option ℕ
prim_or_this count this (negsuc (suc (suc (suc zero)))) = Some this
prim_or_this count this n = prim_named count n

abbrev pub is_this : Option ℕ → ℕ → Bool
is_this None place = false
is_this (Some n) place = nat_eq n place

-- whether a message to this number is for the prim at this place: -1 names all prims, -2 all but the sender's,
-- -3 all but the root, -4 the sender's, and any other number one prim or none
abbrev pub is_for : ℕ → ℕ → ℤ → ℕ → Bool
is_for count sender (negsuc zero) place = true
is_for count sender (negsuc (suc zero)) place = not (nat_eq place sender)
is_for count sender (negsuc (suc (suc zero))) place = nat_lt 0 place
is_for count sender (negsuc (suc (suc (suc zero)))) place = nat_eq place sender
is_for count sender (negsuc (suc (suc (suc (suc n))))) place = false
is_for count sender (pos n) place = is_this (prim_named count (pos n)) place
