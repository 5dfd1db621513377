-- Names that are listed.
use Rattle.std.specs.Prelude.{ℕ, zero, suc, ℤ, pos, negsuc, List, length, map, drop, take}
use Rattle.lsl_value.specs.declared.list.Atom.{Atom}
use Rattle.lsl_value.specs.declared.list.Atom.TheVariants.{Str}
use Rattle.lsl_post.specs.declared.parts.Pair.{Pair}

-- the place of the first: below 0 it is 0
abbrev pub first_place : ℤ → ℕ
first_place (pos n) = n
first_place (negsuc n) = 0

-- how many at most, of `all`: all if it is below 1
abbrev pub most_listed : ℤ → ℕ → ℕ
most_listed (pos zero) all = all
most_listed (pos (suc n)) all = suc n
most_listed (negsuc n) all = all

abbrev pub name_of : Pair → Atom
name_of p = Str p.name

-- the names, as strings in their order
abbrev pub names_listed : List Pair → ℤ → ℤ → List Atom
names_listed pairs first count =
    map name_of (take (most_listed count (length pairs)) (drop (first_place first) pairs))
