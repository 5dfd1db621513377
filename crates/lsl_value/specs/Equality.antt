-- Tests of equality: each tells whether two values are the same, kind and all.
use Rattle.std.specs.Prelude.{Bool, false, List}
use Rattle.std.specs.Cmp.Lexicographic.{pointwise}
use Rattle.std.specs.Ordering.{int_eq}
use Rattle.std.specs.Str.{bytes_eq}
use Rattle.lsl_value.specs.declared.list.Atom.{Atom}
use Rattle.lsl_value.specs.declared.list.Atom.TheVariants.{Int, Str, Key}

abbrev pub same_atom : Atom → Atom → Bool
same_atom (Int a) (Int b) = int_eq a b
same_atom (Int a) (Str b) = false
same_atom (Int a) (Key b) = false
same_atom (Str a) (Int b) = false
same_atom (Str a) (Str b) = bytes_eq a b
same_atom (Str a) (Key b) = false
same_atom (Key a) (Int b) = false
same_atom (Key a) (Str b) = false
same_atom (Key a) (Key b) = bytes_eq a b

abbrev pub same_atoms : List Atom → List Atom → Bool
same_atoms = pointwise same_atom
