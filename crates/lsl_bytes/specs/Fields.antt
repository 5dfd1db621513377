-- The bytes of each field, and what a field can hold. Numbers are big-endian.
use Rattle.std.specs.Prelude.{◌≡◌, ℕ, ℤ, ◌<◌, ◌≤◌, ◌^◌, List, [], ◌∷◌, ◌++◌, length, FitsSigned}
use Rattle.std.specs.Int.{w16, w32, w64, to_be_bytes, cast_unsigned}
use Rattle.std.specs.List.{flat_map, AllByRecursion}
use Rattle.std.specs.Str.{encode_utf8_all}
use Rattle.lsl_value.specs.Limits.{most_items}
use Rattle.lsl_value.specs.Text.{IsText}
use Rattle.lsl_value.specs.declared.list.Atom.{Atom}
use Rattle.lsl_value.specs.declared.list.Atom.TheVariants.{Int as AtomInt, Str as AtomStr, Key as AtomKey}
use Rattle.lsl_value.specs.declared.tagged.Value.{Value}
use Rattle.lsl_value.specs.declared.tagged.Value.TheVariants.{Int, Str, Key, List as ListValue}

unfoldable pub u8_bytes : ℕ → List ℕ
u8_bytes n = n ∷ []

unfoldable pub u16_bytes : ℕ → List ℕ
u16_bytes n = to_be_bytes w16 n

unfoldable pub u32_bytes : ℕ → List ℕ
u32_bytes n = to_be_bytes w32 n

unfoldable pub u64_bytes : ℕ → List ℕ
u64_bytes n = to_be_bytes w64 n

-- a negative number as its two's complement
unfoldable pub i32_bytes : ℤ → List ℕ
i32_bytes n = u32_bytes (cast_unsigned w32 n)

-- how many bytes there are, and these
unfoldable pub counted_bytes : List ℕ → List ℕ
counted_bytes part = u32_bytes (length part) ++ part

-- a text in UTF-8
unfoldable pub text_bytes : List ℕ → List ℕ
text_bytes text = counted_bytes (encode_utf8_all text)

-- a tag, and an integer
abbrev pub int_bytes : ℤ → List ℕ
int_bytes n = 1 ∷ i32_bytes n

-- a tag for the kind, and the value
unfoldable pub atom_bytes : Atom → List ℕ
atom_bytes (AtomInt n) = 1 ∷ i32_bytes n
atom_bytes (AtomStr text) = 3 ∷ text_bytes text
atom_bytes (AtomKey text) = 4 ∷ text_bytes text

-- how many elements there are, and these
unfoldable pub list_bytes : List Atom → List ℕ
list_bytes atoms = u32_bytes (length atoms) ++ flat_map atom_bytes atoms

unfoldable pub value_bytes : Value → List ℕ
value_bytes (Int n) = 1 ∷ i32_bytes n
value_bytes (Str text) = 3 ∷ text_bytes text
value_bytes (Key text) = 4 ∷ text_bytes text
value_bytes (ListValue atoms) = 7 ∷ list_bytes atoms

abbrev pub FitsU8 : ℕ → Type 0
FitsU8 n = n < 2 ^ 8

abbrev pub FitsU16 : ℕ → Type 0
FitsU16 n = n < 2 ^ 16

abbrev pub FitsU32 : ℕ → Type 0
FitsU32 n = n < 2 ^ 32

abbrev pub FitsU64 : ℕ → Type 0
FitsU64 n = n < 2 ^ 64

abbrev pub IsCountable : List ℕ → Type 0
IsCountable part = length part < 2 ^ 32

abbrev pub FitsI32 : ℤ → Type 0
FitsI32 n = FitsSigned w32 n

abbrev pub IsAtom : Atom → Type 0
IsAtom (AtomInt n) = FitsI32 n
IsAtom (AtomStr text) = IsText text
IsAtom (AtomKey text) = IsText text

-- `count` elements
abbrev pub AreAtoms : ℕ → List Atom → Type 0
AreAtoms count atoms = (length atoms ≡ count) × AllByRecursion IsAtom atoms

-- a list has at most 65,536 elements
abbrev pub AreItems : List Atom → Type 0
AreItems atoms = (length atoms ≤ most_items) × AllByRecursion IsAtom atoms

abbrev pub IsValue : Value → Type 0
IsValue (Int n) = FitsI32 n
IsValue (Str text) = IsText text
IsValue (Key text) = IsText text
IsValue (ListValue atoms) = AreItems atoms
