-- Texts in UTF-8: which bytes begin a character.
use Rattle.std.specs.Prelude.{ℕ, zero, suc, ◌+◌, ◌<◌, length, Bool, ◌||◌, nat_lt, nat_le, if◌then◌else◌, List, [], ◌∷◌}
use Rattle.std.specs.List.{sum_by}
use Rattle.std.specs.Str.{encode_utf8_all}
use Rattle.lsl_value.specs.Limits.{most_charge}
use Rattle.lsl_value.specs.declared.list.Atom.{Atom}
use Rattle.lsl_value.specs.declared.list.Atom.TheVariants.{Int, Str, Key}
use Rattle.lsl_value.specs.Atoms.{text_of_atom}
use Rattle.lsl_pure.specs.declared.marks.Mark.{Mark}

-- the byte begins a character
abbrev pub is_lead : ℕ → Bool
is_lead b = nat_lt b 128 || nat_le 192 b

-- how many bytes stand before the character of this number
abbrev pub front_len : ℕ → List ℕ → ℕ
front_len n [] = 0
front_len zero (b ∷ bs) = if is_lead b then 0 else suc (front_len zero bs)
front_len (suc n) (b ∷ bs) = if is_lead b then suc (front_len n bs) else suc (front_len (suc n) bs)

-- an element's text in UTF-8
abbrev pub spelled_atom : Atom → List ℕ
spelled_atom a = encode_utf8_all (text_of_atom a)

-- the same element, its text in UTF-8
abbrev pub spelled_string : Atom → Atom
spelled_string (Int n) = Int n
spelled_string (Str text) = Str (encode_utf8_all text)
spelled_string (Key text) = Key (encode_utf8_all text)

-- a mark of the text in UTF-8
abbrev pub spelled_mark : Mark → Mark
spelled_mark m = record { text = encode_utf8_all m.text; spacer = m.spacer }

-- what an element is charged whose text is spelled out, in its list
abbrev pub spelled_charge : Atom → ℕ
spelled_charge (Int n) = 16
spelled_charge (Str bytes) = 24 + length bytes
spelled_charge (Key bytes) = 24 + length bytes

-- a list of elements, their texts spelled out, is charged too much
abbrev pub IsOverfull : List Atom → Type 0
IsOverfull atoms = most_charge < 16 + sum_by spelled_charge atoms
