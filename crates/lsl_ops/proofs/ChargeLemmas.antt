-- What a charge says of lengths.
use Rattle.std.proofs.Common.{◌≡◌, ℕ, ◌+◌, ◌*◌, ◌≤◌, List, [], ◌∷◌, ◌++◌, length, sum_by, ap, arith, length-append}
use Rattle.std.specs.Str.{encode_utf8_all}
use Rattle.std.proofs.lemmas.List.Sums.{sum_by-cons}
use Rattle.std.proofs.lemmas.Str.{encodes-append}
use Rattle.lsl_value.specs.Atoms.{item_charge_of}
use Rattle.lsl_value.specs.Values.{charge_of}
use Rattle.lsl_value.specs.declared.list.Atom.{Atom}
use Rattle.lsl_value.specs.declared.list.Atom.TheVariants.{Int as IntAtom, Str as StrAtom, Key as KeyAtom}
use Rattle.lsl_value.specs.declared.tagged.Value.{Value}
use Rattle.lsl_value.specs.declared.tagged.Value.TheVariants.{Int, Str, Key, List as ListValue}
use Rattle.lsl_ops.specs.Operations.{atoms_of}

item_charge_of-ge : (atom : Atom) → 16 ≤ item_charge_of atom
item_charge_of-ge (IntAtom n) = omega arith
item_charge_of-ge (StrAtom text) = omega arith
item_charge_of-ge (KeyAtom text) = omega arith

sum_by-ge : (atoms : List Atom) → 16 * length atoms ≤ sum_by item_charge_of atoms
sum_by-ge [] = omega arith
sum_by-ge (atom ∷ atoms) = omega (arith, sum_by-cons item_charge_of atom atoms, item_charge_of-ge atom, sum_by-ge atoms)

-- a value charged at most 65,536 has fewer than 4,096 elements
pub length-atoms_of : (value : Value) → charge_of value ≤ 65536 → length (atoms_of value) ≤ 4095
length-atoms_of (Int n) small = omega arith
length-atoms_of (Str text) small = omega arith
length-atoms_of (Key text) small = omega arith
length-atoms_of (ListValue atoms) small = omega (arith, sum_by-ge atoms)

-- a text that gained another
pub length-encodes_joined : (new old piece : List ℕ) (most : ℕ) → length (encode_utf8_all piece) ≤ most
    → new ≡ old ++ piece → length (encode_utf8_all new) ≤ length (encode_utf8_all old) + most
length-encodes_joined new old piece most small same =
    omega (
      arith,
      ap (λ text. length (encode_utf8_all text)) same,
      ap length
          (encodes-append old piece),
      length-append (encode_utf8_all old) (encode_utf8_all piece),
    )
