-- The value of each pure call.
use Rattle.std.specs.Prelude.{ℤ, pos, true, false, List, [], ◌∷◌, length, nat_eq, unsigned_abs, Option, Some, None, unwrap_or}
use Rattle.std.specs.Int.{w32, cast_signed}
use Rattle.lsl_value.specs.Equality.{same_atom}
use Rattle.lsl_value.specs.declared.names.BuiltinId.{BuiltinId}
use Rattle.lsl_value.specs.declared.names.BuiltinId.TheVariants.{Abs, StringLength, GetListLength, GetSubString, List2List, DeleteSubString, DeleteSubList, InsertString, ListInsertList, ListReplaceList, SubStringIndex, ListFindList, StringTrim, List2Integer, List2String, List2Key, GetListEntryType, DumpList2String, List2Csv, Csv2List, ParseString2List, ParseStringKeepNulls}
use Rattle.lsl_value.specs.declared.tagged.Value.{Value}
use Rattle.lsl_value.specs.declared.tagged.Value.TheVariants.{Int, Str, Key, List as ListValue}
use Rattle.lsl_pure.specs.Arguments.{read_arguments}
use Rattle.lsl_pure.specs.Csv.{csv_elements}
use Rattle.lsl_pure.specs.Cuts.{taken, left, inserted_at, inserted_before, replaced, trimmed}
use Rattle.lsl_pure.specs.Elements.{element_at, integer_of, string_of, key_of, type_of}
use Rattle.lsl_pure.specs.Joins.{dumped, csv_text}
use Rattle.lsl_pure.specs.Parsing.{parsed}
use Rattle.lsl_pure.specs.Searches.{first_place, place_or_none}

-- the absolute value; that of -2147483648 is itself
abbrev pub absolute_of : ℤ → ℤ
absolute_of n = cast_signed w32 (unsigned_abs n)

-- what a pure call gives for arguments of its kinds; no other call and no other arguments have a value
abbrev pub value_of : BuiltinId → List Value → Option Value
value_of Abs (Int n ∷ []) = Some (Int (absolute_of n))
value_of StringLength (Str text ∷ []) = Some (Int (pos (length text)))
value_of GetListLength (ListValue atoms ∷ []) = Some (Int (pos (length atoms)))
value_of GetSubString (Str text ∷ Int first ∷ Int last ∷ []) = Some (Str (taken text first last))
value_of List2List (ListValue atoms ∷ Int first ∷ Int last ∷ []) = Some (ListValue (taken atoms first last))
value_of DeleteSubString (Str text ∷ Int first ∷ Int last ∷ []) = Some (Str (left text first last))
value_of DeleteSubList (ListValue atoms ∷ Int first ∷ Int last ∷ []) = Some (ListValue (left atoms first last))
value_of InsertString (Str text ∷ Int place ∷ Str other ∷ []) = Some (Str (inserted_at text place other))
value_of ListInsertList (ListValue atoms ∷ ListValue others ∷ Int place ∷ []) =
    Some (ListValue (inserted_before atoms place others))
value_of ListReplaceList (ListValue atoms ∷ ListValue others ∷ Int first ∷ Int last ∷ []) =
    Some (ListValue (replaced atoms others first last))
value_of SubStringIndex (Str text ∷ Str sought ∷ []) = Some (Int (place_or_none (first_place nat_eq text sought)))
value_of ListFindList (ListValue atoms ∷ ListValue sought ∷ []) =
    Some (Int (place_or_none (first_place same_atom atoms sought)))
value_of StringTrim (Str text ∷ Int kind ∷ []) = Some (Str (trimmed text kind))
value_of List2Integer (ListValue atoms ∷ Int place ∷ []) = Some (Int (integer_of (element_at atoms place)))
value_of List2String (ListValue atoms ∷ Int place ∷ []) = Some (Str (string_of (element_at atoms place)))
value_of List2Key (ListValue atoms ∷ Int place ∷ []) = Some (Key (key_of (element_at atoms place)))
value_of GetListEntryType (ListValue atoms ∷ Int place ∷ []) = Some (Int (type_of (element_at atoms place)))
value_of DumpList2String (ListValue atoms ∷ Str separator ∷ []) = Some (Str (dumped atoms separator))
value_of List2Csv (ListValue atoms ∷ []) = Some (Str (csv_text atoms))
value_of Csv2List (Str text ∷ []) = Some (ListValue (csv_elements text))
value_of ParseString2List (Str text ∷ ListValue separators ∷ ListValue spacers ∷ []) =
    Some (ListValue (parsed false text separators spacers))
value_of ParseStringKeepNulls (Str text ∷ ListValue separators ∷ ListValue spacers ∷ []) =
    Some (ListValue (parsed true text separators spacers))
value_of id args = None

-- the same for all arguments, read as of the call's kinds; 0 for a call that isn't pure
abbrev pub pure_of : BuiltinId → List Value → Value
pure_of id args = unwrap_or (value_of id (read_arguments id args)) (Int (pos 0))
