-- The constants: names and values.
use Rattle.std.specs.Prelude.{ℕ, List, [], ◌∷◌, codes, pos, negsuc, Option}
use Rattle.lsl_table.specs.declared.constants.ConstantValue.{ConstantValue}
use Rattle.lsl_table.specs.declared.constants.ConstantValue.TheVariants.{Int as IntConstant, Str as StrConstant}
use Rattle.lsl_table.specs.Names.{first_named}
use Rattle.lsl_value.specs.Key.{null_key}
use Rattle.lsl_value.specs.declared.names.ConstantId.{ConstantId}
use Rattle.lsl_value.specs.declared.names.ConstantId.TheVariants.{True, False, NullKey, Eof, PublicChannel, DebugChannel, LinkRoot, LinkSet, LinkAllOthers, LinkAllChildren, LinkThis, TypeInvalid, TypeInteger, TypeString, TypeKey, StringTrimHead, StringTrimTail, StringTrim, ChangedLink, ChangedOwner, ChangedRegion, LinksetDataOk, LinksetDataNoMemory, LinksetDataNoKey, LinksetDataProtected, LinksetDataNotFound, LinksetDataNoUpdate, LinksetDataReset, LinksetDataUpdate, LinksetDataDelete}
use Rattle.lsl_value.specs.declared.tagged.Value.{Value}
use Rattle.lsl_value.specs.declared.tagged.Value.TheVariants.{Int, Str}

abbrev pub constant_name_of : ConstantId → List ℕ
constant_name_of True = codes "TRUE"
constant_name_of False = codes "FALSE"
constant_name_of NullKey = codes "NULL_KEY"
constant_name_of Eof = codes "EOF"
constant_name_of PublicChannel = codes "PUBLIC_CHANNEL"
constant_name_of DebugChannel = codes "DEBUG_CHANNEL"
constant_name_of LinkRoot = codes "LINK_ROOT"
constant_name_of LinkSet = codes "LINK_SET"
constant_name_of LinkAllOthers = codes "LINK_ALL_OTHERS"
constant_name_of LinkAllChildren = codes "LINK_ALL_CHILDREN"
constant_name_of LinkThis = codes "LINK_THIS"
constant_name_of TypeInvalid = codes "TYPE_INVALID"
constant_name_of TypeInteger = codes "TYPE_INTEGER"
constant_name_of TypeString = codes "TYPE_STRING"
constant_name_of TypeKey = codes "TYPE_KEY"
constant_name_of StringTrimHead = codes "STRING_TRIM_HEAD"
constant_name_of StringTrimTail = codes "STRING_TRIM_TAIL"
constant_name_of StringTrim = codes "STRING_TRIM"
constant_name_of ChangedLink = codes "CHANGED_LINK"
constant_name_of ChangedOwner = codes "CHANGED_OWNER"
constant_name_of ChangedRegion = codes "CHANGED_REGION"
constant_name_of LinksetDataOk = codes "LINKSETDATA_OK"
constant_name_of LinksetDataNoMemory = codes "LINKSETDATA_EMEMORY"
constant_name_of LinksetDataNoKey = codes "LINKSETDATA_ENOKEY"
constant_name_of LinksetDataProtected = codes "LINKSETDATA_EPROTECTED"
constant_name_of LinksetDataNotFound = codes "LINKSETDATA_NOTFOUND"
constant_name_of LinksetDataNoUpdate = codes "LINKSETDATA_NOUPDATE"
constant_name_of LinksetDataReset = codes "LINKSETDATA_RESET"
constant_name_of LinksetDataUpdate = codes "LINKSETDATA_UPDATE"
constant_name_of LinksetDataDelete = codes "LINKSETDATA_DELETE"

-- a constant's value: the key of zeros and the end of a notecard are strings, the others integers
abbrev pub constant_value_of : ConstantId → Value
constant_value_of True = Int (pos 1)
constant_value_of False = Int (pos 0)
constant_value_of NullKey = Str null_key
constant_value_of Eof = Str (10 ∷ 10 ∷ 10 ∷ [])
constant_value_of PublicChannel = Int (pos 0)
constant_value_of DebugChannel = Int (pos 2147483647)
constant_value_of LinkRoot = Int (pos 1)
constant_value_of LinkSet = Int (negsuc 0)
constant_value_of LinkAllOthers = Int (negsuc 1)
constant_value_of LinkAllChildren = Int (negsuc 2)
constant_value_of LinkThis = Int (negsuc 3)
constant_value_of TypeInvalid = Int (pos 0)
constant_value_of TypeInteger = Int (pos 1)
constant_value_of TypeString = Int (pos 3)
constant_value_of TypeKey = Int (pos 4)
constant_value_of StringTrimHead = Int (pos 1)
constant_value_of StringTrimTail = Int (pos 2)
constant_value_of StringTrim = Int (pos 3)
constant_value_of ChangedLink = Int (pos 32)
constant_value_of ChangedOwner = Int (pos 128)
constant_value_of ChangedRegion = Int (pos 256)
constant_value_of LinksetDataOk = Int (pos 0)
constant_value_of LinksetDataNoMemory = Int (pos 1)
constant_value_of LinksetDataNoKey = Int (pos 2)
constant_value_of LinksetDataProtected = Int (pos 3)
constant_value_of LinksetDataNotFound = Int (pos 4)
constant_value_of LinksetDataNoUpdate = Int (pos 5)
constant_value_of LinksetDataReset = Int (pos 0)
constant_value_of LinksetDataUpdate = Int (pos 1)
constant_value_of LinksetDataDelete = Int (pos 2)

-- the value of a constant
abbrev pub value_of_constant : ConstantValue → Value
value_of_constant (IntConstant n) = Int n
value_of_constant (StrConstant text) = Str text.now

-- every constant
abbrev pub constants : List ConstantId
constants =
    True ∷ False ∷ NullKey ∷ Eof ∷ PublicChannel ∷ DebugChannel ∷ LinkRoot ∷ LinkSet ∷ LinkAllOthers ∷
    LinkAllChildren ∷ LinkThis ∷ TypeInvalid ∷ TypeInteger ∷ TypeString ∷ TypeKey ∷ StringTrimHead ∷
    StringTrimTail ∷ StringTrim ∷ ChangedLink ∷ ChangedOwner ∷ ChangedRegion ∷ LinksetDataOk ∷
    LinksetDataNoMemory ∷ LinksetDataNoKey ∷ LinksetDataProtected ∷ LinksetDataNotFound ∷ LinksetDataNoUpdate ∷
    LinksetDataReset ∷ LinksetDataUpdate ∷ LinksetDataDelete ∷ []

-- the constant of a name, and none where no constant has it
unfoldable pub constant_named : List ℕ → Option ConstantId
constant_named name = first_named constant_name_of name constants
