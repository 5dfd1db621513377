-- The built-in calls: names, kinds of arguments and result, and homes.
use Rattle.std.specs.Prelude.{ℕ, List, [], ◌∷◌, Option, Some, None, codes}
use Rattle.lsl_table.specs.declared.calls.Home.{Home}
use Rattle.lsl_table.specs.declared.calls.Home.TheVariants as home
use Rattle.lsl_table.specs.Names.{first_named}
use Rattle.lsl_value.specs.declared.names.BuiltinId.{BuiltinId}
use Rattle.lsl_value.specs.declared.names.BuiltinId.TheVariants.{Abs, StringLength, GetListLength, GetSubString, List2List, DeleteSubString, DeleteSubList, InsertString, ListInsertList, ListReplaceList, SubStringIndex, ListFindList, StringTrim, List2Integer, List2String, List2Key, GetListEntryType, DumpList2String, List2Csv, Csv2List, ParseString2List, ParseStringKeepNulls, GetUsedMemory, GetFreeMemory, SetMemoryLimit, GetMemoryLimit, Say, Whisper, Shout, RegionSay, OwnerSay, Listen, ListenRemove, ListenControl, SetTimerEvent, Sleep, ResetScript, MessageLinked, GetOwner, GetKey, GetLinkKey, GetLinkName, GetLinkNumber, GetNumberOfPrims, GetObjectName, SetObjectName, GetScriptName, GetRegionName, GetUnixTime, DetectedKey, DetectedName, DetectedLinkNumber, LinksetDataWrite, LinksetDataDelete, LinksetDataReset, LinksetDataRead, LinksetDataCountKeys, LinksetDataAvailable, LinksetDataListKeys, GetNotecardLine, GetNumberOfNotecardLines}
use Rattle.lsl_value.specs.declared.tagged.Kind.{Kind}
use Rattle.lsl_value.specs.declared.tagged.Kind.TheVariants.{Int, Str, Key, List as Items}

-- what is known of a call: `result` is none where it gives no value
pub record CallRow : Type 0 where
  pub name : List ℕ
  pub params : List Kind
  pub result : Option Kind
  pub home : Home

abbrev pub row : Home → List ℕ → List Kind → Option Kind → CallRow
row home name params result = record { name = name; params = params; result = result; home = home }

abbrev pub row_of : BuiltinId → CallRow
row_of Abs = row home.Pure (codes "llAbs") (Int ∷ []) (Some Int)
row_of StringLength = row home.Pure (codes "llStringLength") (Str ∷ []) (Some Int)
row_of GetListLength = row home.Pure (codes "llGetListLength") (Items ∷ []) (Some Int)
row_of GetSubString = row home.Pure (codes "llGetSubString") (Str ∷ Int ∷ Int ∷ []) (Some Str)
row_of List2List = row home.Pure (codes "llList2List") (Items ∷ Int ∷ Int ∷ []) (Some Items)
row_of DeleteSubString = row home.Pure (codes "llDeleteSubString") (Str ∷ Int ∷ Int ∷ []) (Some Str)
row_of DeleteSubList = row home.Pure (codes "llDeleteSubList") (Items ∷ Int ∷ Int ∷ []) (Some Items)
row_of InsertString = row home.Pure (codes "llInsertString") (Str ∷ Int ∷ Str ∷ []) (Some Str)
row_of ListInsertList = row home.Pure (codes "llListInsertList") (Items ∷ Items ∷ Int ∷ []) (Some Items)
row_of ListReplaceList = row home.Pure (codes "llListReplaceList") (Items ∷ Items ∷ Int ∷ Int ∷ []) (Some Items)
row_of SubStringIndex = row home.Pure (codes "llSubStringIndex") (Str ∷ Str ∷ []) (Some Int)
row_of ListFindList = row home.Pure (codes "llListFindList") (Items ∷ Items ∷ []) (Some Int)
row_of StringTrim = row home.Pure (codes "llStringTrim") (Str ∷ Int ∷ []) (Some Str)
row_of List2Integer = row home.Pure (codes "llList2Integer") (Items ∷ Int ∷ []) (Some Int)
row_of List2String = row home.Pure (codes "llList2String") (Items ∷ Int ∷ []) (Some Str)
row_of List2Key = row home.Pure (codes "llList2Key") (Items ∷ Int ∷ []) (Some Key)
row_of GetListEntryType = row home.Pure (codes "llGetListEntryType") (Items ∷ Int ∷ []) (Some Int)
row_of DumpList2String = row home.Pure (codes "llDumpList2String") (Items ∷ Str ∷ []) (Some Str)
row_of List2Csv = row home.Pure (codes "llList2CSV") (Items ∷ []) (Some Str)
row_of Csv2List = row home.Pure (codes "llCSV2List") (Str ∷ []) (Some Items)
row_of ParseString2List = row home.Pure (codes "llParseString2List") (Str ∷ Items ∷ Items ∷ []) (Some Items)
row_of ParseStringKeepNulls = row home.Pure (codes "llParseStringKeepNulls") (Str ∷ Items ∷ Items ∷ []) (Some Items)
row_of GetUsedMemory = row home.UsedMemory (codes "llGetUsedMemory") [] (Some Int)
row_of GetFreeMemory = row home.FreeMemory (codes "llGetFreeMemory") [] (Some Int)
row_of SetMemoryLimit = row home.SetLimit (codes "llSetMemoryLimit") (Int ∷ []) (Some Int)
row_of GetMemoryLimit = row home.GetLimit (codes "llGetMemoryLimit") [] (Some Int)
row_of Say = row home.Act (codes "llSay") (Int ∷ Str ∷ []) None
row_of Whisper = row home.Act (codes "llWhisper") (Int ∷ Str ∷ []) None
row_of Shout = row home.Act (codes "llShout") (Int ∷ Str ∷ []) None
row_of RegionSay = row home.Act (codes "llRegionSay") (Int ∷ Str ∷ []) None
row_of OwnerSay = row home.Act (codes "llOwnerSay") (Str ∷ []) None
row_of Listen = row home.Mail (codes "llListen") (Int ∷ Str ∷ Key ∷ Str ∷ []) (Some Int)
row_of ListenRemove = row home.Mail (codes "llListenRemove") (Int ∷ []) None
row_of ListenControl = row home.Mail (codes "llListenControl") (Int ∷ Int ∷ []) None
row_of SetTimerEvent = row home.Mail (codes "llSetTimerEvent") (Int ∷ []) None
row_of Sleep = row home.Sleep (codes "llSleep") (Int ∷ []) None
row_of ResetScript = row home.Reset (codes "llResetScript") [] None
row_of MessageLinked = row home.Act (codes "llMessageLinked") (Int ∷ Int ∷ Str ∷ Key ∷ []) None
row_of GetOwner = row home.Query (codes "llGetOwner") [] (Some Key)
row_of GetKey = row home.Query (codes "llGetKey") [] (Some Key)
row_of GetLinkKey = row home.Query (codes "llGetLinkKey") (Int ∷ []) (Some Key)
row_of GetLinkName = row home.Query (codes "llGetLinkName") (Int ∷ []) (Some Str)
row_of GetLinkNumber = row home.Query (codes "llGetLinkNumber") [] (Some Int)
row_of GetNumberOfPrims = row home.Query (codes "llGetNumberOfPrims") [] (Some Int)
row_of GetObjectName = row home.Query (codes "llGetObjectName") [] (Some Str)
row_of SetObjectName = row home.Act (codes "llSetObjectName") (Str ∷ []) None
row_of GetScriptName = row home.Query (codes "llGetScriptName") [] (Some Str)
row_of GetRegionName = row home.Query (codes "llGetRegionName") [] (Some Str)
row_of GetUnixTime = row home.Query (codes "llGetUnixTime") [] (Some Int)
row_of DetectedKey = row home.Query (codes "llDetectedKey") (Int ∷ []) (Some Key)
row_of DetectedName = row home.Query (codes "llDetectedName") (Int ∷ []) (Some Str)
row_of DetectedLinkNumber = row home.Query (codes "llDetectedLinkNumber") (Int ∷ []) (Some Int)
row_of LinksetDataWrite = row home.Store (codes "llLinksetDataWrite") (Str ∷ Str ∷ []) (Some Int)
row_of LinksetDataDelete = row home.Store (codes "llLinksetDataDelete") (Str ∷ []) (Some Int)
row_of LinksetDataReset = row home.Store (codes "llLinksetDataReset") [] None
row_of LinksetDataRead = row home.Query (codes "llLinksetDataRead") (Str ∷ []) (Some Str)
row_of LinksetDataCountKeys = row home.Query (codes "llLinksetDataCountKeys") [] (Some Int)
row_of LinksetDataAvailable = row home.Query (codes "llLinksetDataAvailable") [] (Some Int)
row_of LinksetDataListKeys = row home.Query (codes "llLinksetDataListKeys") (Int ∷ Int ∷ []) (Some Items)
row_of GetNotecardLine = row home.Note (codes "llGetNotecardLine") (Str ∷ Int ∷ []) (Some Key)
row_of GetNumberOfNotecardLines = row home.Note (codes "llGetNumberOfNotecardLines") (Str ∷ []) (Some Key)

abbrev pub name_of : BuiltinId → List ℕ
name_of id = (row_of id).name

-- every call
abbrev pub builtins : List BuiltinId
builtins =
    Abs ∷ StringLength ∷ GetListLength ∷ GetSubString ∷ List2List ∷ DeleteSubString ∷ DeleteSubList ∷
    InsertString ∷ ListInsertList ∷ ListReplaceList ∷ SubStringIndex ∷ ListFindList ∷ StringTrim ∷
    List2Integer ∷ List2String ∷ List2Key ∷ GetListEntryType ∷ DumpList2String ∷ List2Csv ∷ Csv2List ∷
    ParseString2List ∷ ParseStringKeepNulls ∷ GetUsedMemory ∷ GetFreeMemory ∷ SetMemoryLimit ∷
    GetMemoryLimit ∷ Say ∷ Whisper ∷ Shout ∷ RegionSay ∷ OwnerSay ∷ Listen ∷ ListenRemove ∷
    ListenControl ∷ SetTimerEvent ∷ Sleep ∷ ResetScript ∷ MessageLinked ∷ GetOwner ∷ GetKey ∷
    GetLinkKey ∷ GetLinkName ∷ GetLinkNumber ∷ GetNumberOfPrims ∷ GetObjectName ∷ SetObjectName ∷
    GetScriptName ∷ GetRegionName ∷ GetUnixTime ∷
    DetectedKey ∷ DetectedName ∷ DetectedLinkNumber ∷
    LinksetDataWrite ∷ LinksetDataDelete ∷ LinksetDataReset ∷ LinksetDataRead ∷ LinksetDataCountKeys ∷
    LinksetDataAvailable ∷ LinksetDataListKeys ∷ GetNotecardLine ∷ GetNumberOfNotecardLines ∷ []

-- the call of a name, and none where no call has it
unfoldable pub builtin_named : List ℕ → Option BuiltinId
builtin_named name = first_named name_of name builtins
