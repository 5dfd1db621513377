-- Tests of kinds and events.
use Rattle.std.specs.Prelude.{ℕ, nat_eq, Bool, true, false, ◌&&◌, Option, Some, None, List, [], ◌∷◌}
use Rattle.lsl_value.specs.declared.tagged.Kind.{Kind}
use Rattle.lsl_value.specs.declared.tagged.Kind.TheVariants.{Int, Str, Key, List as ListKind}
use Rattle.lsl_value.specs.declared.names.EventId.{EventId}
use Rattle.lsl_value.specs.declared.names.EventId.TheVariants.{StateEntry, StateExit, TouchStart, Touch, TouchEnd}
use Rattle.lsl_value.specs.declared.names.EventId.TheVariants.{Listen, Timer, LinkMessage, Changed, OnRez, Dataserver}
use Rattle.lsl_value.specs.declared.names.EventId.TheVariants.{LinksetData}

abbrev pub kind_code : Kind → ℕ
kind_code Int = 0
kind_code Str = 1
kind_code Key = 2
kind_code ListKind = 3

abbrev pub same_kind : Kind → Kind → Bool
same_kind a b = nat_eq (kind_code a) (kind_code b)

abbrev pub is_kind : Option Kind → Kind → Bool
is_kind None k = false
is_kind (Some found) k = same_kind found k

abbrev pub same_kinds : List Kind → List Kind → Bool
same_kinds [] [] = true
same_kinds [] (b ∷ others) = false
same_kinds (a ∷ rest) [] = false
same_kinds (a ∷ rest) (b ∷ others) = same_kind a b && same_kinds rest others

abbrev pub event_code : EventId → ℕ
event_code StateEntry = 1
event_code StateExit = 2
event_code TouchStart = 3
event_code Touch = 4
event_code TouchEnd = 5
event_code Listen = 6
event_code Timer = 7
event_code LinkMessage = 8
event_code Changed = 9
event_code OnRez = 10
event_code Dataserver = 11
event_code LinksetData = 12

abbrev pub same_event : EventId → EventId → Bool
same_event a b = nat_eq (event_code a) (event_code b)
