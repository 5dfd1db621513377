-- The events, their names and the kinds of their parameters.
use Rattle.std.specs.Prelude.{ℕ, List, [], ◌∷◌, codes, Option}
use Rattle.lsl_table.specs.Names.{first_named}
use Rattle.lsl_value.specs.declared.names.EventId.{EventId}
use Rattle.lsl_value.specs.declared.names.EventId.TheVariants.{StateEntry, StateExit, TouchStart, Touch, TouchEnd, Listen, Timer, LinkMessage, Changed, OnRez, Dataserver, LinksetData}
use Rattle.lsl_value.specs.declared.tagged.Kind.{Kind}
use Rattle.lsl_value.specs.declared.tagged.Kind.TheVariants.{Int, Str, Key}

abbrev pub event_name_of : EventId → List ℕ
event_name_of StateEntry = codes "state_entry"
event_name_of StateExit = codes "state_exit"
event_name_of TouchStart = codes "touch_start"
event_name_of Touch = codes "touch"
event_name_of TouchEnd = codes "touch_end"
event_name_of Listen = codes "listen"
event_name_of Timer = codes "timer"
event_name_of LinkMessage = codes "link_message"
event_name_of Changed = codes "changed"
event_name_of OnRez = codes "on_rez"
event_name_of Dataserver = codes "dataserver"
event_name_of LinksetData = codes "linkset_data"

-- the kinds of an event's parameters
abbrev pub signature_of : EventId → List Kind
signature_of StateEntry = []
signature_of StateExit = []
signature_of TouchStart = Int ∷ []
signature_of Touch = Int ∷ []
signature_of TouchEnd = Int ∷ []
signature_of Listen = Int ∷ Str ∷ Key ∷ Str ∷ []
signature_of Timer = []
signature_of LinkMessage = Int ∷ Int ∷ Str ∷ Key ∷ []
signature_of Changed = Int ∷ []
signature_of OnRez = Int ∷ []
signature_of Dataserver = Key ∷ Str ∷ []
signature_of LinksetData = Int ∷ Str ∷ Str ∷ []

-- every event
abbrev pub events : List EventId
events =
    StateEntry ∷ StateExit ∷ TouchStart ∷ Touch ∷ TouchEnd ∷ Listen ∷ Timer ∷ LinkMessage ∷ Changed ∷
    OnRez ∷ Dataserver ∷ LinksetData ∷ []

-- the event of a name, and none where no event has it
unfoldable pub event_named : List ℕ → Option EventId
event_named name = first_named event_name_of name events
