-- Each event is found by its name, so no two have one.
use Rattle.std.proofs.Common.{◌≡◌, ℕ, List, Option, Some, refl}
use Rattle.lsl_value.specs.declared.names.EventId.{EventId}
use Rattle.lsl_value.specs.declared.names.EventId.TheVariants.{StateEntry}
use Rattle.lsl_table.specs.Events.{event_name_of, events, event_named}
use Rattle.lsl_table.specs.Names.{Finds, NamesDiffer, first_named}
use Rattle.lsl_table.proofs.NameLemmas.{Finds-first_named, Finds-same, names-differ}

events-each : (id : EventId) → first_named event_name_of (event_name_of id) events ≡ Some id
events-each StateEntry = refl
events-each _ = refl

pub Finds-event_named : (name : List ℕ) → Finds event_name_of name (event_named name)
unfolding event_named
Finds-event_named = Finds-first_named event_name_of events events-each

pub event_named-same : (name : List ℕ) (found : Option EventId) → Finds event_name_of name found
    → found ≡ event_named name
unfolding event_named
event_named-same = Finds-same event_name_of events events-each

pub events-differ : NamesDiffer event_name_of
events-differ = names-differ event_name_of events events-each
