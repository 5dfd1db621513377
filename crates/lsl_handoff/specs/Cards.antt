-- Cards, and when an object can depart.
use Rattle.std.specs.Prelude.{ℕ, nat_eq, Bool, true, false, if◌then◌else◌, [], Option, Some, None}
use Rattle.lsl_handoff.specs.declared.card.Card.{Card}
use Rattle.lsl_handoff.specs.declared.card.Phase.{Phase}
use Rattle.lsl_handoff.specs.declared.card.Phase.TheVariants.{Away, Live, Leaving, Cancelling}
use Rattle.lsl_handoff.specs.declared.faults.DepartFault.{DepartFault}
use Rattle.lsl_handoff.specs.declared.faults.DepartFault.TheVariants.{NotLive, Here, LastTrip, NoMemory}

-- the card of an object that was never here
abbrev pub blank : Card
blank = record { trip = 0; took = false; phase = Away }

-- the card of an object that begins here
abbrev pub home_card : Card
home_card = record { trip = 0; took = false; phase = Live [] }

abbrev pub is_live : Phase → Bool
is_live Away = false
is_live (Live held) = true
is_live (Leaving to held) = false
is_live (Cancelling to held) = false

-- the greatest number of a trip
abbrev pub last_trip : ℕ
last_trip = 18446744073709551615

-- the first reason why an object with this card doesn't depart from a region to another
abbrev pub depart_fault : Card → ℕ → ℕ → Option DepartFault
depart_fault card region to =
    if is_live card.phase
    then (if nat_eq to region then Some Here else if nat_eq card.trip last_trip then Some LastTrip else None)
    else Some NotLive

-- what a fault says of the card: out of memory says that there is no other
abbrev pub cause : DepartFault → Option DepartFault
cause NotLive = Some NotLive
cause Here = Some Here
cause LastTrip = Some LastTrip
cause NoMemory = None
