-- What holds of handlers in flight.
use Rattle.std.specs.Prelude.{◌≡◌, ◌≢◌, ℕ, true, List}
use Rattle.lsl_running.specs.declared.host.Reply.{Reply}
use Rattle.lsl_running.specs.Results.{Lost}
use Rattle.lsl_code.specs.declared.woven_units.Woven.{Woven as Code}
use Rattle.lsl_script.specs.Codes.{HasUnit, rules_of}
use Rattle.lsl_script.specs.Lawful.{AreGiven, AsksAtMost, IsKept, IsLawfulFlight, flight_whole}
use Rattle.lsl_script.specs.Scripts.{Flight, handles}

-- a handler at a tick makes at most this many calls before its next one
abbrev pub FlightsAskSoOften : Type 0
FlightsAskSoOften =
    (codes : List Code) (code : ℕ) (unit : Code) (state : ℕ) (f : Flight) → HasUnit codes code unit
    → IsLawfulFlight (rules_of codes) code state f
    → AsksAtMost (rules_of codes) code state f ((rules_of codes).most code)

-- a handler that its code has, begun with globals of their kinds, has a result with answers to its own calls: it is
-- cut, asks, ends or stops, and is never lost
abbrev pub FlightsAreNeverLost : Type 0
FlightsAreNeverLost =
    (codes : List Code) (code : ℕ) (unit : Code) (state : ℕ) (f : Flight) (ticks : ℕ) (answers : List Reply)
    → HasUnit codes code unit → handles (rules_of codes) code state f.event.id ≡ true
    → IsKept (rules_of codes) code f.kept → AreGiven (flight_whole (rules_of codes) code state f ticks) answers
    → flight_whole (rules_of codes) code state f ticks answers ≢ Lost
