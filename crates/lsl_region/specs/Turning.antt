-- What the grid and an awake script represent within a turn.
use Rattle.std.specs.Prelude.{◌≡◌, ℕ, ◌+◌, Bool, false, List, ◌++◌, Option, Some, None, slice_get, slice_set, true}
use Rattle.lsl_code.specs.declared.woven_units.Woven.{Woven as Code}
use Rattle.lsl_code.specs.Weaves.{Weaves}
use Rattle.lsl_machine.specs.State.{CanRun, asks_ahead, bodies_of}
use Rattle.lsl_machine.specs.declared.standing.Standing.TheVariants as standing
use Rattle.lsl_post.specs.declared.entries.Entry.{Entry}
use Rattle.lsl_post.specs.declared.parts.ScriptParts.{ScriptParts}
use Rattle.lsl_post.specs.Told.{Told, lead}
use Rattle.lsl_script.specs.declared.live.Live.{Live}
use Rattle.lsl_script.specs.declared.live.Turn.{Turn}
use Rattle.lsl_script.specs.declared.live.Turn.TheVariants as turn
use Rattle.lsl_script.specs.Awake.{HasEnded, IsAskedFor, IsAwake}
use Rattle.lsl_script.specs.Codes.{HasUnit, rules_of}
use Rattle.lsl_script.specs.Fitting.{are_ready}
use Rattle.lsl_script.specs.Lawful.{AsksAtMost}
use Rattle.lsl_script.specs.Lives.{Lives, Rests, Turns}
use Rattle.lsl_script.specs.Passing.{PassesPart, PassesTo}
use Rattle.lsl_script.specs.Rules.{Rules}
use Rattle.lsl_script.specs.Scripts.{Flight, Flying}
use Rattle.lsl_script.specs.Waking.{IsThere}
use Rattle.lsl_region.specs.declared.grid.Seat.{Seat}
use Rattle.lsl_region.specs.Grids.{Contents, Stands}
use Rattle.lsl_region.specs.Segments.{asked}
use Rattle.lsl_region.specs.Worlds.{Member, World}

-- the grid with this script, or none, in the seat at a place
abbrev pub with_seated : Contents → ℕ → Seat → Option ScriptParts → Contents
with_seated grid place seat script = record grid {
  seats = slice_set grid.seats place
      (record seat { script = script });
}

-- a script is out of the grid, and this holds of it
abbrev pub IsOut : Option Live → (Live → Type 0) → Type 0
IsOut live P = IsThere live P

-- the script in a seat is there, and can run
abbrev pub IsReady : ℕ → Option ScriptParts → Type 0
IsReady clock None = ⊥
IsReady clock (Some parts) = are_ready clock parts ≡ true

-- this unit, which weaves, is that of the seat at a place
pub record IsUnitAt (codes : List Code) (unit : Code) (seats : List Seat) (place : ℕ) : Type 0 where
  pub seat : Seat
  pub at : slice_get seats place ≡ Some seat
  pub has : HasUnit codes seat.unit unit
  pub weaves : Weaves unit

-- a script that is awake between segments is at a tick
abbrev pub IsHeld : Code → Option Live → Type 0
IsHeld unit None = Unit {0}
IsHeld unit (Some live) = IsAwake unit live × (live.machine.standing ≡ standing.AtTick)

-- one that isn't awake is ready in its seat
abbrev pub IsReadyInTurn : ℕ → List Seat → ℕ → Option Live → Type 0
IsReadyInTurn clock seats place None = (seat : Seat) → slice_get seats place ≡ Some seat → IsReady clock seat.script
IsReadyInTurn clock seats place (Some live) = Unit {0}

-- the script at a place is out, and can continue to the next tick of this flight; it makes at most this many calls
-- before that
pub record GoesOn (codes : List Code) (unit : Code) (clock place : ℕ) (grid : Contents) (live : Live) (f : Flight)
    (most : ℕ) (w : World) : Type 0 where
  pub stands : Stands codes (Some place) clock grid w
  pub member : Member
  pub at : slice_get w.members place ≡ Some member
  pub lives : Lives codes unit member.script f live
  pub asks : AsksAtMost (rules_of codes) member.script.code member.script.state f most

-- the script at a place is out, has this flight, and makes at most as many calls as its code can
pub record Begins (codes : List Code) (unit : Code) (clock place : ℕ) (grid : Contents) (live : Live) (w : World)
    : Type 0 where
  pub flight : Flight
  pub stands : Stands codes (Some place) clock grid w
  pub member : Member
  pub at : slice_get w.members place ≡ Some member
  pub lives : Lives codes unit member.script flight live
  pub asks : AsksAtMost (rules_of codes) member.script.code member.script.state flight
      ((rules_of codes).most member.script.code)
  pub flies : member.script.doing ≡ Flying flight
  pub rests : live.began ≡ false → Rests codes unit member.script flight live

pub record Paused (codes : List Code) (unit : Code) (clock place : ℕ) (grid : Contents) (live : Live) (stop : Turn)
    (f : Flight) (most : ℕ) (w : World) : Type 0 where
  pub stands : Stands codes (Some place) clock grid w
  pub member : Member
  pub at : slice_get w.members place ≡ Some member
  pub turns : Turns codes unit member.script f stop live
  pub asks : AsksAtMost (rules_of codes) member.script.code member.script.state f most

-- where its machine is then, whatever it represents
abbrev pub StandsAt : Code → Turn → Live → Type 0
StandsAt unit (turn.Asks call) live = (live.machine.standing ≡ standing.Asking call.id) × IsAskedFor call
StandsAt unit turn.AtTick live = live.machine.standing ≡ standing.AtTick
StandsAt unit turn.Ended live = HasEnded unit live
StandsAt unit (turn.Faulted fault) live = Unit {0}
StandsAt unit turn.NoMemory live = Unit {0}

-- it makes no more calls
abbrev pub IsLast : Turn → Type 0
IsLast (turn.Asks call) = ⊥
IsLast t = Unit {0}

-- nor is it at a tick
abbrev pub IsEnd : Turn → Type 0
IsEnd (turn.Asks call) = ⊥
IsEnd turn.AtTick = ⊥
IsEnd t = Unit {0}

-- the most calls that it makes from this stop on
abbrev pub asks_left : Code → Turn → Live → ℕ
asks_left unit (turn.Asks call) live = asks_ahead (bodies_of unit) live.machine + 1
asks_left unit t live = 0

-- the world, the flight in it, and the most calls that it makes before its next tick
pub record InFlight : Type 0 where
  pub world : World
  pub flight : Flight
  pub most : ℕ

-- these entries were added on the way of a flight, and its further results give the rest
pub record IsOnWay (r : Rules) (place : ℕ) (total : Told World) (old now : List Entry) (At : InFlight → Type 0)
    : Type 0 where
  pub there : InFlight
  pub at : At there
  pub done : List Entry
  pub whole : total ≡ lead done (asked r (there.most + 1) place there.flight there.world)
  pub so_far : now ≡ old ++ done

-- the script at a place is out, and at a tick of its flight
pub record Held (codes : List Code) (unit : Code) (clock place : ℕ) (grid : Contents) (live : Live) (w : World)
    : Type 0 where
  pub flight : Flight
  pub stands : Stands codes (Some place) clock grid w
  pub member : Member
  pub at : slice_get w.members place ≡ Some member
  pub rests : Rests codes unit member.script flight live

-- in a turn: the script is at rest in the grid, or out of it at a tick
abbrev pub InTurn : List Code → Code → (clock place : ℕ) → Contents → Option Live → World → Type 0
InTurn codes unit clock place grid None w = Stands codes None clock grid w
InTurn codes unit clock place grid (Some live) w = Held codes unit clock place grid live w

-- a script that is awake can continue
abbrev pub IsAble : Code → Option Live → Type 0
IsAble unit None = Unit {0}
IsAble unit (Some live) = IsAwake unit live × CanRun live.machine.standing

-- within a segment: the script left its tick, or isn't awake yet
abbrev pub IsAmid : List Code → Code → (clock place : ℕ) → Contents → Option Live → World → Type 0
IsAmid codes unit clock place grid None w = Stands codes None clock grid w
IsAmid codes unit clock place grid (Some live) w =
    (mid : Live) × Held codes unit clock place grid mid w × PassesPart unit mid live

-- this many segments on integers and calls of functions alone, and whether the script is at a tick then
abbrev pub PassesAwake : Bool → Code → ℕ → Option Live → Option Live → Type 0
PassesAwake stands unit n None None = (n ≡ 0) × (stands ≡ false)
PassesAwake stands unit n (Some old) (Some new) = PassesTo stands unit n old new
PassesAwake stands unit n old new = ⊥
