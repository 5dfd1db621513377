-- Where a script is run: what is needed of the grid, what stays, and what a call does there.
use Rattle.std.specs.Prelude.{◌≡◌, ◌<◌, ◌≤◌, ℕ, List, length, None, OnOk, Option}
use Rattle.std.specs.declared.result.Result.{Result}
use Rattle.lsl_value.specs.declared.names.BuiltinId.{BuiltinId}
use Rattle.lsl_running.specs.declared.host.Reply.{Reply}
use Rattle.lsl_code.specs.declared.woven_units.Woven.{Woven as Code}
use Rattle.lsl_post.specs.declared.entries.Entry.{Entry}
use Rattle.lsl_post.specs.Journal.{Tells}
use Rattle.lsl_post.specs.Timing.{latest_clock}
use Rattle.lsl_post.specs.Told.{Told}
use Rattle.lsl_script.specs.declared.live.Live.{Live}
use Rattle.lsl_script.specs.declared.live.Turn.{Turn}
use Rattle.lsl_script.specs.Awake.{IsAwake}
use Rattle.lsl_script.specs.Codes.{Meant}
use Rattle.lsl_script.specs.Rules.{Rules}
use Rattle.lsl_script.specs.Scripts.{Flight}
use Rattle.lsl_region.specs.Answers.{Answered}
use Rattle.lsl_region.specs.declared.scene.Scene.{Scene}
use Rattle.lsl_region.specs.Grids.{AreSeated, Contents, Lent, Stands, outline_of}
use Rattle.lsl_region.specs.Segments.{segment, turn}
use Rattle.lsl_region.specs.TurnEnds.{CameTo, IsBehind}
use Rattle.lsl_region.specs.Turning.{Begins, InTurn, IsAmid, IsUnitAt, Paused}
use Rattle.lsl_region.specs.Worlds.{Member, World}

-- the script has a seat and a number, and that unit; all scripts are of their units, and this can be a reading of the
-- clock
pub record IsSet (scene : Scene) (grid : Contents) : Type 0 where
  pub place : scene.place < length grid.seats
  pub number : scene.place < 256
  pub clock : scene.clock ≤ latest_clock
  pub seated : AreSeated scene.library.now grid.seats
  pub unit : IsUnitAt scene.library.now scene.unit.now grid.seats scene.place

-- and is awake
pub record IsAwakeIn (scene : Scene) (grid : Contents) (live : Live) : Type 0 where
  pub set : IsSet scene grid
  pub awake : IsAwake scene.unit.now live

-- the scene is still set, unless memory ran out, and the outline of the grid is unchanged
pub record KeepsSet {A E : Type 0} (scene : Scene) (result : Result A E) (old new : Contents) : Type 0 where
  pub set : OnOk result (IsSet scene new)
  pub outline : outline_of new ≡ outline_of old

-- where no script is awake: all scripts are of their units, unless memory ran out, and the outline is unchanged
pub record KeepsSeated {A E : Type 0} (codes : List Code) (result : Result A E) (old new : Contents) : Type 0 where
  pub seated : OnOk result (AreSeated codes new.seats)
  pub outline : outline_of new ≡ outline_of old

-- the script is still awake, and its machine is unchanged
pub record KeepsAwake (scene : Scene) (old new : Live) : Type 0 where
  pub awake : IsAwake scene.unit.now new
  pub machine : new.machine ≡ old.machine

-- the script is out of the grid, and waits in a flight for the answer to a call
abbrev pub Awaits : Scene → Contents → Live → BuiltinId → Flight → World → Type 0
Awaits s grid live id f w = Lent s.library.now s.unit.now s.clock s.place grid live id f w

-- no script is out of the grid
abbrev pub IsHome : Scene → Contents → World → Type 0
IsHome s grid w = Stands s.library.now None s.clock grid w

-- the script is at rest in the grid, or out of it: between segments, within one, after one, or after `count`
abbrev pub IsInTurn : Scene → Contents → Option Live → World → Type 0
IsInTurn s grid live w = InTurn s.library.now s.unit.now s.clock s.place grid live w

abbrev pub IsWithinSegment : Scene → Contents → Option Live → World → Type 0
IsWithinSegment s grid live w = IsAmid s.library.now s.unit.now s.clock s.place grid live w

abbrev pub IsBehindSegment : Scene → Contents → Option Live → World → Type 0
IsBehindSegment s grid live w = IsBehind s.library.now s.unit.now s.clock s.place grid live w

abbrev pub ComesTo : Scene → Contents → Option Live → World × ℕ → ℕ → Type 0
ComesTo s grid live x count = CameTo s.library.now s.unit.now s.clock s.place grid live x count

-- it begins its flight, or came to a stop of it
abbrev pub IsBegun : Scene → Contents → Live → World → Type 0
IsBegun s grid live w = Begins s.library.now s.unit.now s.clock s.place grid live w

abbrev pub IsPaused : Scene → Contents → Live → Turn → Flight → ℕ → World → Type 0
IsPaused s grid live stop f most w = Paused s.library.now s.unit.now s.clock s.place grid live stop f most w

-- no script is out of the grid: this is done, in each world that the grid represents
abbrev pub DoesAtHome : {A E : Type 0} → List Code → Result A E → Contents × List Entry → Contents × List Entry
    → (Rules → World → Told World) → Type 0
DoesAtHome codes result old new done =
    (m : Meant codes) (clock : ℕ) (w : World) → Stands codes None clock old.0 w
    → Tells result (λ v _. Stands codes None clock new.0 v) old.1 new.1 (done m.rules w)

-- a turn of at most `most` segments, from a grid that no script is out of to its result
abbrev pub RunsFor : {E : Type 0} → ℕ → Scene → Result ℕ E → Contents × List Entry
    → Contents × Option Live × List Entry → Type 0
RunsFor ticks s result old new =
    (m : Meant s.library.now) (w : World) → IsHome s old.0 w
    → Tells result (ComesTo s new.0 new.1) old.1 new.2 (turn m.rules ticks s.place w)

abbrev pub PassesSegment : {A E : Type 0} → Scene → Result A E → (World → Type 0) → List Entry
    → Contents × Option Live × List Entry → Type 0
PassesSegment s result From old new =
    (m : Meant s.library.now) (w : World) → From w
    → Tells result (λ v _. IsBehindSegment s new.0 new.1 v) old new.2 (segment m.rules s.place w)

-- a grid, the script that is out of it, and the entries
abbrev pub Moment : Type 0
Moment = Contents × Live × List Entry

-- from one moment to another this is done, in each world that they represent
abbrev pub Does : {A E : Type 0} → Scene → Result A E → Moment → Moment → (Rules → Member → World → Told World)
    → Type 0
Does s result old new done =
    (m : Meant s.library.now) (f : Flight) (id : BuiltinId) (w : World)
    → (lent : Lent s.library.now s.unit.now s.clock s.place old.0 old.1 id f w)
    → Tells result (λ v _. Awaits s new.0 new.1 id f v) old.2 new.2 (done m.rules lent.member w)

-- the same with a reply
abbrev pub Replies : {E : Type 0} → Scene → Result Reply E → Moment → Moment → (Rules → Member → World → Answered)
    → Type 0
Replies s result old new done =
    (m : Meant s.library.now) (f : Flight) (id : BuiltinId) (w : World)
    → (lent : Lent s.library.now s.unit.now s.clock s.place old.0 old.1 id f w)
    → Tells result (λ x reply. Awaits s new.0 new.1 id f x.0 × (reply ≡ x.1)) old.2 new.2
    (done m.rules lent.member w)
