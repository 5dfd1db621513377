-- Segments that an awake script passes one after another, on integers and calls of functions alone.
use Rattle.std.specs.Prelude.{◌+◌, ℕ, Bool, true, false, List}
use Rattle.lsl_code.specs.declared.woven_units.Woven.{Woven as Code}
use Rattle.lsl_machine.specs.Memory.{TakesNone}
use Rattle.lsl_machine.specs.State.{bodies_of}
use Rattle.lsl_script.specs.declared.live.Live.{Live}
use Rattle.lsl_script.specs.declared.live.Turn.TheVariants as turn
use Rattle.lsl_script.specs.Awake.{IsBeside}
use Rattle.lsl_script.specs.Lives.{Lives, Rests, Turns}
use Rattle.lsl_script.specs.Scripts.{Flight, Script}

-- one of them, from a tick to the next
pub record PassesSegment (unit : Code) (old new : Live) : Type 0 where
  pub beside : IsBeside old new
  pub source : (codes : List Code) (s : Script) (f : Flight) → Rests codes unit s f old
      → Turns codes unit s f turn.AtTick new

-- `count` of them
pub data PassesSegments (unit : Code) : ℕ → Live → Live → Type 0 where
  NoSegment : (live : Live) → PassesSegments unit 0 live live
  OneMore : (n : ℕ) (old mid new : Live) → PassesSegments unit n old mid → PassesSegment unit mid new
      → PassesSegments unit (n + 1) old new

-- a part of one, from a tick on
pub record PassesPart (unit : Code) (old new : Live) : Type 0 where
  pub beside : IsBeside old new
  pub source : (codes : List Code) (s : Script) (f : Flight) → Rests codes unit s f old → Lives codes unit s f new
  -- on integers alone it takes no memory to continue from there, except to enter a function and to make a host call
  pub memory : TakesNone (bodies_of unit) old.machine → TakesNone (bodies_of unit) new.machine

-- `count` of them, and then the script is at a tick, or within the next one
abbrev pub PassesTo : Bool → Code → ℕ → Live → Live → Type 0
PassesTo true unit n old new = PassesSegments unit n old new
PassesTo false unit n old new = (mid : Live) × PassesSegments unit n old mid × PassesPart unit mid new
