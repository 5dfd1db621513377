-- What the code's values mean: for private functions.
use Rattle.std.specs.Prelude.{ℕ, Option, Some, None, map}
use Rattle.lsl_text.specs.declared.Refusal.{Refusal}
use Rattle.lsl_text.specs.declared.Refusal.TheVariants as refusals
use Rattle.lsl_build.specs.declared.faults.BuildFault.{BuildFault}
use Rattle.lsl_notes.specs.declared.faults.CardFault.{CardFault}
use Rattle.lsl_top.specs.declared.building.Refused.{Refused}
use Rattle.lsl_top.specs.declared.noting.BadCard.{BadCard}
use Rattle.lsl_top.specs.declared.words.Command.{Command as Found}
use Rattle.lsl_top.specs.declared.words.Command.TheVariants as found
use Rattle.lsl_top.specs.declared.modes.Mode.{Mode as AMode}
use Rattle.lsl_top.specs.declared.modes.Mode.TheVariants as modes
use Rattle.lsl_top.specs.declared.play.Play.{Play as APlay}
use Rattle.lsl_top.specs.Plays.{Mode, Whole, Handing, Freezing, Inspecting, Thawing, Last, Homes, Frozen, Inspected, Viewing, Play, Read, played}
use Rattle.lsl_top.specs.Words.{Command, Once, Check, Replay, Lossy, Freeze, Thaw, Make, View, State}
use Rattle.lsl_top.specs.declared.modes.Last.{Last as ALast}
use Rattle.lsl_top.specs.declared.modes.Last.TheVariants as lasts

abbrev pub asked_by : Found → Command
asked_by (found.Once file) = Once file.now
asked_by (found.Check file) = Check file.now
asked_by (found.Replay file) = Replay file.now
asked_by (found.Lossy file) = Lossy file.now
asked_by (found.Freeze file) = Freeze file.now
asked_by (found.Thaw frozen file) = Thaw frozen.now file.now
asked_by (found.View frozen file) = View frozen.now file.now
asked_by (found.Make number) = Make number
asked_by (found.State at file) = State at file.now

abbrev pub mode_of : AMode → Mode
mode_of modes.Whole = Whole
mode_of modes.Handing = Handing
mode_of modes.Freezing = Freezing
mode_of (modes.Inspecting at) = Inspecting at
mode_of (modes.Thawing frozen) = Thawing frozen.now
mode_of (modes.Viewing frozen) = Viewing frozen.now

-- what is played, and what was read of its files
abbrev pub play_in : APlay → Play
play_in p = played (mode_of p.mode) (map (λ n. n.now) p.names.now) (map (λ n. n.now) p.cards.now) p.world.now

abbrev pub read_in : APlay → Read
read_in p = record {
  texts = map (λ t. t.items) p.texts.items;
  notes = map (λ t. t.items) p.notes.items;
  frozen = p.frozen.items;
}

abbrev pub last_of : ALast → Last
last_of lasts.Homes = Homes
last_of lasts.Frozen = Frozen
last_of (lasts.Inspected names) = Inspected names.now

abbrev pub meant_by : Option Found → Option Command
meant_by None = None
meant_by (Some command) = Some (asked_by command)

-- the refusal of the text at a place, of a script and of a notecard
abbrev pub refused_at : ℕ → Refusal BuildFault → Refusal Refused
refused_at place (refusals.Fault fault) = refusals.Fault (record { place = place; fault = fault })
refused_at place refusals.NoMemory = refusals.NoMemory

abbrev pub bad_at : ℕ → Refusal CardFault → Refusal BadCard
bad_at place (refusals.Fault fault) = refusals.Fault (record { place = place; fault = fault })
bad_at place refusals.NoMemory = refusals.NoMemory
