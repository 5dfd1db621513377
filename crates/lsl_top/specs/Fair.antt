-- What may come back over the link, by how a world is played. Where objects cross as images: what was sent, or nothing,
-- or bytes that aren't intact. Where they are handed over by notes: what was handed over by then, or nothing, or bytes
-- that aren't intact.
use Rattle.std.specs.Prelude.{List, [], Option, Some, None}
use Rattle.lsl_ports.specs.Trips.{Honest, Trip}
use Rattle.lsl_image.specs.Images.{IsIntact}
use Rattle.lsl_world.specs.Lossy.{WereCarried}
use Rattle.lsl_top.specs.Plays.{Mode, Whole, Handing, Freezing, Inspecting, Thawing, Viewing}
use Rattle.lsl_top.specs.Words.{Command, Once, Check, Replay, Lossy, Freeze, Thaw, Make, View, State}

abbrev pub IsFairIn : Mode → List Trip → Type 0
IsFairIn Whole trips = Honest IsIntact trips
IsFairIn Handing trips = WereCarried [] trips
IsFairIn Freezing trips = Honest IsIntact trips
IsFairIn (Inspecting at) trips = Honest IsIntact trips
IsFairIn (Thawing name) trips = Honest IsIntact trips
IsFairIn (Viewing name) trips = Honest IsIntact trips

abbrev pub IsFairOf : Command → List Trip → Type 0
IsFairOf (Once name) trips = Honest IsIntact trips
IsFairOf (Check name) trips = Honest IsIntact trips
IsFairOf (Replay name) trips = Honest IsIntact trips
IsFairOf (Lossy name) trips = WereCarried [] trips
IsFairOf (Freeze name) trips = Honest IsIntact trips
IsFairOf (Thaw frozen name) trips = Honest IsIntact trips
IsFairOf (View frozen name) trips = Honest IsIntact trips
IsFairOf (Make number) trips = Honest IsIntact trips
IsFairOf (State at name) trips = Honest IsIntact trips

-- and where the words are a command
abbrev pub IsFair : Option Command → List Trip → Type 0
IsFair None trips = Unit {0}
IsFair (Some command) trips = IsFairOf command trips
