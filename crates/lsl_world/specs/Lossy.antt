-- Whole runs as functions of the trips, also those in which objects are handed over by notes: what each step reports
-- and sends, and the steps that are kept, which depend on the trips alone.
use Rattle.std.specs.Prelude.{◌≡◌, ◌⊎◌, ◌==◌, ◌&&◌, ◌+◌, ◌-◌, ◌<◌, ◌^◌, ℕ, suc, Bool, false, not, if◌then◌else◌, List, [], ◌∷◌, ◌++◌, All, Contains, length, map, take, drop, get_or, Option, Some, None, is_some}
use Rattle.std.proofs.Common.{zero}
use Rattle.std.specs.List.{list_any}
use Rattle.std.specs.Str.{bytes_eq}
use Rattle.sha2.specs.Sha256.{sha256}
use Rattle.lsl_code.specs.declared.woven_units.Woven.{Woven as Code}
use Rattle.lsl_ports.specs.Growth.{Begins}
use Rattle.lsl_ports.specs.Trips.{Honest, Trip, sent_of}
use Rattle.lsl_post.specs.Told.{Told, as_value, next_to, quiet}
use Rattle.lsl_handoff.specs.declared.card.Card.{Card}
use Rattle.lsl_handoff.specs.declared.drive.Way.{Way}
use Rattle.lsl_handoff.specs.declared.faults.DepartFault.{DepartFault}
use Rattle.lsl_handoff.specs.declared.note.Note.{Note}
use Rattle.lsl_handoff.specs.Cards.{depart_fault, is_live}
use Rattle.lsl_handoff.specs.DriveLaws.{ArePast, departure}
use Rattle.lsl_handoff.specs.Drives.{Moment, asks, hears, rested}
use Rattle.lsl_handoff.specs.Entries.{comes, entries_by}
use Rattle.lsl_handoff.specs.Fields.{card_at, field_at_start}
use Rattle.lsl_handoff.specs.Handovers.{landed_unless}
use Rattle.lsl_handoff.specs.NoteBytes.{head_bytes, note_bytes}
use Rattle.lsl_image.specs.Images.{IsIntact}
use Rattle.lsl_script.specs.Rules.{Rules}
use Rattle.lsl_region.specs.declared.objects.Linkset.{Linkset}
use Rattle.lsl_region.specs.Worlds.{World}
use Rattle.lsl_lines.specs.declared.file.Step.{Step}
use Rattle.lsl_lines.specs.declared.file.Step.TheVariants.{Cross}
use Rattle.lsl_world.specs.Kept.{leads_elsewhere, regions_behind, regions_of}
use Rattle.lsl_world.specs.Orders.{AreAtMost, AreInOrder, parcel_of, way_to}
use Rattle.lsl_world.specs.Regions.{LeadsToNamed, number_in}
use Rattle.lsl_world.specs.Sizes.{IsStepOf, Size}
use Rattle.lsl_world.specs.Steps.{next, reference}
use Rattle.lsl_world.specs.Travels.{go_on, images, images_of, is_crossing, left, travel}

-- what came back was handed over by then, or isn't intact
abbrev pub WasCarried : List (List ℕ) → Option (List ℕ) → Type 0
WasCarried entries None = Unit {0}
WasCarried entries (Some bytes) = Contains entries bytes ⊎ (IsIntact bytes → ⊥)

-- so it was on each trip
abbrev pub WereCarried : List (List ℕ) → List Trip → Type 0
WereCarried entries [] = Unit {0}
WereCarried entries (t ∷ trips) =
    WasCarried (entries ++ t.sent ∷ []) t.back × WereCarried (entries ++ t.sent ∷ []) trips

-- an offer, by the byte that gives the kind of a note, which wasn't handed over before
abbrev pub is_new_offer : List (List ℕ) → List ℕ → Bool
is_new_offer entries bytes = get_or bytes 14 0 == 1 && not (list_any (bytes_eq bytes) entries)

-- the trips up to the next new offer, and those from there on
abbrev pub trips_before_offer : List (List ℕ) → List Trip → List Trip
trips_before_offer entries [] = []
trips_before_offer entries (t ∷ trips) =
    if is_new_offer entries t.sent then [] else t ∷ trips_before_offer (entries ++ t.sent ∷ []) trips

abbrev pub trips_from_offer : List (List ℕ) → List Trip → List Trip
trips_from_offer entries [] = []
trips_from_offer entries (t ∷ trips) =
    if is_new_offer entries t.sent then t ∷ trips else trips_from_offer (entries ++ t.sent ∷ []) trips

-- the trips of a crossing begin with its offer; those after it
abbrev pub own_trips : List (List ℕ) → List Trip → List Trip
own_trips entries [] = []
own_trips entries (t ∷ trips) = t ∷ trips_before_offer (entries ++ t.sent ∷ []) trips

abbrev pub trips_behind : List (List ℕ) → List Trip → List Trip
trips_behind entries [] = []
trips_behind entries (t ∷ trips) = trips_from_offer (entries ++ t.sent ∷ []) trips

-- the cancel of an offer: of the same object and trip, between the same regions
abbrev pub cancel_for : List ℕ → List ℕ
cancel_for offer = let front = head_bytes 67 ++ 3 ∷ take 20 (drop 15 offer) in front ++ sha256 front

-- the offer came, and not after its cancel
abbrev pub offer_came : List Trip → Bool
offer_came [] = false
offer_came (t ∷ trips) = comes t.sent (cancel_for t.sent) (t ∷ trips)

-- a crossing to another region takes its trips, and is kept where its offer came; where no trip is left it isn't
abbrev pub kept_lossy : List (List ℕ) → List (List ℕ) → List Step → List Trip → List Step
kept_lossy homes entries [] trips = []
kept_lossy homes entries (step ∷ steps) trips =
    if leads_elsewhere homes step
    then (if offer_came (own_trips entries trips)
    then step ∷ kept_lossy (regions_behind homes step) (entries_by entries (own_trips entries trips)) steps
    (trips_behind entries trips)
    else kept_lossy homes (entries_by entries (own_trips entries trips)) steps (trips_behind entries trips))
    else step ∷ kept_lossy homes entries steps trips

-- Where a run is: the world, and where objects are handed over by notes the cards of all regions, and all notes that
-- were handed over so far.
pub record Stage : Type 0 where
  pub world : World
  pub cards : Option (List (List Card))
  pub notes : List Note

-- the result of a step: what is reported, what is sent over the link, and the trips after it
pub record Gone : Type 0 where
  pub told : Told Stage
  pub sent : List (List ℕ)
  pub behind : List Trip

abbrev pub bytes_of : List Note → List (List ℕ)
bytes_of notes = map note_bytes notes

-- the note of these bytes, where it was handed over; other bytes are lost
abbrev pub note_among : List Note → List ℕ → Option Note
note_among [] bytes = None
note_among (note ∷ notes) bytes = if bytes_eq (note_bytes note) bytes then Some note else note_among notes bytes

abbrev pub heard : List Note → Option (List ℕ) → Option Note
heard notes None = None
heard notes (Some bytes) = note_among notes bytes

-- what came back of the first trip; where no trip is left, nothing did
abbrev pub first_back : List Trip → Option (List ℕ)
first_back [] = None
first_back (t ∷ trips) = t.back

-- a drive makes at most 8 rounds with its offer and 8 with its cancel, of one or two notes each
abbrev pub most_notes : ℕ
most_notes = 32

-- a drive by these trips: where it ends, the notes that it hands over, and the trips after it
pub record Driven : Type 0 where
  pub last : Moment
  pub notes : List Note
  pub behind : List Trip

abbrev pub driven_on : Note → Driven → Driven
driven_on note d = record d { notes = note ∷ d.notes }

abbrev pub driven_unless : Option Note → Driven → (Note → Driven) → Driven
driven_unless None stopped on = stopped
driven_unless (Some note) stopped on = on note

-- a drive of at most this many notes, where these were handed over before
unfoldable pub driven : Way → (most : ℕ) → List Note → Moment → List Trip → Driven
driven way zero handed m trips = record { last = m; notes = []; behind = trips }
driven way (suc most) handed m trips =
    driven_unless (asks way m) (record { last = m; notes = []; behind = trips })
    (λ note. driven_on note (driven way most (handed ++ note ∷ [])
    (hears way m (heard (handed ++ note ∷ []) (first_back trips))) (drop 1 trips)))

-- an object was driven this way, and continues where it came to the other region
abbrev pub goes_driven : Rules → List (List ℕ) → Step → Way → Stage → Driven → Gone
goes_driven r regions step way stage d =
    let cards = rested d.last.field way in
    let landed = landed_unless (is_live (card_at cards way.object way.from).phase) d.last.landed in
    record {
      told = as_value (λ w. record { world = w; cards = Some cards; notes = stage.notes ++ d.notes })
          (if is_some landed then next r step stage.world else quiet stage.world);
      sent = bytes_of d.notes;
      behind = d.behind;
    }

-- an object departs, unless it made its last trip
abbrev pub departs_unless : Option DepartFault → List Code → Rules → List (List ℕ) → Step → Way → List (List Card)
    → Stage → List Trip → Gone
departs_unless (Some fault) codes r regions step way cards stage trips =
    record { told = quiet stage; sent = []; behind = trips }
departs_unless None codes r regions step way cards stage trips =
    goes_driven r regions step way stage (driven way most_notes stage.notes
    (departure cards way (parcel_of codes stage.world way.object)) trips)

-- a step by trips, where objects cross as images
abbrev pub goes_plainly : List Code → Rules → Step → Stage → List Trip → Gone
goes_plainly codes r step stage trips = record {
  told = as_value (λ w. record stage { world = w }) (go_on r step trips stage.world);
  sent = images_of codes step stage.world;
  behind = left step stage.world trips;
}

abbrev pub goes_lossily : List Code → Rules → List (List ℕ) → Step → List (List Card) → Stage → List Trip → Gone
goes_lossily codes r regions (Cross object region) cards stage trips =
    let way = way_to regions (regions_of stage.world) object region in
    if is_crossing stage.world (Cross object region)
    then departs_unless (depart_fault (card_at cards way.object way.from) way.from way.to) codes r regions
    (Cross object region) way cards stage trips
    else goes_plainly codes r (Cross object region) stage trips
goes_lossily codes r regions step cards stage trips = goes_plainly codes r step stage trips

-- objects are handed over by notes where there are cards
abbrev pub goes_by : Option (List (List Card)) → List Code → Rules → List (List ℕ) → Step → Stage → List Trip → Gone
goes_by None codes r regions step stage trips = goes_plainly codes r step stage trips
goes_by (Some cards) codes r regions step stage trips = goes_lossily codes r regions step cards stage trips

abbrev pub goes : List Code → Rules → List (List ℕ) → Step → Stage → List Trip → Gone
goes codes r regions step stage trips = goes_by stage.cards codes r regions step stage trips

-- all steps, in order, and all that they send over the link
unfoldable pub travel_from : List Code → Rules → List (List ℕ) → List Step → List Trip → Stage → Told Stage
travel_from codes r regions [] trips stage = quiet stage
travel_from codes r regions (step ∷ steps) trips stage =
    let gone = goes codes r regions step stage trips in
    next_to gone.told (λ s. travel_from codes r regions steps gone.behind s)

unfoldable pub sent_from : List Code → Rules → List (List ℕ) → List Step → List Trip → Stage → List (List ℕ)
sent_from codes r regions [] trips stage = []
sent_from codes r regions (step ∷ steps) trips stage =
    let gone = goes codes r regions step stage trips in
    gone.sent ++ sent_from codes r regions steps gone.behind gone.told.value

-- the cards of objects that are at home where they are
abbrev pub cards_at_start : List (List ℕ) → List Linkset → List (List Card)
cards_at_start regions objects = field_at_start (map (λ o. number_in regions o.region) objects) (length regions)

-- a world where a run begins: one without notes, and one in which objects are handed over by them
abbrev pub plain_stage : World → Stage
plain_stage w = record { world = w; cards = None; notes = [] }

abbrev pub lossy_stage : List (List ℕ) → World → Stage
lossy_stage regions w = record { world = w; cards = Some (cards_at_start regions w.objects); notes = [] }

-- What came back on a run's trips: where objects cross as images, what was sent, or nothing, or bytes that aren't
-- intact; where they are handed over by notes, what was handed over by then, or nothing, or bytes that aren't intact.
abbrev pub IsFairBy : Option (List (List Card)) → List Note → List Trip → Type 0
IsFairBy None notes trips = Honest IsIntact trips
IsFairBy (Some cards) notes trips = WereCarried (bytes_of notes) trips

abbrev pub IsFairFrom : Stage → List Trip → Type 0
IsFairFrom stage trips = IsFairBy stage.cards stage.notes trips

-- if the cards are in order, a prefix of a run's notes was handed over, and nothing but these came back, then the run
-- reports what the run of the kept steps reports, as the meaning without notes defines it
abbrev pub LossyRunsKeepSteps : Type 0
LossyRunsKeepSteps =
    (codes : List Code) (r : Rules) (regions : List (List ℕ)) (steps : List Step) (stage : Stage)
    (cards : List (List Card)) (most : ℕ) (size : Size) (trips : List Trip)
    → stage.cards ≡ Some cards → AreInOrder regions cards (regions_of stage.world) → AreAtMost most cards
    → most + length steps < 2 ^ 64 - 1 → length regions < 2 ^ 32 → length stage.world.objects < 2 ^ 32
    → All (LeadsToNamed regions) steps → length size.prims ≡ length stage.world.objects → All (IsStepOf size) steps
    → ArePast cards stage.notes → WereCarried (bytes_of stage.notes) trips
    → Begins (sent_of trips) (sent_from codes r regions steps trips stage)
    → as_value (λ s. s.world) (travel_from codes r regions steps trips stage)
    ≡ reference r (kept_lossy (regions_of stage.world) (bytes_of stage.notes) steps trips) stage.world

-- a run without notes is one by trips
abbrev pub PlainRunsTravel : Type 0
PlainRunsTravel =
    (codes : List Code) (r : Rules) (regions : List (List ℕ)) (steps : List Step) (trips : List Trip) (w : World)
    → (as_value (λ s. s.world) (travel_from codes r regions steps trips (plain_stage w)) ≡ travel r steps trips w)
    × (sent_from codes r regions steps trips (plain_stage w) ≡ images codes r steps trips w)
