-- Worlds in which objects are handed over by notes: cards in order, and the result of a step by the trips that it made.
use Rattle.std.specs.Prelude.{◌≡◌, ℕ, suc, ◌-◌, ◌<◌, ◌≤◌, ◌^◌, ◌⊎◌, Bool, true, false, if◌then◌else◌, List, [], length, get_or, Option, Some, None, OnOk, MatchResult}
use Rattle.std.specs.declared.result.Result.{Result}
use Rattle.lsl_code.specs.declared.woven_units.Woven.{Woven as Code}
use Rattle.lsl_ports.specs.Trips.{Trip}
use Rattle.lsl_handoff.specs.declared.card.Card.{Card}
use Rattle.lsl_handoff.specs.declared.drive.Way.{Way}
use Rattle.lsl_handoff.specs.declared.faults.DepartFault.{DepartFault}
use Rattle.lsl_handoff.specs.declared.faults.DepartFault.TheVariants.{LastTrip}
use Rattle.lsl_handoff.specs.declared.note.Note.{Note}
use Rattle.lsl_handoff.specs.Cards.{depart_fault}
use Rattle.lsl_handoff.specs.DriveLaws.{IsAtRest, departure}
use Rattle.lsl_handoff.specs.Entries.{AreAllPast, MayRest, Rests, arrives, entries_by}
use Rattle.lsl_handoff.specs.Fields.{IsOneOf, card_at}
use Rattle.lsl_handoff.specs.Handovers.{HasCounts, IsCut, IsGivenOf, IsHandedOver, IsTaken}
use Rattle.lsl_handoff.specs.NoteLaws.{AreCounts}
use Rattle.lsl_post.specs.declared.entries.Entry.{Entry}
use Rattle.lsl_post.specs.Journal.{Tells}
use Rattle.lsl_post.specs.Told.{Told, quiet}
use Rattle.lsl_script.specs.Rules.{Rules}
use Rattle.lsl_image.specs.declared.parts.ObjectParts.{ObjectParts}
use Rattle.lsl_region.specs.Crossings.{CanArrive, IsSent, image_in}
use Rattle.lsl_region.specs.Grids.{Contents}
use Rattle.lsl_region.specs.Journeys.{contents_of}
use Rattle.lsl_region.specs.ObjectParts.{parts_of_object}
use Rattle.lsl_region.specs.Worlds.{World}
use Rattle.lsl_lines.specs.declared.file.Step.{Step}
use Rattle.lsl_lines.specs.declared.file.Step.TheVariants.{Cross}
use Rattle.lsl_world.specs.Handing.{IsImageFrom}
use Rattle.lsl_world.specs.Kept.{regions_of}
use Rattle.lsl_world.specs.Regions.{IsNamed, number_in}
use Rattle.lsl_world.specs.Steps.{next}
use Rattle.lsl_world.specs.Travels.{is_crossing}

-- the number of the region where an object is, where the objects are in these regions
abbrev pub place_in : List (List ℕ) → List (List ℕ) → ℕ → ℕ
place_in regions homes object = number_in regions (get_or homes (object - 1) [])

-- the way of an object to a region
abbrev pub way_to : List (List ℕ) → List (List ℕ) → ℕ → List ℕ → Way
way_to regions homes object region =
    record { object = object; from = place_in regions homes object; to = number_in regions region }

-- each object is live in the region where it is and away in the others, and none of these heard of a later trip
pub record AreInOrder (regions : List (List ℕ)) (cards : List (List Card)) (homes : List (List ℕ)) : Type 0 where
  pub counts : HasCounts (length homes) (length regions) cards
  pub named : (object : ℕ) → IsOneOf (length homes) object → IsNamed regions (get_or homes (object - 1) [])
  pub rest : (object : ℕ) → IsOneOf (length homes) object → IsAtRest cards object (place_in regions homes object)
  pub fit : (object region : ℕ) → (card_at cards object region).trip < 2 ^ 64

-- no object made more trips
abbrev pub AreAtMost : ℕ → List (List Card) → Type 0
AreAtMost most cards = (object region : ℕ) → (card_at cards object region).trip ≤ most

-- what is handed over: the image of the object as it is
abbrev pub parcel_of : List Code → World → ℕ → List ℕ
parcel_of codes w object = image_in codes (contents_of codes w) (object - 1)

-- a crossing continues where the offer came, and not after its cancel; where it didn't come, nothing happens
abbrev pub hand_on : List Code → Rules → List (List ℕ) → List (List Card) → Step → List Trip → World → Told World
hand_on codes r regions cards (Cross object region) trips w =
    if is_crossing w (Cross object region)
    then (if arrives cards (way_to regions (regions_of w) object region) (parcel_of codes w object) trips
    then next r (Cross object region) w
    else quiet w)
    else quiet w
hand_on codes r regions cards step trips w = next r step w

-- which offers are accepted: those with a parcel that is an image of their object
abbrev pub IsOfferIn : List Code → List (List ℕ) → World → Note → Type 0
IsOfferIn codes regions w offer = IsTaken (IsImageFrom codes (contents_of codes w) regions) offer

-- an object was driven on its way, and rests; or it made its last trip, and nothing was carried
abbrev pub IsDriven : List Code → List (List ℕ) → World → Way → (old new : List (List Card)) → List Trip → Type 0
IsDriven codes regions w way old new trips =
    ((landed : Option Note) × IsHandedOver (length w.objects) (length regions) (IsOfferIn codes regions w) way
    (parcel_of codes w way.object) trips old new landed)
    ⊎ ((depart_fault (card_at old way.object way.from) way.from way.to ≡ Some LastTrip) × (trips ≡ []) × (new ≡ old))

-- these trips are a prefix of its drive
abbrev pub IsDrivenPartly : List Code → List (List ℕ) → World → Way → List (List Card) → List Trip → Type 0
IsDrivenPartly codes regions w way old trips =
    IsCut (length w.objects) (length regions) (IsOfferIn codes regions w) way
    (departure old way (parcel_of codes w way.object)) trips

-- where an object crosses, its notes were carried, or a prefix of them; where none crosses, none
abbrev pub SendsIf : {T E : Type 0} → Bool → Result T E → List Code → List (List ℕ) → World → Way
    → (old new : List (List Card)) → List Trip → Type 0
SendsIf true result codes regions w way old new trips =
    MatchResult result (λ _. IsDriven codes regions w way old new trips)
    (λ _. IsDrivenPartly codes regions w way old trips)
SendsIf false result codes regions w way old new trips = (trips ≡ []) × (new ≡ old)

abbrev pub SendsNotes : {T E : Type 0} → Step → Result T E → List Code → List (List ℕ) → World
    → (old new : List (List Card)) → List Trip → Type 0
SendsNotes (Cross object region) result codes regions w old new trips =
    SendsIf (is_crossing w (Cross object region)) result codes regions w (way_to regions (regions_of w) object region)
    old new trips
SendsNotes step result codes regions w old new trips = (trips ≡ []) × (new ≡ old)

-- the result of a step, if the cards are in order, all earlier entries are past, and nothing came back on its trips but
-- entries by then and bytes that aren't a note
pub record Hands {T E : Type 0} (codes : List Code) (r : Rules) (IsNow : World → Type 0) (regions : List (List ℕ))
    (old_cards new_cards : List (List Card)) (step : Step) (w : World) (entries : List (List ℕ)) (trips : List Trip)
    (old new : List Entry) (result : Result T E) : Type 0 where
  pub tells : Tells result (λ v _. IsNow v) old new (hand_on codes r regions old_cards step trips w)
  pub ordered : OnOk result
      (AreInOrder regions new_cards (regions_of (hand_on codes r regions old_cards step trips w).value))
  pub past : OnOk result (AreAllPast (length w.objects) (length regions) new_cards (entries_by entries trips))
  pub few : (most : ℕ) → AreAtMost most old_cards → OnOk result (AreAtMost (suc most) new_cards)
  pub sent : SendsNotes step result codes regions w old_cards new_cards trips

-- an object of a grid was driven on its way, and came with these parts, or with none; or it didn't depart, and nothing
-- was carried: for private functions
abbrev pub DrivesTo : List Code → List (List ℕ) → Contents → Way → (old new : List (List Card)) → List Trip
    → Option ObjectParts → Type 0
DrivesTo codes regions grid way old new trips given =
    ((landed : Option Note)
    × IsHandedOver (length grid.objects) (length regions) (IsTaken (IsImageFrom codes grid regions)) way
    (image_in codes grid (way.object - 1)) trips old new landed
    × IsGivenOf (IsImageFrom codes grid regions) landed given
    × ((place : ℕ → ℕ) (entries : List (List ℕ))
    → MayRest (length grid.objects) (length regions) (IsTaken (IsImageFrom codes grid regions)) place old way
    (image_in codes grid (way.object - 1)) entries trips
    → Rests (length grid.objects) (length regions) old new way (image_in codes grid (way.object - 1)) entries trips
    landed))
    ⊎ ((fault : DepartFault) × (depart_fault (card_at old way.object way.from) way.from way.to ≡ Some fault)
    × (trips ≡ []) × (new ≡ old) × (given ≡ None))

-- what is known of an object of a grid whose notes were carried, and of the numbers of objects and regions: for private
-- functions
pub record IsSentOf (codes : List Code) (regions : List (List ℕ)) (grid : Contents) (place : ℕ) : Type 0 where
  pub short : length (image_in codes grid place) < 2 ^ 63
  pub counts : AreCounts (length grid.objects) (length regions)
  pub sent : IsSent codes grid place
  pub fits : CanArrive codes grid place (parts_of_object grid place)

abbrev pub SendsOf : List Code → List (List ℕ) → Contents → ℕ → List Trip → Type 0
SendsOf codes regions grid object trips = (trips ≡ []) ⊎ IsSentOf codes regions grid (object - 1)

abbrev pub SendsOfStep : List Code → List (List ℕ) → Contents → Step → List Trip → Type 0
SendsOfStep codes regions grid (Cross object region) trips = SendsOf codes regions grid object trips
SendsOfStep codes regions grid step trips = trips ≡ []
