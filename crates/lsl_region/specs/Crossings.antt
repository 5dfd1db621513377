-- An object crosses to another region: its image is sent over a link, and the object continues as what comes back says.
use Rattle.std.specs.Prelude.{◌≡◌, ◌≢◌, ℕ, ◌+◌, pos, nat_eq, if◌then◌else◌, List, [], ◌∷◌, ◌++◌, length, map, OnOk, Option, Some, None, slice_get, slice_set, take}
use Rattle.std.specs.declared.result.Result.{Result}
use Rattle.std.specs.Str.{bytes_eq}
use Rattle.lsl_code.specs.declared.functions.StateCode.{StateCode}
use Rattle.lsl_code.specs.declared.woven_units.Woven.{Woven as Code}
use Rattle.lsl_ports.specs.Trips.{Trip}
use Rattle.lsl_post.specs.declared.entries.Entry.{Entry}
use Rattle.lsl_post.specs.declared.events.Event.{Event}
use Rattle.lsl_post.specs.declared.parts.Posted.{Posted}
use Rattle.lsl_post.specs.declared.parts.Posted.TheVariants.{Unheard}
use Rattle.lsl_post.specs.declared.parts.ScriptParts.{ScriptParts}
use Rattle.lsl_post.specs.Mailbox.{posted_to, with_posted}
use Rattle.lsl_post.specs.Told.{Told, as_value, next_to, quiet}
use Rattle.lsl_image.specs.declared.faults.ImageFault.{ImageFault}
use Rattle.lsl_image.specs.declared.parts.ObjectParts.{ObjectParts}
use Rattle.lsl_image.specs.Bytes.{object_image}
use Rattle.lsl_image.specs.Images.{ObjectFirst, ObjectImage}
use Rattle.lsl_image.specs.Valid.{IsObject, shape_of}
use Rattle.lsl_script.specs.Scripts.{entries_of_posting}
use Rattle.lsl_region.specs.declared.arrival.Site.{Site}
use Rattle.lsl_region.specs.declared.crossing.Crossed.{Crossed}
use Rattle.lsl_region.specs.declared.crossing.Crossed.TheVariants.{Moved, Stayed, Here}
use Rattle.lsl_region.specs.declared.crossing.StayedWhy.TheVariants.{Link, Image}
use Rattle.lsl_region.specs.declared.grid.Seat.{Seat}
use Rattle.lsl_region.specs.Arrivals.{changed_event}
use Rattle.lsl_region.specs.Grids.{AreSeated, Contents}
use Rattle.lsl_region.specs.ObjectParts.{in_region, object_in_grid, parts_of_object, with_parts}

-- the states of the unit of this number
abbrev pub states_of : Option Code → List StateCode
states_of None = []
states_of (Some unit) = unit.states

abbrev pub states_in : List Code → ℕ → List StateCode
states_in codes unit = states_of (slice_get codes unit)

-- the effect of an event on the script in a seat
abbrev pub posted_in : List StateCode → Event → Option ScriptParts → Posted
posted_in states e None = Unheard
posted_in states e (Some parts) = posted_to states e parts

-- an event is posted to the script of this number
abbrev pub post_in : List StateCode → Event → (number : ℕ) → Seat → Option ScriptParts → Told Seat
post_in states e number seat None = quiet seat
post_in states e number seat (Some parts) = record {
  value = record seat { script = Some (with_posted states e parts) };
  entries = entries_of_posting number (posted_to states e parts);
}

-- if it is one of this object
abbrev pub post_in_seat : List Code → ℕ → Event → (number : ℕ) → Seat → Told Seat
post_in_seat codes place e number seat =
    if nat_eq seat.object place then post_in (states_in codes seat.unit) e number seat seat.script else quiet seat

-- to all scripts of the object, numbered from this one on
abbrev pub post_in_seats : List Code → ℕ → Event → (number : ℕ) → List Seat → Told (List Seat)
post_in_seats codes place e number [] = quiet []
post_in_seats codes place e number (seat ∷ seats) =
    next_to (post_in_seat codes place e number seat)
    (λ s. as_value (λ others. s ∷ others) (post_in_seats codes place e (number + 1) seats))

-- the event of an object that is in another region
abbrev pub region_changed : Event
region_changed = changed_event (pos 256)

abbrev pub region_in : Contents → ℕ → List ℕ
region_in grid place = (object_in_grid grid place).region

-- what is sent over the link: the image of the object at this place, as it is
abbrev pub image_in : List Code → Contents → ℕ → List ℕ
image_in codes grid place = object_image 2 (region_in grid place) codes (parts_of_object grid place)

-- nothing, where it is in that region
abbrev pub images_to : List Code → Contents → ℕ → List ℕ → List (List ℕ)
images_to codes grid place region =
    if bytes_eq (region_in grid place) region then [] else image_in codes grid place ∷ []

-- the object has these parts, in this region, and then its scripts get the event
abbrev pub arrived : List Code → Contents → ℕ → List ℕ → ObjectParts → Told Contents
arrived codes grid place region parts =
    let there = in_region (with_parts grid place parts) place region in
    as_value (λ seats. record there { seats = seats })
    (post_in_seats codes place region_changed 1 there.seats)

-- the same at a site: for one seat, for all of them, and the whole
abbrev pub told_at : Site → ℕ → Seat → Told Seat
told_at s n seat = post_in_seat s.library.now s.place region_changed (n + 1) seat

abbrev pub told_all_at : Site → List Seat → Told (List Seat)
told_all_at s seats = post_in_seats s.library.now s.place region_changed 1 seats

abbrev pub arrived_at : Site → Contents → List ℕ → ObjectParts → Told Contents
arrived_at s grid region parts = arrived s.library.now grid s.place region parts

-- this was done to a seat, and its entries came from one place up to another
pub record IsPosted (done : Told Seat) (seat : ℕ) (old new : Contents) (first end : ℕ) (before after : List Entry)
    : Type 0 where
  pub seats : new.seats ≡ slice_set old.seats seat done.value
  pub entries : take end after ≡ take first before ++ done.entries
  pub next : end ≡ first + length done.entries

-- the objects and notecards are as they were, and all scripts are of their units
pub record KeepsOthers (codes : List Code) (old new : Contents) : Type 0 where
  pub objects : new.objects ≡ old.objects
  pub cards : new.cards ≡ old.cards
  pub seated : AreSeated codes new.seats

-- all scripts are of their units, unless memory ran out; there are as many objects, prims in each, and scripts
pub record KeepsCounts {A E : Type 0} (codes : List Code) (result : Result A E) (old new : Contents) : Type 0 where
  pub seated : OnOk result (AreSeated codes new.seats)
  pub objects : map (λ o. length o.prims) new.objects ≡ map (λ o. length o.prims) old.objects
  pub scripts : length new.seats ≡ length old.seats

-- parts that can take the place of the object's
pub record CanArrive (codes : List Code) (grid : Contents) (place : ℕ) (parts : ObjectParts) : Type 0 where
  pub valid : IsObject codes parts
  pub shape : shape_of parts ≡ shape_of (parts_of_object grid place)

-- the entries, without those that were added after the first `before` in case the object moves
abbrev pub kept_entries : Crossed → ℕ → List Entry → List Entry
kept_entries Moved count entries = entries
kept_entries (Stayed why) count entries = take count entries
kept_entries Here count entries = take count entries

-- nothing came of it
pub record Stays (old new : Contents) (before after : List Entry) : Type 0 where
  pub same : new ≡ old
  pub silent : after ≡ before

-- these bytes came back: an image of the object, with these parts, or bytes with this first fault
abbrev pub Brings : List Code → Contents → ℕ → ObjectParts → List ℕ → Type 0
Brings codes grid place parts back =
    ObjectImage (region_in grid place) (shape_of (parts_of_object grid place)) codes parts back

abbrev pub BringsFault : List Code → Contents → ℕ → ImageFault → List ℕ → Type 0
BringsFault codes grid place fault back =
    ObjectFirst (region_in grid place) (shape_of (parts_of_object grid place)) codes back fault

-- what is sent over the link is an image of the object as it is
abbrev pub IsSent : List Code → Contents → ℕ → Type 0
IsSent codes grid place = Brings codes grid place (parts_of_object grid place) (image_in codes grid place)

-- the effect on the object if these bytes came back
abbrev pub ComesOf : List Code → ℕ → List ℕ → (old new : Contents) → (before after : List Entry) → List ℕ → Crossed
    → Type 0
ComesOf codes place region old new before after back Here = ⊥
ComesOf codes place region old new before after back (Stayed Link) = ⊥
ComesOf codes place region old new before after back (Stayed (Image fault)) =
    BringsFault codes old place fault back × Stays old new before after
ComesOf codes place region old new before after back Moved =
    (parts : ObjectParts) × Brings codes old place parts back × (new ≡ (arrived codes old place region parts).value)
    × (after ≡ before ++ (arrived codes old place region parts).entries)

-- one trip of this image, which brought that back
abbrev pub IsOneTrip : List Trip → List ℕ → Option (List ℕ) → Type 0
IsOneTrip trips sent back = trips ≡ record { sent = sent; back = back } ∷ []

-- the effect on the object at this place that is to cross to this region, by the trips that it made
abbrev pub CrossesAs : List Code → ℕ → List ℕ → (old new : Contents) → (before after : List Entry) → List Trip → Crossed
    → Type 0
CrossesAs codes place region old new before after trips Here =
    (region_in old place ≡ region) × (trips ≡ []) × Stays old new before after
CrossesAs codes place region old new before after trips (Stayed Link) =
    (region_in old place ≢ region) × IsOneTrip trips (image_in codes old place) None × Stays old new before after
CrossesAs codes place region old new before after trips (Stayed (Image fault)) =
    (region_in old place ≢ region)
    × ((back : List ℕ) × IsOneTrip trips (image_in codes old place) (Some back)
    × BringsFault codes old place fault back)
    × Stays old new before after
CrossesAs codes place region old new before after trips Moved =
    (region_in old place ≢ region)
    × ((back : List ℕ) × (parts : ObjectParts) × IsOneTrip trips (image_in codes old place) (Some back)
    × Brings codes old place parts back × (new ≡ (arrived codes old place region parts).value)
    × (after ≡ before ++ (arrived codes old place region parts).entries))
