-- What a crossing means: a region's name and one event. It is refused if something else came back than was sent.
use Rattle.std.specs.Prelude.{◌≡◌, ℕ, Bool, false, not, ◌&&◌, if◌then◌else◌, List, [], ◌∷◌, map, Option, Some, None, MatchResult}
use Rattle.std.specs.declared.result.Result.{Result}
use Rattle.std.specs.Str.{bytes_eq}
use Rattle.lsl_code.specs.declared.woven_units.Woven.{Woven as Code}
use Rattle.lsl_ports.specs.Growth.{Begins}
use Rattle.lsl_ports.specs.Trips.{Honest, Trip, sent_of}
use Rattle.lsl_post.specs.declared.entries.Entry.{Entry}
use Rattle.lsl_post.specs.Journal.{Tells}
use Rattle.lsl_post.specs.Told.{Told, quiet}
use Rattle.lsl_image.specs.Images.{IsIntact}
use Rattle.lsl_script.specs.Rules.{Rules}
use Rattle.lsl_region.specs.Arrivals.{post_object}
use Rattle.lsl_region.specs.Crossings.{images_to, region_changed}
use Rattle.lsl_region.specs.Grids.{Contents, Stands, seat_of}
use Rattle.lsl_region.specs.Worlds.{World, object_at, with_object}

abbrev pub is_in_region : World → ℕ → List ℕ → Bool
is_in_region w place region = bytes_eq (object_at w place).region region

-- the object at this place is in that region, and then its scripts get the event
abbrev pub arrive : Rules → ℕ → List ℕ → World → Told World
arrive r place region w =
    post_object r place region_changed (with_object w place (record (object_at w place) { region = region }))

-- nothing, if it is there
abbrev pub cross : Rules → ℕ → List ℕ → World → Told World
cross r place region w = if is_in_region w place region then quiet w else arrive r place region w

abbrev pub is_same : List ℕ → Option (List ℕ) → Bool
is_same sent None = false
is_same sent (Some back) = bytes_eq sent back

-- of the first trip came back what was sent
abbrev pub came_back : List Trip → Bool
came_back [] = false
came_back (trip ∷ trips) = is_same trip.sent trip.back

-- a crossing by these trips: one that is refused leaves all unchanged
abbrev pub cross_by : Rules → ℕ → List ℕ → List Trip → World → Told World
cross_by r place region trips w =
    if not (is_in_region w place region) && not (came_back trips) then quiet w else cross r place region w

-- the grid that represents a world between turns
abbrev pub contents_of : List Code → World → Contents
contents_of codes w = record { objects = w.objects; seats = map (seat_of codes false) w.members; cards = w.cards }

-- these images were sent, or a prefix of them
abbrev pub Sends : {T E : Type 0} → Result T E → List Trip → List (List ℕ) → Type 0
Sends result trips images = MatchResult result (λ _. sent_of trips ≡ images) (λ _. Begins (sent_of trips) images)

-- the result of a crossing in the world that the grid represents
pub record Travels {T E : Type 0} (codes : List Code) (r : Rules) (clock place : ℕ) (region : List ℕ) (w : World)
    (trips : List Trip) (new : Contents) (before after : List Entry) (result : Result T E) : Type 0 where
  pub tells : Honest IsIntact trips
      → Tells result (λ v _. Stands codes None clock new v) before after (cross_by r place region trips w)
  pub sent : Sends result trips (images_to codes (contents_of codes w) place region)
