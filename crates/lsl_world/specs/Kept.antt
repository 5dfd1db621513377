-- The steps that are kept: all but the crossings that were refused, by the regions alone.
use Rattle.std.specs.Prelude.{ℕ, ◌-◌, Bool, false, not, if◌then◌else◌, List, [], ◌∷◌, drop, map, get_or, slice_set}
use Rattle.std.specs.Str.{bytes_eq}
use Rattle.lsl_ports.specs.Trips.{Trip}
use Rattle.lsl_region.specs.declared.objects.Linkset.{Linkset}
use Rattle.lsl_region.specs.Journeys.{came_back}
use Rattle.lsl_region.specs.Worlds.{World}
use Rattle.lsl_lines.specs.declared.file.Step.{Step}
use Rattle.lsl_lines.specs.declared.file.Step.TheVariants.{Cross}

abbrev pub region_of : Linkset → List ℕ
region_of object = object.region

abbrev pub regions_of : World → List (List ℕ)
regions_of w = map region_of w.objects

-- the step sends an object to another region than it is in, where these are the objects' regions
abbrev pub leads_elsewhere : List (List ℕ) → Step → Bool
leads_elsewhere regions (Cross object region) = not (bytes_eq (get_or regions (object - 1) []) region)
leads_elsewhere regions step = false

-- the regions after it
abbrev pub regions_behind : List (List ℕ) → Step → List (List ℕ)
regions_behind regions (Cross object region) = slice_set regions (object - 1) region
regions_behind regions step = regions

-- a crossing to another region takes the next trip, and is kept where what was sent came back; where no trip is left
-- it isn't
abbrev pub kept_steps : List (List ℕ) → List Step → List Trip → List Step
kept_steps regions [] trips = []
kept_steps regions (step ∷ steps) trips =
    if leads_elsewhere regions step
    then (if came_back trips
    then step ∷ kept_steps (regions_behind regions step) steps (drop 1 trips)
    else kept_steps regions steps (drop 1 trips))
    else step ∷ kept_steps regions steps trips
