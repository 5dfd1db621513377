-- Steps by the trips that were made, in order: a crossing is refused where something else came back than was sent.
use Rattle.std.specs.Prelude.{ℕ, ◌-◌, Bool, false, not, if◌then◌else◌, List, [], ◌∷◌, ◌++◌, drop}
use Rattle.std.specs.declared.result.Result.{Result}
use Rattle.lsl_code.specs.declared.woven_units.Woven.{Woven as Code}
use Rattle.lsl_ports.specs.Trips.{Honest, Trip}
use Rattle.lsl_post.specs.declared.entries.Entry.{Entry}
use Rattle.lsl_post.specs.Journal.{Tells}
use Rattle.lsl_post.specs.Told.{Told, next_to, quiet}
use Rattle.lsl_image.specs.Images.{IsIntact}
use Rattle.lsl_script.specs.Rules.{Rules}
use Rattle.lsl_region.specs.Crossings.{images_to}
use Rattle.lsl_region.specs.Journeys.{Sends, contents_of, cross_by, is_in_region}
use Rattle.lsl_region.specs.Worlds.{World}
use Rattle.lsl_lines.specs.declared.file.Step.{Step}
use Rattle.lsl_lines.specs.declared.file.Step.TheVariants.{Cross}
use Rattle.lsl_world.specs.Steps.{next}

-- the step sends an object to another region than it is in
abbrev pub is_crossing : World → Step → Bool
is_crossing w (Cross object region) = not (is_in_region w (object - 1) region)
is_crossing w step = false

-- a step, with the trips that are made from there on
abbrev pub go_on : Rules → Step → List Trip → World → Told World
go_on r (Cross object region) trips w = cross_by r (object - 1) region trips w
go_on r step trips w = next r step w

-- the trips that are left after a step
abbrev pub left : Step → World → List Trip → List Trip
left step w trips = if is_crossing w step then drop 1 trips else trips

-- the image that a step sends, or none
abbrev pub images_of : List Code → Step → World → List (List ℕ)
images_of codes (Cross object region) w = images_to codes (contents_of codes w) (object - 1) region
images_of codes step w = []

-- all steps, in order
unfoldable pub travel : Rules → List Step → List Trip → World → Told World
travel r [] trips w = quiet w
travel r (step ∷ steps) trips w =
    next_to (go_on r step trips w) (λ v. travel r steps (left step w trips) v)

-- all that they send, in order: each object as it is in the world before its step
unfoldable pub images : List Code → Rules → List Step → List Trip → World → List (List ℕ)
images codes r [] trips w = []
images codes r (step ∷ steps) trips w =
    images_of codes step w ++ images codes r steps (left step w trips) (go_on r step trips w).value

-- the result of a step, with the trips that it made: all is reported where each of them is honest
pub record Does {T E : Type 0} (codes : List Code) (r : Rules) (IsNow : World → Type 0) (step : Step) (w : World)
    (trips : List Trip) (old new : List Entry) (result : Result T E) : Type 0 where
  pub tells : Honest IsIntact trips → Tells result (λ v _. IsNow v) old new (go_on r step trips w)
  pub sent : Sends result trips (images_of codes step w)
