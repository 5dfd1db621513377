-- A run by trips is the run of the kept steps.
use Rattle.std.proofs.Common.{◌≡◌, ℕ, Bool, true, false, List, [], ◌∷◌, drop, refl, ap, sym, ◌∙◌, ◌++◌}
use Rattle.std.specs.Prelude.{if◌then◌else◌}
use Rattle.lsl_ports.specs.Trips.{Trip}
use Rattle.lsl_post.specs.Told.{Told, each_of, lead, next_to}
use Rattle.lsl_lines.specs.declared.file.Step.{Step}
use Rattle.lsl_lines.specs.declared.file.WorldFile.{WorldFile}
use Rattle.lsl_notes.specs.declared.cards.Notecard.{Notecard}
use Rattle.lsl_script.specs.Rules.{Rules}
use Rattle.lsl_region.specs.Journeys.{came_back}
use Rattle.lsl_region.specs.Worlds.{World}
use Rattle.lsl_world.specs.Kept.{kept_steps, regions_behind, regions_of}
use Rattle.lsl_world.specs.Laws.{TripsKeepSteps}
use Rattle.lsl_world.specs.Reports.{homes, run_entries}
use Rattle.lsl_world.specs.Starts.{start}
use Rattle.lsl_world.specs.Steps.{next, reference}
use Rattle.lsl_world.specs.Travels.{go_on, is_crossing, left, travel}
use Rattle.lsl_world.proofs.Regions.{go_on-here, go_on-kept, go_on-struck, leads-by-regions, regions-cross, regions-stay}

module _ (r : Rules) (step : Step) (steps : List Step) (trips : List Trip) (w : World)
    (more : (trips : List Trip) (v : World)
    → travel r steps trips v ≡ reference r (kept_steps (regions_of v) steps trips) v) where
  -- as the two tests say
  by_trips : Bool → Told World
  by_trips crossing =
      next_to (go_on r step trips w) (λ v. travel r steps (if crossing then drop 1 trips else trips) v)

  abbrev by_tests : Bool → Bool → List Step
  by_tests elsewhere back =
      if elsewhere
      then (if back
      then step ∷ kept_steps (regions_behind (regions_of w) step) steps (drop 1 trips)
      else kept_steps (regions_of w) steps (drop 1 trips))
      else step ∷ kept_steps (regions_of w) steps trips

  -- a step that was done, and then the others, where the regions are these
  done : (regions : List (List ℕ)) (left : List Trip) → go_on r step trips w ≡ next r step w
      → regions_of (next r step w).value ≡ regions
      → next_to (go_on r step trips w) (λ v. travel r steps left v)
      ≡ reference r (step ∷ kept_steps regions steps left) w
  unfolding each_of
  done regions left e f =
      ap (λ (a : Told World). next_to a (λ v. travel r steps left v)) e
      ∙ ap (λ (a : Told World). lead (next r step w).entries a)
      (more left (next r step w).value
      ∙ ap (λ (rs : List (List ℕ)). reference r (kept_steps rs steps left) (next r step w).value) f)

  taken : (crossing back : Bool) → is_crossing w step ≡ crossing → came_back trips ≡ back
      → by_trips crossing ≡ reference r (by_tests crossing back) w
  unfolding by_trips
  taken false back e f = done (regions_of w) trips (go_on-here r step trips w e) (regions-stay r step w e)
  taken true true e f =
      done (regions_behind (regions_of w) step) (drop 1 trips) (go_on-kept r step trips w f) (regions-cross r step w e)
  taken true false e f =
      ap (λ (a : Told World). next_to a (λ v. travel r steps (drop 1 trips) v)) (go_on-struck r step trips w e f)
      ∙ more (drop 1 trips) w

  pub step-taken : next_to (go_on r step trips w) (λ v. travel r steps (left step w trips) v)
      ≡ reference r (kept_steps (regions_of w) (step ∷ steps) trips) w
  unfolding by_trips
  step-taken =
      taken (is_crossing w step) (came_back trips) refl refl
      ∙ ap (λ (b : Bool). reference r (by_tests b (came_back trips)) w) (sym (leads-by-regions step w))

pub all-taken : TripsKeepSteps
unfolding travel each_of
all-taken r [] trips w = refl
all-taken r (step ∷ steps) trips w = step-taken r step steps trips w (λ left v. all-taken r steps left v)

-- so the entries of a file's run are those of its steps by the trips
pub journal-travels : (r : Rules) (file : WorldFile) (cards : List Notecard) (trips : List Trip)
    → run_entries r file cards trips
    ≡ (travel r file.steps trips (start r file cards)).entries
    ++ homes (travel r file.steps trips (start r file cards)).value
journal-travels r file cards trips =
    ap (λ (a : Told World). a.entries ++ homes a.value) (sym (all-taken r file.steps trips (start r file cards)))
