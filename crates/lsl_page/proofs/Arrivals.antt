-- If each trip brought back what was sent, and all was sent that a run is to send, every crossing arrived.
use Rattle.std.proofs.Common.{◌≡◌, ℕ, Bool, true, false, List, [], ◌∷◌, ◌++◌, length, drop, Option, refl, ap, sym, ◌∙◌, arith, length-append}
use Rattle.std.specs.Prelude.{if◌then◌else◌}
use Rattle.std.proofs.lemmas.List.Elements.{All-head, All-tail}
use Rattle.std.proofs.lemmas.Slice.Eq.{bytes_eq-Decides}
use Rattle.lsl_ports.specs.Trips.{Trip, sent_of}
use Rattle.lsl_code.specs.declared.woven_units.Woven.{Woven as Code}
use Rattle.lsl_post.specs.Told.{Told}
use Rattle.lsl_script.specs.Rules.{Rules}
use Rattle.lsl_region.specs.Journeys.{came_back, is_same}
use Rattle.lsl_region.specs.Worlds.{World}
use Rattle.lsl_lines.specs.declared.file.Step.{Step}
use Rattle.lsl_world.specs.Kept.{kept_steps, regions_behind, regions_of}
use Rattle.lsl_world.specs.Travels.{go_on, images, images_of, is_crossing, left}
use Rattle.lsl_world.proofs.Regions.{go_on-here, go_on-kept, leads-by-regions, regions-cross, regions-stay}
use Rattle.lsl_world.proofs.Runs.{images-none, images-one}
use Rattle.lsl_top.specs.Laws.{copies}
use Rattle.lsl_page.specs.Headline.{AreCopied}

abbrev IsCopied : Trip → Type 0
IsCopied trip = copies trip.sent trip.back

copied-back : (trip : Trip) (trips : List Trip) → IsCopied trip → came_back (trip ∷ trips) ≡ true
copied-back trip trips e =
    ap (λ (back : Option (List ℕ)). is_same trip.sent back) e ∙ (bytes_eq-Decides trip.sent trip.sent).1 refl

drop-one : (xs ys : List (List ℕ)) → length xs ≡ 1 → drop 1 (xs ++ ys) ≡ ys
drop-one [] ys e = absurd (omega (arith, e))
drop-one (x ∷ []) ys e = refl
drop-one (x ∷ (y ∷ xs)) ys e = absurd (omega (arith, e))

module _ (codes : List Code) (r : Rules) (step : Step) (steps : List Step) (w : World)
    (more : (trips : List Trip) (v : World) → AreCopied trips → sent_of trips ≡ images codes r steps trips v
    → kept_steps (regions_of v) steps trips ≡ steps) where
  abbrev by_tests : List Trip → Bool → Bool → List Step
  by_tests trips elsewhere back =
      if elsewhere
      then (if back
      then step ∷ kept_steps (regions_behind (regions_of w) step) steps (drop 1 trips)
      else kept_steps (regions_of w) steps (drop 1 trips))
      else step ∷ kept_steps (regions_of w) steps trips

  abbrev behind : List Trip → World
  behind trips = (go_on r step trips w).value

  -- what the step sends, and what the others do then
  abbrev sends : List Trip → List (List ℕ)
  sends trips = images_of codes step w ++ images codes r steps (left step w trips) (behind trips)

  -- what the others send, whether the step is a crossing or isn't
  abbrev others : List Trip → Bool → List (List ℕ)
  others trips crossing = images codes r steps (if crossing then drop 1 trips else trips) (behind trips)

  -- a step that was done, with these regions after it
  then-kept : (trips left : List Trip) (regions : List (List ℕ)) → regions_of (behind trips) ≡ regions
      → AreCopied left → sent_of left ≡ images codes r steps left (behind trips)
      → step ∷ kept_steps regions steps left ≡ step ∷ steps
  then-kept trips left regions e copied sent =
      ap (λ (rs : List (List ℕ)). step ∷ kept_steps rs steps left) (sym e)
      ∙ ap (λ (kept : List Step). step ∷ kept) (more left (behind trips) copied sent)

  tests : (trips : List Trip) (crossing : Bool) → is_crossing w step ≡ crossing
      → kept_steps (regions_of w) (step ∷ steps) trips ≡ by_tests trips crossing (came_back trips)
  tests trips crossing e =
      ap (λ (b : Bool). by_tests trips b (came_back trips)) (leads-by-regions step w ∙ e)

  stays : (trips : List Trip) → is_crossing w step ≡ false → AreCopied trips → sent_of trips ≡ sends trips
      → kept_steps (regions_of w) (step ∷ steps) trips ≡ step ∷ steps
  stays trips e copied sent =
      tests trips false e
      ∙ then-kept trips trips (regions_of w)
      (ap (λ (a : Told World). regions_of a.value) (go_on-here r step trips w e) ∙ regions-stay r step w e)
      copied
      (sent ∙ ap (λ (z : List (List ℕ)). z ++ others trips (is_crossing w step)) (images-none codes step w e)
      ∙ ap (others trips) e)

  crosses : (trips : List Trip) → is_crossing w step ≡ true → AreCopied trips → sent_of trips ≡ sends trips
      → kept_steps (regions_of w) (step ∷ steps) trips ≡ step ∷ steps
  crosses [] e copied sent =
      let many = ap length sent in
      let one = images-one codes step w e in
      absurd (omega (
        arith,
        many,
        one,
        length-append (images_of codes step w) (images codes r steps (left step w []) (behind [])),
      ))
  crosses (trip ∷ trips) e copied sent =
      let back = copied-back trip trips (All-head IsCopied trip trips copied) in
      tests (trip ∷ trips) true e
      ∙ ap (by_tests (trip ∷ trips) true) back
      ∙ then-kept (trip ∷ trips) trips (regions_behind (regions_of w) step)
      (ap (λ (a : Told World). regions_of a.value) (go_on-kept r step (trip ∷ trips) w back) ∙ regions-cross r step w e)
      (All-tail IsCopied trip trips copied)
      (ap (drop 1) sent
      ∙ drop-one (images_of codes step w) (others (trip ∷ trips) (is_crossing w step)) (images-one codes step w e)
      ∙ ap (others (trip ∷ trips)) e)

  pub step-kept : (trips : List Trip) → AreCopied trips → sent_of trips ≡ sends trips
      → kept_steps (regions_of w) (step ∷ steps) trips ≡ step ∷ steps
  step-kept trips copied sent = go (is_crossing w step) refl
    where
      go : (b : Bool) → is_crossing w step ≡ b → kept_steps (regions_of w) (step ∷ steps) trips ≡ step ∷ steps
      go true e = crosses trips e copied sent
      go false e = stays trips e copied sent

pub all-kept : (codes : List Code) (r : Rules) (steps : List Step) (trips : List Trip) (w : World) → AreCopied trips
    → sent_of trips ≡ images codes r steps trips w → kept_steps (regions_of w) steps trips ≡ steps
unfolding images
all-kept codes r [] trips w copied sent = refl
all-kept codes r (step ∷ steps) trips w copied sent =
    step-kept codes r step steps w (λ left v. all-kept codes r steps left v) trips copied sent
