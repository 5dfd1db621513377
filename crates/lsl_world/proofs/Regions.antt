-- Which steps change the regions of objects.
use Rattle.std.proofs.Common.{◌≡◌, ℕ, zero, suc, ◌-◌, Bool, true, false, List, [], ◌∷◌, refl, ap, sym, ◌∙◌}
use Rattle.std.specs.Prelude.{◌&&◌, if◌then◌else◌, not, map, slice_set}
use Rattle.std.specs.Str.{bytes_eq}
use Rattle.std.proofs.Math.ListN.{get_or-map}
use Rattle.lsl_ports.specs.Trips.{Trip}
use Rattle.lsl_post.specs.Told.{Told, quiet}
use Rattle.lsl_script.specs.Rules.{Rules}
use Rattle.lsl_region.specs.declared.objects.Linkset.{Linkset}
use Rattle.lsl_region.specs.Grids.{without_names}
use Rattle.lsl_region.specs.Journeys.{arrive, came_back, cross, is_in_region}
use Rattle.lsl_region.specs.Worlds.{World, no_object, object_at, with_object}
use Rattle.lsl_lines.specs.declared.file.Step.{Step}
use Rattle.lsl_lines.specs.declared.file.Step.TheVariants.{Cross}
use Rattle.lsl_world.specs.Kept.{leads_elsewhere, region_of, regions_behind, regions_of}
use Rattle.lsl_world.specs.Steps.{next}
use Rattle.lsl_world.specs.Travels.{go_on, is_crossing}
use Rattle.lsl_world.proofs.Counts.{next-keeps, outline, post-keeps}

pub nameless-regions : (objects : List Linkset) → map region_of (map without_names objects) ≡ map region_of objects
nameless-regions [] = refl
nameless-regions (o ∷ objects) = ap (λ (rs : List (List ℕ)). o.region ∷ rs) (nameless-regions objects)

-- what keeps the objects but for names keeps their regions
regions-same : (v w : World) → outline v ≡ outline w → regions_of v ≡ regions_of w
regions-same v w e =
    sym (nameless-regions v.objects) ∙ ap (λ x. map region_of x.0) e ∙ nameless-regions w.objects

-- whether a step is a crossing is seen by the regions alone
pub leads-by-regions : (step : Step) (w : World) → leads_elsewhere (regions_of w) step ≡ is_crossing w step
leads-by-regions (Cross object region) w =
    ap (λ (r : List ℕ). not (bytes_eq r region)) (get_or-map region_of w.objects (object - 1) no_object)
leads-by-regions step w = refl

-- a crossing that isn't refused, and one to the region where the object is
crosses : (r : Rules) (place : ℕ) (region : List ℕ) (w : World) (there : Bool) → not there ≡ true
    → (if there then quiet w else arrive r place region w) ≡ arrive r place region w
crosses r place region w true e = absurd cc
crosses r place region w false e = refl

stays : (r : Rules) (place : ℕ) (region : List ℕ) (w : World) (there : Bool) → not there ≡ false
    → (if there then quiet w else arrive r place region w) ≡ quiet w
stays r place region w true e = refl
stays r place region w false e = absurd cc

set-maps : {X Y : Type 0} (f : X → Y) (xs : List X) (k : ℕ) (y : X)
    → map f (slice_set xs k y) ≡ slice_set (map f xs) k (f y)
set-maps f [] k y = refl
set-maps f (x ∷ xs) zero y = refl
set-maps f (x ∷ xs) (suc k) y = ap (λ ys. f x ∷ ys) (set-maps f xs k y)

arrive-regions : (r : Rules) (place : ℕ) (region : List ℕ) (w : World)
    → regions_of (arrive r place region w).value ≡ slice_set (regions_of w) place region
arrive-regions r place region w =
    let there : Linkset = record (object_at w place) { region = region } in
    let moved : World = with_object w place there in
    regions-same (arrive r place region w).value moved (post-keeps r _ _ moved)
    ∙ set-maps region_of w.objects place there

-- every step but a crossing to another region leaves the regions
pub regions-stay : (r : Rules) (step : Step) (w : World) → is_crossing w step ≡ false
    → regions_of (next r step w).value ≡ regions_of w
regions-stay r (Cross object region) w e =
    ap (λ (a : Told World). regions_of a.value)
    (stays r (object - 1) region w (is_in_region w (object - 1) region) e)
regions-stay r step w e = regions-same (next r step w).value w (next-keeps r step tt w)

-- and a crossing sets one
pub regions-cross : (r : Rules) (step : Step) (w : World) → is_crossing w step ≡ true
    → regions_of (next r step w).value ≡ regions_behind (regions_of w) step
regions-cross r (Cross object region) w e =
    ap (λ (a : Told World). regions_of a.value)
    (crosses r (object - 1) region w (is_in_region w (object - 1) region) e)
    ∙ arrive-regions r (object - 1) region w
regions-cross r step w e = absurd cc

-- how a step continues by its trips
goes-by : (refused : Bool) (other : Bool) (w : World) (a : Told World) → other ≡ false
    → (if other && refused then quiet w else a) ≡ a
goes-by refused true w a e = absurd cc
goes-by refused false w a e = refl

pub go_on-here : (r : Rules) (step : Step) (trips : List Trip) (w : World) → is_crossing w step ≡ false
    → go_on r step trips w ≡ next r step w
go_on-here r (Cross object region) trips w e =
    goes-by (not (came_back trips)) (not (is_in_region w (object - 1) region)) w (cross r (object - 1) region w) e
go_on-here r step trips w e = refl

kept : (other back : Bool) (w : World) (a : Told World) → back ≡ true
    → (if other && not back then quiet w else a) ≡ a
kept true true w a e = refl
kept false true w a e = refl
kept other false w a e = absurd cc

pub go_on-kept : (r : Rules) (step : Step) (trips : List Trip) (w : World) → came_back trips ≡ true
    → go_on r step trips w ≡ next r step w
go_on-kept r (Cross object region) trips w e =
    kept (not (is_in_region w (object - 1) region)) (came_back trips) w (cross r (object - 1) region w) e
go_on-kept r step trips w e = refl

struck : (other back : Bool) (w : World) (a : Told World) → other ≡ true → back ≡ false
    → (if other && not back then quiet w else a) ≡ quiet w
struck true false w a e f = refl
struck true true w a e f = absurd cc
struck false back w a e f = absurd cc

pub go_on-struck : (r : Rules) (step : Step) (trips : List Trip) (w : World) → is_crossing w step ≡ true
    → came_back trips ≡ false → go_on r step trips w ≡ quiet w
go_on-struck r (Cross object region) trips w e f =
    struck (not (is_in_region w (object - 1) region)) (came_back trips) w (cross r (object - 1) region w) e f
go_on-struck r step trips w e f = absurd cc
