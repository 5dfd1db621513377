-- What a step results in, with the trips that it made.
use Rattle.std.proofs.Common.{◌≡◌, ℕ, ◌-◌, List, [], length, map, refl, ap, sym, ◌∙◌, subst, arith}
use Rattle.std.specs.Prelude.{None, OnOk, Option, Result, Ok, Err}
use Rattle.lsl_code.specs.declared.woven_units.Woven.{Woven as Code}
use Rattle.lsl_ports.proofs.Growth.{begins-all, begins-is, begins-none, grew-none}
use Rattle.lsl_ports.specs.Trips.{Trip, Went, sent_of}
use Rattle.lsl_post.specs.declared.entries.Entry.{Entry}
use Rattle.lsl_post.specs.Journal.{Tells}
use Rattle.lsl_post.specs.Told.{Told}
use Rattle.lsl_tree.specs.Program.{Program}
use Rattle.lsl_script.specs.Rules.{Rules}
use Rattle.lsl_region.specs.Grids.{AreSeated, Contents, Stands}
use Rattle.lsl_region.specs.Crossings.{images_to}
use Rattle.lsl_region.specs.Journeys.{Sends, Travels, contents_of, cross_by}
use Rattle.lsl_region.specs.Worlds.{World as SourceWorld}
use Rattle.lsl_lines.specs.declared.file.Step.{Step}
use Rattle.lsl_lines.specs.declared.file.Step.TheVariants.{Cross}
use Rattle.lsl_world.specs.declared.world.World.{World}
use Rattle.lsl_world.specs.Programs.{rules_of}
use Rattle.lsl_world.specs.Sizes.{Size}
use Rattle.lsl_world.specs.Stands.{IsOf, prims_of, size_of}
use Rattle.lsl_world.specs.Steps.{next}
use Rattle.lsl_world.specs.Travels.{Does, go_on, images_of}
use Rattle.lsl_world.proofs.Counts.{IsHere}
use Rattle.lsl_world.specs.Timers.{AreNumbered, IsIndexOf, timings_of}
use Rattle.lsl_world.proofs.Kept.{changed, part-all, with_grid}

-- no other step makes a trip
pub go_on-here : (r : Rules) (step : Step) → IsHere step → (trips : List Trip) (w : SourceWorld)
    → go_on r step trips w ≡ next r step w
go_on-here r (Cross object region) here trips w = absurd here
go_on-here r step here trips w = refl

pub images-here : (codes : List Code) (step : Step) → IsHere step → (w : SourceWorld) → images_of codes step w ≡ []
images-here codes (Cross object region) here w = absurd here
images-here codes step here w = refl

pub went-none : (gives : List ℕ → Option (List ℕ) → Type 0) (link : Option (List Trip)) → Went gives link link []
went-none gives link = record { grew = grew-none link; given = λ k d lt. absurd (omega (arith, lt)) }

sends-none : {T E : Type 0} (result : Result T E) → Sends result [] []
sends-none (Ok t) = refl
sends-none (Err e) = begins-none []

-- the step is this one
module _ {T E : Type 0} (gives : List ℕ → Option (List ℕ) → Type 0) (link : Option (List Trip)) (step form : Step)
    (is : step ≡ form) (here : IsHere form) (world new : World) (before after : List Entry) (result : Result T E) where
  pub goes-here : ((programs : List Program) (w : SourceWorld) → IsOf programs world w
      → Tells result (λ v _. IsOf programs new v) before after (next (rules_of programs) form w))
      → (trips : List Trip) × Went gives link link trips
      × ((programs : List Program) (w : SourceWorld) → IsOf programs world w
      → Does world.units (rules_of programs) (IsOf programs new) step w trips before after result)
  goes-here tells = (
    [],
    went-none gives link,
    λ programs w of. subst (λ (s : Step).
        Does world.units (rules_of programs) (IsOf programs new) s w [] before after result) (sym is)
        (record {
          tells = λ honest.
              subst (λ (a : Told SourceWorld). Tells result (λ v _. IsOf programs new v) before after a)
              (sym (go_on-here (rules_of programs) form here [] w)) (tells programs w of);
          sent = subst (λ (images : List (List ℕ)). Sends result [] images)
              (sym (images-here world.units form here w)) (sends-none result);
        }),
  )

-- the step is this one, and the grid alone does it: no timer changes
module _ {T E : Type 0} (gives : List ℕ → Option (List ℕ) → Type 0) (link : Option (List Trip)) (step form : Step)
    (is : step ≡ form) (here : IsHere form) (world : World) (grid : Contents) (before after : List Entry)
    (result : Result T E) where
  pub goes-in-grid : OnOk result (AreSeated world.units grid.seats)
      → ((programs : List Program) (w : SourceWorld)
      → timings_of (next (rules_of programs) form w).value ≡ timings_of w)
      → ((programs : List Program) (w : SourceWorld) → IsOf programs world w
      → Tells result (λ v _. Stands world.units None world.clock grid v) before after (next (rules_of programs) form w))
      → (trips : List Trip) × Went gives link link trips
      × ((programs : List Program) (w : SourceWorld) → IsOf programs world w
      → Does world.units (rules_of programs) (IsOf programs (with_grid world grid)) step w trips before after result)
  goes-in-grid seated same tells =
      goes-here gives link step form is here world (with_grid world grid) before after result (λ programs w of.
      changed programs world w of grid before after result (next (rules_of programs) form w) (same programs w) seated
      (tells programs w of))

-- and where it crosses
pub goes-cross : {T E : Type 0} (gives : List ℕ → Option (List ℕ) → Type 0) (old now : Option (List Trip))
    (step form : Step) → step ≡ form → (world new : World) (before after : List Entry) (result : Result T E)
    → (trips : List Trip) × Went gives old now trips
    × ((programs : List Program) (w : SourceWorld) → IsOf programs world w
    → Does world.units (rules_of programs) (IsOf programs new) form w trips before after result)
    → (trips : List Trip) × Went gives old now trips
    × ((programs : List Program) (w : SourceWorld) → IsOf programs world w
    → Does world.units (rules_of programs) (IsOf programs new) step w trips before after result)
goes-cross gives old now step form is world new before after result goes = (
  goes.0,
  goes.1,
  λ programs w of. subst (λ (s : Step).
      Does world.units (rules_of programs) (IsOf programs new) s w goes.0 before after result) (sym is)
      (goes.2 programs w of),
)

-- an object crossed, and the due times were put
abbrev pub with_due : World → Contents → List (ℕ × ℕ) → World
with_due world grid due = record world { grid = grid; due = due }

module _ {T E F : Type 0} (programs : List Program) (world : World) (w : SourceWorld) (is : IsOf programs world w)
    (grid : Contents) (due : List (ℕ × ℕ)) (before after : List Entry) (trips : List Trip) (object : ℕ)
    (region : List ℕ) where
  pub crossed-ok : {U : Type 0} (t : T) (result : Result U F)
      → Travels {T = T} {E = E} world.units (rules_of programs) world.clock (object - 1) region w trips grid before
      after (Ok t) → AreSeated world.units grid.seats
      → OnOk result ((codes : List Code) (clock : ℕ) (v : SourceWorld) → Stands codes None clock grid v
      → IsIndexOf (timings_of v) due)
      → Does {T = U} {E = F} world.units (rules_of programs) (IsOf programs (with_due world grid due))
      (Cross object region) w trips before after result
  crossed-ok t (Ok u) travels seated index = record {
    tells = λ honest. let told = travels.tells honest in (
      record {
        runs = is.runs;
        seated = seated;
        timely = is.timely;
        stands = told.0;
        index = index world.units world.clock _ told.0;
      },
      told.1,
    );
    sent = travels.sent;
  }
  crossed-ok t (Err f) travels seated index = record {
    tells = λ honest. part-all before after
        (cross_by (rules_of programs) (object - 1) region trips w).entries (travels.tells honest).1;
    sent = begins-is (sent_of trips) (sent_of trips)
        (images_to world.units (contents_of world.units w) (object - 1) region) (begins-all (sent_of trips))
        travels.sent;
  }

  pub crossed-err : {U : Type 0} (e : E) (f : F) (result : Result U F) → result ≡ Err f
      → Travels {T = T} {E = E} world.units (rules_of programs) world.clock (object - 1) region w trips grid before
      after (Err e)
      → Does {T = U} {E = F} world.units (rules_of programs) (IsOf programs (with_due world grid due))
      (Cross object region) w trips before after result
  crossed-err {U = U} e f result is travels =
      subst (λ (r : Result U F). Does world.units (rules_of programs) (IsOf programs (with_due world grid due))
      (Cross object region) w trips before after r) (sym is)
      (record { tells = travels.tells; sent = travels.sent })

-- as many objects, prims and scripts
pub size-as : (world : World) (grid : Contents) (due : List (ℕ × ℕ))
    → map prims_of grid.objects ≡ map prims_of world.grid.objects → length grid.seats ≡ length world.grid.seats
    → size_of (with_due world grid due) ≡ size_of world
size-as world grid due objects seats =
    ap {A = ℕ} {B = Size} (λ n. record { prims = map prims_of grid.objects; scripts = n }) seats
    ∙ ap {A = List ℕ} {B = Size} (λ prims. record { prims = prims; scripts = length world.grid.seats }) objects

pub numbered-as : (world : World) (grid : Contents) (due : List (ℕ × ℕ)) → length grid.seats ≡ length world.grid.seats
    → AreNumbered (length world.grid.seats) due → AreNumbered (length grid.seats) due
numbered-as world grid due seats are = subst (λ (n : ℕ). AreNumbered n due) (sym seats) are
