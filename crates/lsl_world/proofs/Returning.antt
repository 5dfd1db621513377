-- The result if other parts came back than were sent.
use Rattle.std.proofs.Common.{◌≡◌, ◌≢◌, ◌∙◌, sym, ap, subst, arith, ℕ, ◌-◌, ◌≤◌, Bool, List, [], ◌++◌, length, get_or, if◌then◌else◌, Option, Some, None}
use Rattle.std.specs.Prelude.{OnOk}
use Rattle.std.specs.declared.result.Result.{Result}
use Rattle.std.specs.declared.result.Result.TheVariants.{Ok, Err}
use Rattle.std.proofs.lemmas.List.{get_or-set_same}
use Rattle.lsl_code.specs.declared.woven_units.Woven.{Woven as Code}
use Rattle.lsl_ports.specs.Trips.{Trip, Went}
use Rattle.lsl_post.specs.declared.entries.Entry.{Entry}
use Rattle.lsl_post.specs.Journal.{Part, Tells}
use Rattle.lsl_post.specs.Timing.{latest_clock}
use Rattle.lsl_post.specs.Told.{Told, quiet}
use Rattle.lsl_post.proofs.Amid.{part-none}
use Rattle.lsl_image.specs.declared.parts.ObjectParts.{ObjectParts}
use Rattle.lsl_image.specs.Object.{object as object_layout}
use Rattle.lsl_image.specs.Valid.{shape_of}
use Rattle.lsl_image.proofs.ImageLemmas.{image-no_fault, image-one}
use Rattle.lsl_lines.specs.declared.file.Step.{Step}
use Rattle.lsl_lines.specs.declared.file.Step.TheVariants.{Cross}
use Rattle.lsl_tree.specs.Program.{Program}
use Rattle.lsl_region.specs.declared.crossing.Crossed.{Crossed}
use Rattle.lsl_region.specs.declared.crossing.Crossed.TheVariants.{Moved, Stayed, Here}
use Rattle.lsl_region.specs.declared.crossing.StayedWhy.TheVariants.{Link, Image}
use Rattle.lsl_region.specs.declared.objects.Linkset.{Linkset}
use Rattle.lsl_region.specs.Crossings.{Brings, BringsFault, CrossesAs, IsOneTrip, arrived, image_in, region_in}
use Rattle.lsl_region.specs.Grids.{AreSeated, Contents, Stands}
use Rattle.lsl_region.specs.Journeys.{arrive}
use Rattle.lsl_region.specs.ObjectParts.{object_in_grid, named, parts_of_object, with_parts}
use Rattle.lsl_region.specs.Worlds.{World as SourceWorld, no_object, object_at}
use Rattle.lsl_region.proofs.Journeys.{arrives, own-arrived}
use Rattle.lsl_region.proofs.Passages.{bytes-differ}
use Rattle.lsl_world.specs.declared.world.World.{World}
use Rattle.lsl_world.specs.Programs.{rules_of}
use Rattle.lsl_world.specs.Returns.{ComesBackAs, Returns}
use Rattle.lsl_world.specs.Sizes.{HasNumber}
use Rattle.lsl_world.specs.Sound.{IsCrossing}
use Rattle.lsl_world.specs.Stands.{IsOf}
use Rattle.lsl_world.specs.Steps.{next}
use Rattle.lsl_world.specs.Timers.{IsIndexOf, timings_of}
use Rattle.lsl_world.proofs.Counts.{IsHere}
use Rattle.lsl_world.proofs.Going.{went-none, with_due}
use Rattle.lsl_world.proofs.Kept.{part-all}
use Rattle.lsl_world.proofs.Meanings.{meant}

-- what came back on one trip
one-back : (trips : List Trip) (sent other : List ℕ) (back also : Option (List ℕ)) → IsOneTrip trips sent back
    → IsOneTrip trips other also → back ≡ also
one-back trips sent other back also one two =
    ap (λ (ts : List Trip). (get_or ts 0 (record { sent = sent; back = back })).back) (sym one ∙ two)

none-one : (trips : List Trip) (sent : List ℕ) (back : Option (List ℕ)) → trips ≡ [] → IsOneTrip trips sent back → ⊥
none-one trips sent back none one = let e = sym none ∙ one in cc

module _ (programs : List Program) (world : World) (object : ℕ) (region : List ℕ) (w : SourceWorld)
    (trips : List Trip) (there : HasNumber (length world.grid.objects) object)
    (came : ComesBackAs programs world.units world.clock world.grid object trips w) (new : Contents)
    (before after : List Entry) where
  abbrev place : ℕ
  place = object - 1

  abbrev grid : Contents
  grid = with_parts world.grid place came.parts

  -- the object is in its region
  region-is : (object_at w place).region ≡ region_in world.grid place
  region-is =
      let o = object_in_grid world.grid place in
      let furnished : Linkset = record o { prims = named o.prims came.parts.names; store = came.parts.store } in
      ap (λ (os : List Linkset). (get_or os place no_object).region) (sym came.stands.objects)
      ∙ ap (λ (l : Linkset). l.region)
      (get_or-set_same world.grid.objects place furnished no_object (omega (arith, there.0, there.1)))

  next-arrives : region_in world.grid place ≢ region
      → next (rules_of programs) (Cross object region) w ≡ arrive (rules_of programs) place region w
  next-arrives apart =
      ap {A = Bool} {B = Told SourceWorld} (λ b. if b then quiet w else arrive (rules_of programs) place region w)
      (bytes-differ (object_at w place).region region (λ e. apart (sym region-is ∙ e)))

  -- the grid is as the world has it
  abbrev IsTold : Told SourceWorld → Type 0
  IsTold told = Stands world.units None world.clock new told.value × (after ≡ before ++ told.entries)

  told-moved : region_in world.grid place ≢ region → (back : List ℕ) (parts : ObjectParts)
      → IsOneTrip trips (image_in world.units world.grid place) (Some back)
      → Brings world.units world.grid place parts back
      → new ≡ (arrived world.units world.grid place region parts).value
      → after ≡ before ++ (arrived world.units world.grid place region parts).entries
      → IsTold (next (rules_of programs) (Cross object region) w)
  told-moved apart back parts one brings moved told =
      let same : Some back ≡ Some came.back = one-back trips _ _ (Some back) (Some came.back) one came.trip in
      let bytes : back ≡ came.back = cc in
      let own = parts_of_object world.grid place in
      let is : parts ≡ came.parts =
      image-one (object_layout (region_in world.grid place) (shape_of own) world.units) came.back parts came.parts
      (subst (λ (b : List ℕ). Brings world.units world.grid place parts b) bytes brings) came.brings in
      let arrival : arrived world.units world.grid place region parts
      ≡ arrived world.units grid place region (parts_of_object grid place) =
      ap (λ (p : ObjectParts). arrived world.units world.grid place region p) is
      ∙ sym (own-arrived world.units place world.clock grid w region came.stands) in
      let a = arrives world.units (meant programs world.units came.runs) world.clock place region grid w came.stands in
      subst IsTold (sym (next-arrives apart)) (
        subst (λ (g : Contents).
            Stands world.units None world.clock g (arrive (rules_of programs) place region w).value)
            (sym (moved ∙ ap (λ (t : Told Contents). t.value) arrival)) a.stands,
        told
            ∙ ap (λ (es : List Entry). before ++ es) (ap (λ (t : Told Contents). t.entries) arrival ∙ a.entries),
      )

  told-as : (crossed : Crossed) → CrossesAs world.units place region world.grid new before after trips crossed
      → IsTold (next (rules_of programs) (Cross object region) w)
  told-as Here x = absurd (none-one trips _ (Some came.back) x.1 came.trip)
  told-as (Stayed Link) x =
      let e : None ≡ Some came.back = one-back trips _ _ None (Some came.back) x.1 came.trip in
      absurd (cc)
  told-as (Stayed (Image fault)) x =
      let same : Some x.1.0 ≡ Some came.back = one-back trips _ _ (Some x.1.0) (Some came.back) x.1.1 came.trip in
      let bytes : x.1.0 ≡ came.back = cc in
      let own = parts_of_object world.grid place in
      absurd (image-no_fault (object_layout (region_in world.grid place) (shape_of own) world.units) came.back came.parts
      fault came.brings (subst (λ (b : List ℕ). BringsFault world.units world.grid place fault b) bytes x.1.2))
  told-as Moved x = told-moved x.0 x.1.0 x.1.1 x.1.2 x.1.3 x.1.4 x.1.5

  -- the due times were put
  pub returned : {U F : Type 0} (due : List (ℕ × ℕ)) (crossed : Crossed) (result : Result U F)
      → CrossesAs world.units place region world.grid new before after trips crossed
      → AreSeated world.units new.seats → world.clock ≤ latest_clock
      → OnOk result ((codes : List Code) (clock : ℕ) (v : SourceWorld) → Stands codes None clock new v
      → IsIndexOf (timings_of v) due)
      → Tells result (λ v _. IsOf programs (with_due world new due) v) before after
      (next (rules_of programs) (Cross object region) w)
  returned due crossed (Ok u) x seated timely index =
      let told = told-as crossed x in (
        record {
          runs = came.runs;
          seated = seated;
          timely = timely;
          stands = told.0;
          index = index world.units world.clock _ told.0;
        },
        told.1,
      )
  returned due crossed (Err f) x seated timely index =
      part-all before after (next (rules_of programs) (Cross object region) w).entries (told-as crossed x).1

  -- or memory ran out before
  pub not-returned : {U F : Type 0} (due : List (ℕ × ℕ)) (result : Result U F) (f : F) → result ≡ Err f
      → after ≡ before
      → Tells result (λ v _. IsOf programs (with_due world new due) v) before after
      (next (rules_of programs) (Cross object region) w)
  not-returned {U} {F} due result f err same =
      subst (λ (x : Result U F). Tells x (λ v _. IsOf programs (with_due world new due) v) before after
      (next (rules_of programs) (Cross object region) w)) (sym err)
      (subst (λ (es : List Entry). Part before es (next (rules_of programs) (Cross object region) w).entries) (sym same)
      (part-none before (next (rules_of programs) (Cross object region) w).entries))

-- no other step does so
pub returns-not : (programs : List Program) (codes : List Code) (clock : ℕ) (grid : Contents) (step form : Step)
    (trips : List Trip) (w : SourceWorld) → step ≡ form → IsHere form → Returns programs codes clock grid step trips w
    → ⊥
returns-not programs codes clock grid step form trips w is here came =
    none form here (subst (λ (s : Step). Returns programs codes clock grid s trips w) is came)
  where
    none : (s : Step) → IsHere s → Returns programs codes clock grid s trips w → ⊥
    none (Cross object region) here came = here
    none s here came = came

pub goes-not : (gives : List ℕ → Option (List ℕ) → Type 0) (link : Option (List Trip)) (codes : List Code) (clock : ℕ)
    (grid : Contents) (step form : Step) → step ≡ form → IsHere form → (Then : List Program → SourceWorld → Type 0)
    → (trips : List Trip) × Went gives link link trips
    × ((programs : List Program) (w : SourceWorld) → Returns programs codes clock grid step trips w → Then programs w)
goes-not gives link codes clock grid step form is here Then = (
  [],
  went-none gives link,
  λ programs w came. absurd (returns-not programs codes clock grid step form [] w is here came),
)

-- and where it does
pub goes-back : (gives : List ℕ → Option (List ℕ) → Type 0) (old now : Option (List Trip)) (codes : List Code)
    (clock : ℕ) (grid : Contents) (step form : Step) → step ≡ form
    → (Then : Step → List Program → SourceWorld → Type 0)
    → (trips : List Trip) × Went gives old now trips
    × ((programs : List Program) (w : SourceWorld) → Returns programs codes clock grid form trips w
    → Then form programs w)
    → (trips : List Trip) × Went gives old now trips
    × ((programs : List Program) (w : SourceWorld) → Returns programs codes clock grid step trips w
    → Then step programs w)
goes-back gives old now codes clock grid step form is Then goes = (
  goes.0,
  goes.1,
  λ programs w came. subst (λ (s : Step). Then s programs w) (sym is)
      (goes.2 programs w (subst (λ (s : Step). Returns programs codes clock grid s goes.0 w) is came)),
)

pub crossing-not : (step form : Step) → step ≡ form → IsHere form → IsCrossing step → ⊥
crossing-not step form is here crossing = none form here (subst IsCrossing is crossing)
  where
    none : (s : Step) → IsHere s → IsCrossing s → ⊥
    none (Cross object region) here crossing = here
    none s here crossing = crossing
