-- A grid with the parts that bytes encode is the world of which they are an image.
use Rattle.std.proofs.Common.{◌≡◌, ◌∙◌, refl, sym, ap, subst, arith, ℕ, ◌<◌, ◌≤◌, true, List, [], ◌∷◌, length}
use Rattle.std.specs.Prelude.{All, None, Option, Some, map, slice_get}
use Rattle.std.specs.Option.{option_map}
use Rattle.std.proofs.lemmas.List.{length-map}
use Rattle.std.proofs.lemmas.Option.{slice_get-map}
use Rattle.lsl_code.specs.declared.woven_units.Woven.{Woven as Code}
use Rattle.lsl_image.specs.declared.parts.WorldParts.{WorldParts}
use Rattle.lsl_image.specs.World.{world}
use Rattle.lsl_image.proofs.ImageLemmas.{image-one}
use Rattle.lsl_lines.specs.declared.file.WorldFile.{WorldFile}
use Rattle.lsl_post.specs.Timing.{latest_clock}
use Rattle.lsl_notes.specs.declared.cards.Notecard.{Notecard}
use Rattle.lsl_tree.specs.Program.{Program}
use Rattle.lsl_script.specs.Codes.{rules_of as rules_of_codes}
use Rattle.lsl_region.specs.declared.grid.Seat.{Seat}
use Rattle.lsl_region.specs.declared.objects.Linkset.{Linkset}
use Rattle.lsl_region.specs.GridParts.{AreHome, AreScripts, fixed_in, fixed_of, lasting, placed_in}
use Rattle.lsl_region.specs.Grids.{AreSeated, Contents, Stands, nameless, seat_of, vacant}
use Rattle.lsl_region.specs.Journeys.{contents_of}
use Rattle.lsl_region.specs.Worlds.{Member, World as SourceWorld}
use Rattle.lsl_region.proofs.Journeys.{contents-is}
use Rattle.lsl_region.proofs.Thawed.{fixed-is, members-home}
use Rattle.lsl_world.specs.declared.world.World.{World}
use Rattle.lsl_world.specs.Codes.{AreRunBy}
use Rattle.lsl_world.specs.Frozen.{AgreesWith, IsImageIn, parts_in, parts_of_world, shapes_of_file}
use Rattle.lsl_world.specs.Programs.{rules_of}
use Rattle.lsl_world.specs.Ranges.{IsObjectOf}
use Rattle.lsl_world.specs.Seats.{seats_of_objects}
use Rattle.lsl_world.specs.Stands.{IsOf, prims_of}
use Rattle.lsl_world.specs.Timers.{IsIndexOf, timings_of}
use Rattle.lsl_world.specs.Starts.{members_of_objects, object_of_line, start}
use Rattle.lsl_world.proofs.Beginning.{size_in, starts}
use Rattle.lsl_world.proofs.Lawfulness.{script-lawful}
use Rattle.lsl_world.proofs.Meanings.{meant}

-- what a world in memory has is what its world of programs has
pub parts-are : (programs : List Program) (memory : World) (w : SourceWorld) → IsOf programs memory w
    → parts_in memory ≡ parts_of_world memory.units w
parts-are programs memory w is =
    let time : memory.clock ≡ w.clock = sym is.stands.time in
    let grid = contents-is memory.units memory.clock memory.grid w is.stands in
    λ i. record { clock = time i; objects = placed_in (grid i) }

-- the grid of a file at its start
module _ (codes : List Code) (file : WorldFile) (cards : List Notecard) (grid : Contents)
    (objects : grid.objects ≡ map object_of_line file.objects)
    (seats : grid.seats ≡ seats_of_objects codes 0 file.objects) (held : grid.cards ≡ cards)
    (all : All (IsObjectOf (length codes)) file.objects) where
  pub start-home : AreHome grid.seats
  start-home = subst (λ (ss : List Seat). AreHome ss) (sym seats)
      (members-home codes (members_of_objects (rules_of_codes codes) 0 file.objects))

  module _ (programs : List Program) (runs : AreRunBy programs codes) where
    begins : Stands codes None 0 grid (start (rules_of programs) file cards)
    begins = starts codes (meant programs codes runs) file cards grid all objects seats held

    pub start-fixed : fixed_of grid ≡ fixed_in (start (rules_of programs) file cards)
    start-fixed =
        ap fixed_of (contents-is codes 0 grid (start (rules_of programs) file cards) begins)
        ∙ fixed-is codes (start (rules_of programs) file cards)

    -- a script of a world that agrees with the file is of one of the units
    known-at : (w : SourceWorld) (n : ℕ) (m : Member) → fixed_in w ≡ fixed_in (start (rules_of programs) file cards)
        → slice_get w.members n ≡ Some m → m.script.code < length codes
    known-at w n m fixed at = go (slice_get first.members n) refl
      where
        first : SourceWorld
        first = start (rules_of programs) file cards

        same : Some (seat_of [] true m) ≡ option_map (seat_of [] true) (slice_get first.members n)
        same =
            ap (option_map (seat_of [] true)) (sym at)
            ∙ sym (slice_get-map (seat_of [] true) w.members n)
            ∙ ap (λ (g : Contents). slice_get g.seats n) fixed
            ∙ slice_get-map (seat_of [] true) first.members n

        go : (o : Option Member) → slice_get first.members n ≡ o → m.script.code < length codes
        go None e = let no = same ∙ ap (option_map (seat_of [] true)) e in absurd cc
        go (Some one) e =
            let is : Some (seat_of [] true m) ≡ Some (seat_of [] true one) = same ∙ ap (option_map (seat_of [] true)) e
            in
            let seat : seat_of [] true m ≡ seat_of [] true one = cc in
            let code : m.script.code ≡ one.script.code = ap (λ (s : Seat). s.unit) seat in
            subst (λ (k : ℕ). k < length codes) (sym code) (begins.scripts n one e).known

    pub agreeing-scripts : (w : SourceWorld) → AgreesWith programs file cards w → AreScripts codes w
    agreeing-scripts w agrees n m at =
        let known = known-at w n m agrees.fixed at in
        record {
          known = known;
          lawful = script-lawful codes (meant programs codes runs) m.script known (agrees.lawful n m at);
        }

    -- the grid that has the parts which the bytes encode is that of the world
    pub thawed-is : (w : SourceWorld) (thawed : Contents) (parts : WorldParts) (bytes : List ℕ) (memory : World)
        → AgreesWith programs file cards w → IsImageIn codes file parts bytes
        → IsImageIn codes file (parts_of_world codes w) bytes
        → ((v : SourceWorld) → AreScripts codes v → fixed_in v ≡ fixed_of grid
        → placed_in (contents_of codes v) ≡ parts.objects → Stands codes None v.clock thawed v)
        → AreSeated codes thawed.seats → parts.clock ≤ latest_clock
        → ((clock : ℕ) (v : SourceWorld) → Stands codes None clock thawed v → IsIndexOf (timings_of v) memory.due)
        → memory.units ≡ codes → memory.clock ≡ parts.clock → memory.grid ≡ thawed → IsOf programs memory w
    thawed-is w thawed parts bytes memory agrees image wanted stands seated timely index units clock there =
        let is : parts ≡ parts_of_world codes w =
        image-one (world (shapes_of_file file) codes) bytes parts (parts_of_world codes w) image wanted in
        let objects : placed_in (contents_of codes w) ≡ parts.objects = ap (λ (p : WorldParts). p.objects) (sym is) in
        let time : memory.clock ≡ w.clock = clock ∙ ap (λ (p : WorldParts). p.clock) is in
        let st = stands w (agreeing-scripts w agrees) (agrees.fixed ∙ sym start-fixed) objects in
        record {
          runs = subst (λ (cs : List Code). AreRunBy programs cs) (sym units) runs;
          seated = subst (λ (cs : List Code). AreSeated cs memory.grid.seats) (sym units)
              (subst (λ (g : Contents). AreSeated codes g.seats) (sym there) seated);
          timely = omega (arith, timely, clock);
          stands = subst (λ (cs : List Code). Stands cs None memory.clock memory.grid w) (sym units)
              (subst (λ (g : Contents). Stands codes None memory.clock g w) (sym there)
              (subst (λ (t : ℕ). Stands codes None t thawed w) (sym time) st));
          index = index w.clock w st;
        }

-- as many objects, prims and scripts
lasting-prims : (objects : List Linkset) → map prims_of (map lasting objects) ≡ map prims_of objects
lasting-prims [] = refl
lasting-prims (o ∷ objects) =
    ap (λ (n : ℕ). n ∷ map prims_of (map lasting objects)) (length-map o.prims nameless)
    ∙ ap (λ (ns : List ℕ). length o.prims ∷ ns) (lasting-prims objects)

pub fixed-size : (g h : Contents) → fixed_of g ≡ fixed_of h
    → size_in g.objects (length g.seats) ≡ size_in h.objects (length h.seats)
fixed-size g h e =
    let prims : map prims_of g.objects ≡ map prims_of h.objects =
    sym (lasting-prims g.objects) ∙ ap (λ (z : Contents). map prims_of z.objects) e ∙ lasting-prims h.objects in
    let scripts : length g.seats ≡ length h.seats =
    sym (length-map g.seats vacant) ∙ ap (λ (z : Contents). length z.seats) e ∙ length-map h.seats vacant in
    λ i. record { prims = prims i; scripts = scripts i }
