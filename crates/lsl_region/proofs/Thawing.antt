-- An object of a grid gets parts: what the parts of all objects are then.
use Rattle.std.proofs.Common.{◌≡◌, ◌≢◌, ◌∙◌, sym, ap, subst, arith, inl, inr, ℕ, ◌+◌, ◌<◌, ◌≤◌, suc, zero, List, [], length, get_or}
use Rattle.std.specs.Prelude.{map, slice_set}
use Rattle.std.specs.List.{AllByRecursion, filter_map, range_with_len}
use Rattle.std.proofs.Math.ListN.{length-set}
use Rattle.std.proofs.lemmas.Bool.Decides.{eqb_tells}
use Rattle.std.proofs.lemmas.List.{get_or-set_other, get_or-set_same, length-map}
use Rattle.std.proofs.lemmas.List.FromFn.{fill_by_all, get_or-map-range_with_len, length-map-range_with_len}
use Rattle.std.proofs.lemmas.Option.{slice_get-get_or}
use Rattle.lsl_post.specs.declared.parts.ScriptParts.{ScriptParts}
use Rattle.lsl_image.specs.declared.parts.ObjectParts.{ObjectParts}
use Rattle.lsl_image.specs.declared.parts.Placed.{Placed}
use Rattle.lsl_image.specs.declared.parts.Shape.{Shape}
use Rattle.lsl_image.specs.Valid.{shape_of}
use Rattle.lsl_region.specs.declared.grid.Seat.{Seat}
use Rattle.lsl_region.specs.declared.objects.Linkset.{Linkset}
use Rattle.lsl_region.specs.declared.objects.Primitive.{Primitive}
use Rattle.lsl_region.specs.GridParts.{fixed_of, lasting, placed_at, placed_in}
use Rattle.lsl_region.specs.Grids.{Contents, vacant}
use Rattle.lsl_region.specs.ObjectParts.{name_of, named, object_in_grid, parts_among, parts_in_seat, parts_of_object, reseated}
use Rattle.lsl_region.specs.Worlds.{no_object, no_prim, prim_at}
use Rattle.lsl_region.proofs.Furnishing.{furnished}
use Rattle.lsl_region.proofs.Gathering.{named-key}
use Rattle.lsl_region.proofs.Outlines.{map-set_same}
use Rattle.lsl_region.proofs.Refilling.{keys-named, names-named, other-scripts, own-scripts, vacant-reseated}

-- what holds of the object at each place holds of all
pub all-range : (P : Placed → Type 0) (f : ℕ → Placed) (a n : ℕ)
    → ((k : ℕ) → a ≤ k → k < a + n → P (f k)) → AllByRecursion P (map f (range_with_len a n))
all-range P f a zero h = tt
all-range P f a (suc n) h =
    (h a (omega arith) (omega arith), all-range P f (a + 1) n (λ k low high. h k (omega arith) (omega arith)))

module _ (grid : Contents) (place : ℕ) (region : List ℕ) (parts : ObjectParts) (h : place < length grid.objects)
    (shape : shape_of parts ≡ shape_of (parts_of_object grid place)) where
  abbrev thing : Linkset
  thing = object_in_grid grid place

  abbrev now : Linkset
  now = furnished thing parts region

  -- the grid when the object has them
  abbrev pub refilled : Contents
  refilled = record {
    objects = slice_set grid.objects place now;
    seats = reseated place parts.scripts grid.seats;
    cards = grid.cards;
  }

  abbrev pub placed : Placed
  placed = record { region = region; object = parts }

  abbrev seen : List Seat → ℕ → Linkset → Placed
  seen seats k o = record { region = o.region; object = parts_among o seats k }

  there : placed_at refilled place ≡ placed
  there =
      let key : (prim_at (named thing.prims parts.names) 0).key ≡ parts.key =
      named-key thing.prims parts.names 0 no_prim ∙ sym (ap (λ (s : Shape). s.key) shape) in
      let names : map name_of (named thing.prims parts.names) ≡ parts.names =
      names-named thing.prims parts.names (ap (λ (s : Shape). s.prims) shape ∙ length-map thing.prims name_of) in
      let scripts : filter_map (parts_in_seat place) (reseated place parts.scripts grid.seats) ≡ parts.scripts =
      own-scripts place grid.seats parts.scripts (ap (λ (s : Shape). s.units) shape) in
      let whole : seen refilled.seats place now ≡ placed = λ i. record {
        region = region;
        object = record { key = key i; names = names i; scripts = scripts i; store = parts.store };
      } in
      ap (seen refilled.seats place) (get_or-set_same grid.objects place now no_object h) ∙ whole

  other : (k : ℕ) → k ≢ place → placed_at refilled k ≡ placed_at grid k
  other k ne =
      let o = object_in_grid grid k in
      ap (seen refilled.seats k) (get_or-set_other grid.objects place k now no_object ne)
      ∙ ap {A = List ScriptParts} {B = Placed} (λ scripts. record {
        region = o.region;
        object = record {
          key = (prim_at o.prims 0).key;
          names = map name_of o.prims;
          scripts = scripts;
          store = o.store;
        };
      }) (other-scripts place k ne parts.scripts grid.seats)

  at-each : (k : ℕ) → k < length grid.objects
      → get_or (slice_set (placed_in grid) place placed) k placed ≡ placed_at refilled k
  at-each k lt = elim (eqb_tells k place) [
    | inl e ↦ subst (λ (z : ℕ). get_or (slice_set (placed_in grid) place placed) z placed ≡ placed_at refilled z)
        (sym e.1)
        (get_or-set_same (placed_in grid) place placed placed
        (omega (arith, length-map-range_with_len (placed_at grid) 0 (length grid.objects), h))
        ∙ sym there)
    | inr f ↦ get_or-set_other (placed_in grid) place k placed placed f.1
        ∙ get_or-map-range_with_len (placed_at grid) 0 (length grid.objects) k k placed lt (omega arith)
        ∙ sym (other k f.1)
  ]

  pub refilled-parts : placed_in refilled ≡ slice_set (placed_in grid) place placed
  refilled-parts =
      let count : length refilled.objects ≡ length grid.objects = length-set grid.objects place now in
      sym (fill_by_all (placed_at refilled) (slice_set (placed_in grid) place placed) (length refilled.objects) placed
      (length-set (placed_in grid) place placed ∙ length-map-range_with_len (placed_at grid) 0 (length grid.objects)
      ∙ sym count)
      (λ k lt. at-each k (omega (arith, lt, count))))

  pub refilled-fixed : fixed_of refilled ≡ fixed_of grid
  refilled-fixed =
      let same : lasting now ≡ lasting thing = ap {A = List Primitive} {B = Linkset} (λ prims. record {
        owner = thing.owner;
        region = [];
        prims = prims;
        store = [];
      }) (keys-named thing.prims parts.names) in
      ap {A = List Linkset} {B = Contents} (λ objects. record {
        objects = objects;
        seats = map vacant refilled.seats;
        cards = grid.cards;
      }) (map-set_same lasting grid.objects place thing now (slice_get-get_or grid.objects place no_object h) same)
      ∙ ap {A = List Seat} {B = Contents} (λ seats. record {
        objects = map lasting grid.objects;
        seats = seats;
        cards = grid.cards;
      })
      (vacant-reseated place parts.scripts grid.seats)

  pub refilled-is : (new : Contents) → new.objects ≡ slice_set grid.objects place now
      → new.seats ≡ reseated place parts.scripts grid.seats → new.cards ≡ grid.cards → new ≡ refilled
  refilled-is new objects seats cards = λ i. record { objects = objects i; seats = seats i; cards = cards i }
