-- An object gets the names, the store and the region with which it arrives, and the seats their scripts.
use Rattle.std.proofs.Common.{◌≡◌, ◌∙◌, refl, sym, ap, subst, arith, ℕ, ◌<◌, suc, Bool, true, false, List, [], ◌∷◌, length}
use Rattle.std.specs.Prelude.{nat_eq, if◌then◌else◌, Option, Some, None, slice_set, All}
use Rattle.std.specs.List.{cons_option, filter_map}
use Rattle.std.specs.Option.{option_map}
use Rattle.std.proofs.lemmas.List.{get_or-set_same, length-map, set-set}
use Rattle.lsl_code.specs.declared.woven_units.Woven.{Woven as Code}
use Rattle.lsl_image.specs.declared.parts.Shape.{Shape}
use Rattle.lsl_region.specs.Crossings.{CanArrive, arrived, post_in_seats, region_changed}
use Rattle.lsl_value.specs.Key.{is_valid_key}
use Rattle.lsl_notes.specs.declared.cards.Notecard.{Notecard}
use Rattle.lsl_post.specs.declared.parts.Pair.{Pair}
use Rattle.lsl_post.specs.declared.parts.ScriptParts.{ScriptParts}
use Rattle.lsl_image.specs.declared.parts.ObjectParts.{ObjectParts}
use Rattle.lsl_image.specs.Valid.{IsStore}
use Rattle.lsl_region.specs.declared.grid.Seat.{Seat}
use Rattle.lsl_region.specs.declared.objects.Linkset.{Linkset}
use Rattle.lsl_region.specs.declared.objects.Primitive.{Primitive}
use Rattle.lsl_region.specs.Grids.{Contents, HasKey, IsFormed}
use Rattle.lsl_region.specs.ObjectParts.{behind_first, in_region, name_of, named, object_in_grid, parts_in_seat, reseated, with_first, with_parts, with_unit}
use Rattle.lsl_region.specs.Worlds.{no_object}
use Rattle.lsl_region.proofs.Gathering.{named-key, named-long}
use Rattle.lsl_region.proofs.Reseating.{first-vacant}

pub formed-furnished : (o t : Linkset) (names : List (List ℕ)) → t.prims ≡ named o.prims names → IsStore t.store
    → IsFormed o → IsFormed t
formed-furnished o t names e store f =
    let count : length t.prims ≡ length o.prims
    = ap (λ (ps : List Primitive). length ps) e ∙ named-long o.prims names in
    record {
      rooted = omega (arith, f.rooted, count);
      few = omega (arith, f.few, count);
      keyed = subst (λ (ps : List Primitive). All HasKey ps) (sym e) (λ k d within.
          subst (λ (key : List ℕ). is_valid_key key ≡ true) (sym (named-key o.prims names k d))
          (f.keyed k d (omega (arith, within, named-long o.prims names))));
      stored = store;
    }

-- the object that arrives
abbrev pub furnished : Linkset → ObjectParts → List ℕ → Linkset
furnished o parts region =
    record o { region = region; prims = named o.prims parts.names; store = parts.store }

pub furnished-is : (grid : Contents) (place : ℕ) (parts : ObjectParts) (region : List ℕ)
    → place < length grid.objects
    → (in_region (with_parts grid place parts) place region).objects
    ≡ slice_set grid.objects place (furnished (object_in_grid grid place) parts region)
furnished-is grid place parts region h =
    let o = object_in_grid grid place in
    let t : Linkset = record o { prims = named o.prims parts.names; store = parts.store } in
    ap (λ (z : Linkset). slice_set (slice_set grid.objects place t) place (record z { region = region }))
    (get_or-set_same grid.objects place t no_object h)
    ∙ set-set grid.objects place t (record t { region = region })

-- its store is that of these pairs
pub furnished-with : (grid : Contents) (place : ℕ) (parts : ObjectParts) (region : List ℕ) (store : List Pair)
    (objects : List Linkset) → store ≡ parts.store
    → objects ≡ slice_set grid.objects place (record (object_in_grid grid place) {
      region = region;
      prims = named (object_in_grid grid place).prims parts.names;
      store = store;
    })
    → objects ≡ slice_set grid.objects place (furnished (object_in_grid grid place) parts region)
furnished-with grid place parts region store objects same e =
    let o = object_in_grid grid place in
    e ∙ ap {A = List Pair} {B = List Linkset} (λ pairs. slice_set grid.objects place
    (record o { region = region; prims = named o.prims parts.names; store = pairs })) same

-- scripts in seats are as many as they were
abbrev in_seat : Bool → ℕ → Option ScriptParts → Option ScriptParts
in_seat own unit o = if own then option_map (with_unit unit) o else None

one-count : (seat : Seat) (own : Bool) (o : Option ScriptParts) (scripts rest others : List ScriptParts)
    → length rest ≡ length others
    → length (cons_option (in_seat own
    (with_first (record seat { script = o }) (in_seat own seat.unit o) scripts).unit
    (with_first (record seat { script = o }) (in_seat own seat.unit o) scripts).script) rest)
    ≡ length (cons_option (in_seat own seat.unit o) others)
one-count seat true None scripts rest others e = e
one-count seat true (Some parts) [] rest others e = ap suc e
one-count seat true (Some parts) (script ∷ scripts) rest others e = ap suc e
one-count seat false o scripts rest others e = e

pub reseated-count : (place : ℕ) (scripts : List ScriptParts) (seats : List Seat)
    → length (filter_map (parts_in_seat place) (reseated place scripts seats))
    ≡ length (filter_map (parts_in_seat place) seats)
reseated-count place scripts [] = refl
reseated-count place scripts (seat ∷ seats) =
    let p = parts_in_seat place seat in
    let t = with_first seat p scripts in
    let rest = filter_map (parts_in_seat place) (reseated place (behind_first p scripts) seats) in
    ap (λ (k : ℕ). length (cons_option (in_seat (nat_eq k place) t.unit t.script) rest)) (first-vacant seat p scripts)
    ∙ one-count seat (nat_eq seat.object place) seat.script scripts rest (filter_map (parts_in_seat place) seats)
    (reseated-count place (behind_first p scripts) seats)

pub reseated-long : (place : ℕ) (scripts : List ScriptParts) (seats : List Seat)
    → length (reseated place scripts seats) ≡ length seats
reseated-long place scripts [] = refl
reseated-long place scripts (seat ∷ seats) =
    ap suc (reseated-long place (behind_first (parts_in_seat place seat) scripts) seats)

-- the grid when the object has arrived
pub arrived-is : (codes : List Code) (grid new : Contents) (place : ℕ) (region : List ℕ) (parts : ObjectParts)
    → place < length grid.objects
    → new.objects ≡ slice_set grid.objects place (furnished (object_in_grid grid place) parts region)
    → new.seats ≡ (post_in_seats codes place region_changed 1 (reseated place parts.scripts grid.seats)).value
    → new.cards ≡ grid.cards → new ≡ (arrived codes grid place region parts).value
arrived-is codes grid new place region parts h objects seats cards =
    ap {A = List Linkset} {B = Contents} (λ os. record { objects = os; seats = new.seats; cards = new.cards })
    (objects ∙ sym (furnished-is grid place parts region h))
    ∙ ap {A = List Seat} {B = Contents} (λ ss. record {
      objects = (in_region (with_parts grid place parts) place region).objects;
      seats = ss;
      cards = new.cards;
    }) seats
    ∙ ap {A = List Notecard} {B = Contents} (λ cs. record {
      objects = (in_region (with_parts grid place parts) place region).objects;
      seats = (arrived codes grid place region parts).value.seats;
      cards = cs;
    }) cards

pub names-fit : (codes : List Code) (grid : Contents) (place : ℕ) (parts : ObjectParts)
    → CanArrive codes grid place parts → length parts.names ≡ length (object_in_grid grid place).prims
names-fit codes grid place parts a =
    ap (λ (s : Shape). s.prims) a.shape ∙ length-map (object_in_grid grid place).prims name_of
