-- What a file says of its objects is seen by what stays of a world, whatever its scripts do.
use Rattle.std.proofs.Common.{◌≡◌, ℕ, suc, Bool, true, false, List, [], ◌∷◌, length, Option, None, refl, sym, ap, ◌∙◌}
use Rattle.std.specs.Prelude.{nat_eq, if◌then◌else◌, map}
use Rattle.std.specs.List.{cons_option, filter_map, range_with_len}
use Rattle.std.specs.Option.{option_map}
use Rattle.std.proofs.Math.ListN.{get_or-map}
use Rattle.std.proofs.lemmas.List.{length-map}
use Rattle.lsl_post.specs.declared.parts.ScriptParts.{ScriptParts}
use Rattle.lsl_image.specs.declared.parts.Shape.{Shape}
use Rattle.lsl_image.specs.Valid.{placed_shape, unit_number}
use Rattle.lsl_region.specs.declared.grid.Seat.{Seat}
use Rattle.lsl_region.specs.declared.objects.Linkset.{Linkset}
use Rattle.lsl_region.specs.declared.objects.Primitive.{Primitive}
use Rattle.lsl_region.specs.GridParts.{AreHome, IsHome, fixed_of, lasting, placed_at, placed_in}
use Rattle.lsl_region.specs.Grids.{Contents, nameless, vacant}
use Rattle.lsl_region.specs.ObjectParts.{name_of, object_in_grid, parts_in_seat, with_unit}
use Rattle.lsl_region.specs.Worlds.{no_object, no_prim, prim_at}

-- the numbers of an object's scripts' units, by the seats
abbrev units_of : ℕ → List Seat → List ℕ
units_of k [] = []
units_of k (seat ∷ seats) = if nat_eq seat.object k then seat.unit ∷ units_of k seats else units_of k seats

-- the shape of an object, by what stays
abbrev shape_in : Contents → ℕ → Shape
shape_in grid k = record {
  key = (prim_at (object_in_grid grid k).prims 0).key;
  prims = length (object_in_grid grid k).prims;
  units = units_of k grid.seats;
}

vacant-units : (k : ℕ) (seats : List Seat) → units_of k (map vacant seats) ≡ units_of k seats
vacant-units k [] = refl
vacant-units k (seat ∷ seats) =
    ap (λ (z : List ℕ). if nat_eq seat.object k then seat.unit ∷ z else z) (vacant-units k seats)

-- a script that is there is of its seat's unit
seat-unit : (k : ℕ) (seat : Seat) (seats : List ScriptParts) (own : Bool) → IsHome seat
    → map unit_number (cons_option (if own then option_map (with_unit seat.unit) seat.script else None) seats)
    ≡ (if own then seat.unit ∷ map unit_number seats else map unit_number seats)
seat-unit k seat seats true (parts, is, e) =
    ap (λ (o : Option ScriptParts). map unit_number (cons_option (option_map (with_unit seat.unit) o) seats)) is
seat-unit k seat seats false home = refl

units-are : (k : ℕ) (seats : List Seat) → AreHome seats
    → map unit_number (filter_map (parts_in_seat k) seats) ≡ units_of k seats
units-are k [] home = refl
units-are k (seat ∷ seats) home =
    seat-unit k seat (filter_map (parts_in_seat k) seats) (nat_eq seat.object k) (home 0 seat refl)
    ∙ ap (λ (z : List ℕ). if nat_eq seat.object k then seat.unit ∷ z else z)
    (units-are k seats (λ n s at. home (suc n) s at))

abbrev shape : List ℕ → ℕ → List ℕ → Shape
shape key prims units = record { key = key; prims = prims; units = units }

shape-made : (key other : List ℕ) (prims count : ℕ) (units numbers : List ℕ) → key ≡ other → prims ≡ count
    → units ≡ numbers → shape key prims units ≡ shape other count numbers
shape-made key other prims count units numbers e f g = λ i. shape (e i) (f i) (g i)

shape-fixed : (grid : Contents) (k : ℕ) → AreHome grid.seats
    → placed_shape (placed_at grid k) ≡ shape_in (fixed_of grid) k
shape-fixed grid k home =
    let object = object_in_grid grid k in
    let fixed : object_in_grid (fixed_of grid) k ≡ lasting object = get_or-map lasting grid.objects k no_object in
    shape-made (prim_at object.prims 0).key (prim_at (object_in_grid (fixed_of grid) k).prims 0).key
    (length (map name_of object.prims)) (length (object_in_grid (fixed_of grid) k).prims)
    (map unit_number (filter_map (parts_in_seat k) grid.seats)) (units_of k (map vacant grid.seats))
    (sym (ap (λ (p : Primitive). p.key) (get_or-map nameless object.prims 0 no_prim))
    ∙ sym (ap (λ (o : Linkset). (prim_at o.prims 0).key) fixed))
    (length-map object.prims name_of ∙ sym (length-map object.prims nameless)
    ∙ sym (ap (λ (o : Linkset). length o.prims) fixed))
    (units-are k grid.seats home ∙ sym (vacant-units k grid.seats))

map-twice : {X Y Z : Type 0} (g : Y → Z) (f : X → Y) (xs : List X) → map g (map f xs) ≡ map (λ x. g (f x)) xs
map-twice g f [] = refl
map-twice {X} {Y} {Z} g f (x ∷ xs) = ap (λ (zs : List Z). g (f x) ∷ zs) (map-twice g f xs)

map-as : {X Y : Type 0} (f g : X → Y) (xs : List X) → ((x : X) → f x ≡ g x) → map f xs ≡ map g xs
map-as f g [] e = refl
map-as {X} {Y} f g (x ∷ xs) e =
    ap (λ (y : Y). y ∷ map f xs) (e x) ∙ ap (λ (ys : List Y). g x ∷ ys) (map-as f g xs e)

-- all shapes, by what stays
all-fixed : (grid : Contents) → AreHome grid.seats
    → map placed_shape (placed_in grid) ≡ map (shape_in (fixed_of grid))
    (range_with_len 0 (length (fixed_of grid).objects))
all-fixed grid home =
    map-twice placed_shape (placed_at grid) (range_with_len 0 (length grid.objects))
    ∙ map-as (λ k. placed_shape (placed_at grid k)) (shape_in (fixed_of grid)) (range_with_len 0 (length grid.objects))
    (λ k. shape-fixed grid k home)
    ∙ ap (λ (n : ℕ). map (shape_in (fixed_of grid)) (range_with_len 0 n)) (sym (length-map grid.objects lasting))

pub shapes-fixed : (g h : Contents) → fixed_of g ≡ fixed_of h → AreHome g.seats → AreHome h.seats
    → map placed_shape (placed_in g) ≡ map placed_shape (placed_in h)
shapes-fixed g h e home there =
    all-fixed g home
    ∙ ap (λ (z : Contents). map (shape_in z) (range_with_len 0 (length z.objects))) e
    ∙ sym (all-fixed h there)
