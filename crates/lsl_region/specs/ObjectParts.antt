-- An object of a grid as the parts in its image, and the grid with other parts in their place.
use Rattle.std.specs.Prelude.{ℕ, nat_eq, if◌then◌else◌, List, [], ◌∷◌, map, drop, filter_map, get_or, slice_set, Option, Some, None}
use Rattle.std.specs.Option.{option_map}
use Rattle.lsl_post.specs.declared.parts.ScriptParts.{ScriptParts}
use Rattle.lsl_image.specs.declared.parts.ObjectParts.{ObjectParts}
use Rattle.lsl_region.specs.declared.grid.Seat.{Seat}
use Rattle.lsl_region.specs.declared.objects.Linkset.{Linkset}
use Rattle.lsl_region.specs.declared.objects.Primitive.{Primitive}
use Rattle.lsl_region.specs.Grids.{Contents}
use Rattle.lsl_region.specs.Worlds.{no_object, prim_at}

abbrev pub object_in_grid : Contents → ℕ → Linkset
object_in_grid grid place = get_or grid.objects place no_object

abbrev pub name_of : Primitive → List ℕ
name_of prim = prim.name

abbrev pub with_unit : ℕ → ScriptParts → ScriptParts
with_unit unit parts = record parts { unit = unit }

-- the parts of the script in a seat of this object, which is of the seat's unit
abbrev pub parts_in_seat : ℕ → Seat → Option ScriptParts
parts_in_seat place seat = if nat_eq seat.object place then option_map (with_unit seat.unit) seat.script else None

-- an object's parts, whose place is this one: its root's key, its prims' names, its scripts in the order of their
-- numbers, its store
abbrev pub parts_among : Linkset → List Seat → ℕ → ObjectParts
parts_among object seats place = record {
  key = (prim_at object.prims 0).key;
  names = map name_of object.prims;
  scripts = filter_map (parts_in_seat place) seats;
  store = object.store;
}

abbrev pub parts_of_object : Contents → ℕ → ObjectParts
parts_of_object grid place = parts_among (object_in_grid grid place) grid.seats place

-- prims with these names, in order
abbrev pub named : List Primitive → List (List ℕ) → List Primitive
named [] names = []
named (prim ∷ prims) [] = prim ∷ prims
named (prim ∷ prims) (name ∷ names) = record { key = prim.key; name = name } ∷ named prims names

-- a seat with the first of these scripts, where it has one, and those that are left
abbrev pub with_first : Seat → Option ScriptParts → List ScriptParts → Seat
with_first seat None scripts = seat
with_first seat (Some parts) [] = seat
with_first seat (Some parts) (script ∷ scripts) = record seat { script = Some script }

abbrev pub behind_first : Option ScriptParts → List ScriptParts → List ScriptParts
behind_first None scripts = scripts
behind_first (Some parts) scripts = drop 1 scripts

-- these scripts, in order, in the place of the object's
abbrev pub reseated : ℕ → List ScriptParts → List Seat → List Seat
reseated place scripts [] = []
reseated place scripts (seat ∷ seats) =
    with_first seat (parts_in_seat place seat) scripts
    ∷ reseated place (behind_first (parts_in_seat place seat) scripts) seats

-- the object at this place has these parts
abbrev pub with_parts : Contents → ℕ → ObjectParts → Contents
with_parts grid place parts = record {
  objects = slice_set grid.objects place
      (record (object_in_grid grid place) {
        prims = named (object_in_grid grid place).prims parts.names;
        store = parts.store;
      });
  seats = reseated place parts.scripts grid.seats;
  cards = grid.cards;
}

-- the object at this place is in this region
abbrev pub in_region : Contents → ℕ → List ℕ → Contents
in_region grid place region =
    record grid { objects = slice_set grid.objects place (record (object_in_grid grid place) { region = region }) }
