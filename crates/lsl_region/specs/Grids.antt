-- What a grid has, and the world that it represents, also while one script is out of it.
use Rattle.std.specs.Prelude.{◌≡◌, ℕ, ◌<◌, ◌≤◌, Bool, true, false, nat_eq, List, [], length, map, Option, Some, None, get_or, slice_get, slice_set, All}
use Rattle.std.specs.Option.{option_map}
use Rattle.lsl_value.specs.declared.names.BuiltinId.{BuiltinId}
use Rattle.lsl_value.specs.Key.{is_valid_key}
use Rattle.lsl_code.specs.declared.woven_units.Woven.{Woven as Code}
use Rattle.lsl_image.specs.Valid.{IsStore}
use Rattle.lsl_notes.specs.declared.cards.Notecard.{Notecard}
use Rattle.lsl_post.specs.declared.parts.Pair.{Pair}
use Rattle.lsl_post.specs.declared.parts.ScriptParts.{ScriptParts}
use Rattle.lsl_script.specs.Codes.{HasUnit, rules_of}
use Rattle.lsl_script.specs.Fitting.{FitsUnit}
use Rattle.lsl_script.specs.declared.live.Live.{Live}
use Rattle.lsl_script.specs.Lawful.{Lawful}
use Rattle.lsl_script.specs.Lives.{Waits}
use Rattle.lsl_script.specs.Parts.{parts_of}
use Rattle.lsl_script.specs.Scripts.{Flight, Script}
use Rattle.lsl_value.specs.declared.tagged.Value.{Value}
use Rattle.lsl_region.specs.declared.notice.Audience.{Audience}
use Rattle.lsl_region.specs.declared.notice.Audience.TheVariants.{Linked}
use Rattle.lsl_region.specs.Answers.{integer_at, with_name}
use Rattle.lsl_region.specs.declared.grid.Seat.{Seat}
use Rattle.lsl_region.specs.declared.objects.Linkset.{Linkset}
use Rattle.lsl_region.specs.declared.objects.Primitive.{Primitive}
use Rattle.lsl_region.specs.Worlds.{Member, World, no_object, prim_at}

-- the objects, the seats of the scripts, and the notecards
pub record Contents : Type 0 where
  pub objects : List Linkset
  pub seats : List Seat
  pub cards : List Notecard

-- a prim without its name, an object without its store and its prims' names, and a seat without its script
abbrev pub nameless : Primitive → Primitive
nameless prim = record { key = prim.key; name = [] }

abbrev pub without_names : Linkset → Linkset
without_names object =
    record {
      owner = object.owner;
      region = object.region;
      prims = map nameless object.prims;
      store = [];
    }

abbrev pub vacant : Seat → Seat
vacant seat =
    record { object = seat.object; prim = seat.prim; name = seat.name; unit = seat.unit; script = None }

-- what stays whatever scripts do: the objects without their stores and their prims' names, and the seats without their
-- scripts
unfoldable pub outline_of : Contents → Contents
outline_of grid = record { objects = map without_names grid.objects; seats = map vacant grid.seats; cards = grid.cards }

-- the seat's object and prim are there
pub record IsPlaced (objects : List Linkset) (seat : Seat) : Type 0 where
  pub object : Linkset
  pub there : slice_get objects seat.object ≡ Some object
  pub prim : seat.prim < length object.prims

abbrev pub object_in : List Linkset → Seat → Linkset
object_in objects seat = get_or objects seat.object no_object

abbrev pub prim_in : List Linkset → Seat → Primitive
prim_in objects seat = prim_at (object_in objects seat).prims seat.prim

abbrev pub key_in : List Linkset → Seat → List ℕ
key_in objects seat = (prim_in objects seat).key

-- a message with these arguments goes from this seat's prim, in an object of `count` prims
abbrev pub linked_to : ℕ → Seat → List Value → Audience
linked_to count seat args = Linked seat.object count seat.prim (integer_at 0 args)

-- the seat's prim has this name
abbrev pub renamed_grid : Contents → Seat → List ℕ → Contents
renamed_grid grid seat name =
    let o = object_in grid.objects seat in
    record grid { objects = slice_set grid.objects seat.object (record o { prims = with_name o.prims seat.prim name }) }

-- the seat's object has these pairs in its store
abbrev pub stored_grid : Contents → Seat → List Pair → Contents
stored_grid grid seat pairs =
    let o = object_in grid.objects seat in
    record grid { objects = slice_set grid.objects seat.object (record o { store = pairs }) }

-- the prim's key is a valid one
abbrev pub HasKey : Primitive → Type 0
HasKey prim = is_valid_key prim.key ≡ true

-- an object has a root, at most `most` prims, each with a key, and a store in order: so it can be written as an image
pub record IsFormed (object : Linkset) : Type 0 where
  pub rooted : 0 < length object.prims
  pub few : length object.prims ≤ 255
  pub keyed : All HasKey object.prims
  pub stored : IsStore object.store

-- there are at most this many objects and scripts
pub record ArePlaced (objects : List Linkset) (seats : List Seat) : Type 0 where
  pub few_objects : length objects ≤ 64
  pub formed : (n : ℕ) (o : Linkset) → slice_get objects n ≡ Some o → IsFormed o
  pub few_seats : length seats ≤ 256
  pub placed : (n : ℕ) (seat : Seat) → slice_get seats n ≡ Some seat → IsPlaced objects seat

-- a script that isn't out is one of this unit
abbrev pub FitsSeat : Code → Option ScriptParts → Type 0
FitsSeat unit None = Unit {0}
FitsSeat unit (Some parts) = FitsUnit unit parts

pub record IsSeated (codes : List Code) (seat : Seat) : Type 0 where
  pub unit : Code
  pub has : HasUnit codes seat.unit unit
  pub fits : FitsSeat unit seat.script

-- every script is of a unit
abbrev pub AreSeated : List Code → List Seat → Type 0
AreSeated codes seats = (n : ℕ) (seat : Seat) → slice_get seats n ≡ Some seat → IsSeated codes seat

-- the script at a place is out of the grid, or none is
abbrev pub is_out : Option ℕ → ℕ → Bool
is_out None place = false
is_out (Some out) place = nat_eq out place

-- none from one place up to another is
abbrev pub AreHome : Option ℕ → (first end : ℕ) → Type 0
AreHome out first end = (place : ℕ) → first ≤ place → place < end → is_out out place ≡ false

abbrev pub parts_in : List Code → Bool → Script → Option ScriptParts
parts_in codes true s = None
parts_in codes false s = Some (parts_of codes s)

abbrev pub seat_of : List Code → Bool → Member → Seat
seat_of codes away m =
    record {
      object = m.object;
      prim = m.prim;
      name = m.name;
      unit = m.script.code;
      script = parts_in codes away m.script;
    }

-- a script that isn't out has a lawful flight
abbrev pub IsLawful : List Code → Bool → Script → Type 0
IsLawful codes true s = Unit {0}
IsLawful codes false s = Lawful (rules_of codes) s

-- a script of the world is one of a unit, with a lawful flight unless it is out
pub record IsScript (codes : List Code) (away : Bool) (s : Script) : Type 0 where
  pub known : s.code < length codes
  pub lawful : IsLawful codes away s

-- the grid represents the world, except for the script that is out
pub record Stands (codes : List Code) (out : Option ℕ) (clock : ℕ) (grid : Contents) (w : World) : Type 0 where
  pub time : w.clock ≡ clock
  pub objects : grid.objects ≡ w.objects
  pub cards : grid.cards ≡ w.cards
  pub seats : (n : ℕ) → slice_get grid.seats n ≡ option_map (seat_of codes (is_out out n)) (slice_get w.members n)
  pub scripts : (n : ℕ) (m : Member) → slice_get w.members n ≡ Some m → IsScript codes (is_out out n) m.script

-- the script at a place is out of the grid, and waits in a flight for the answer to a call
pub record Lent (codes : List Code) (unit : Code) (clock place : ℕ) (grid : Contents) (live : Live) (id : BuiltinId)
    (f : Flight) (w : World) : Type 0 where
  pub stands : Stands codes (Some place) clock grid w
  pub member : Member
  pub at : slice_get w.members place ≡ Some member
  pub waits : Waits codes unit member.script f id live
