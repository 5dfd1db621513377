-- Which parts have an image: those without a fault in any field.
use Rattle.std.specs.Prelude.{◌≡◌, ℕ, ◌≤◌, ◌<◌, true, List, [], ◌∷◌, length, map, Some, slice_get, sum_by, ⊤}
use Rattle.std.specs.Cmp.Lexicographic.{slice_cmp}
use Rattle.std.specs.List.{AllByRecursion}
use Rattle.std.specs.Ordering.{is_lt, nat_cmp}
use Rattle.std.specs.Str.{encode_utf8_all}
use Rattle.lsl_value.specs.Key.{is_valid_key}
use Rattle.lsl_code.specs.declared.woven_units.Woven.{Woven as Code}
use Rattle.lsl_post.specs.declared.parts.Pair.{Pair}
use Rattle.lsl_post.specs.declared.parts.Rest.{Rest}
use Rattle.lsl_post.specs.declared.parts.Rest.TheVariants.{Idle, Saved, Dead}
use Rattle.lsl_post.specs.declared.parts.ScriptParts.{ScriptParts}
use Rattle.lsl_post.specs.Fitting.{FitsUnit}
use Rattle.lsl_image.specs.declared.parts.ObjectParts.{ObjectParts}
use Rattle.lsl_image.specs.declared.parts.Placed.{Placed}
use Rattle.lsl_image.specs.declared.parts.Shape.{Shape}
use Rattle.lsl_image.specs.declared.parts.WorldParts.{WorldParts}
use Rattle.lsl_image.specs.Object.{most_store_bytes, pair_bytes}
use Rattle.lsl_image.specs.World.{most_clock}

-- the calls of a handler in flight can be counted in their field
abbrev pub HasFewCalls : Rest → Type 0
HasFewCalls Idle = ⊤
HasFewCalls (Saved e frames) = length frames < 65536
HasFewCalls (Dead fault) = ⊤

-- parts of a script that are valid for the unit that they name, as those of a script at rest are
pub record HasUnit (library : List Code) (s : ScriptParts) : Type 0 where
  pub unit : Code
  pub named : slice_get library s.unit ≡ Some unit
  pub script : FitsUnit unit s

-- both texts are there
pub record IsPair (p : Pair) : Type 0 where
  pub name : 0 < length p.name
  pub value : 0 < length p.value

-- names are in the order of their bytes
abbrev pub Ascend : List Pair → Type 0
Ascend [] = ⊤
Ascend (p ∷ []) = ⊤
Ascend (p ∷ q ∷ pairs) =
    (is_lt (slice_cmp nat_cmp (encode_utf8_all p.name) (encode_utf8_all q.name)) ≡ true) × Ascend (q ∷ pairs)

pub record IsStore (pairs : List Pair) : Type 0 where
  pub few : length pairs ≤ 65535
  pub each : AllByRecursion IsPair pairs
  pub ascend : Ascend pairs
  pub room : sum_by pair_bytes pairs ≤ most_store_bytes

pub record IsObject (library : List Code) (o : ObjectParts) : Type 0 where
  pub key : is_valid_key o.key ≡ true
  pub prims : length o.names ≤ 255
  pub count : length o.scripts ≤ 65535
  pub scripts : AllByRecursion (HasUnit library) o.scripts
  pub store : IsStore o.store

-- the object of a world
abbrev pub IsPlaced : List Code → Placed → Type 0
IsPlaced library p = IsObject library p.object

pub record IsWorld (library : List Code) (w : WorldParts) : Type 0 where
  pub clock : w.clock ≤ most_clock
  pub count : length w.objects ≤ 255
  pub objects : AllByRecursion (IsPlaced library) w.objects

abbrev pub unit_number : ScriptParts → ℕ
unit_number s = s.unit

-- what is known of an object before its image is read
abbrev pub shape_of : ObjectParts → Shape
shape_of o = record { key = o.key; prims = length o.names; units = map unit_number o.scripts }

abbrev pub placed_shape : Placed → Shape
placed_shape p = shape_of p.object

abbrev pub shapes_of : WorldParts → List Shape
shapes_of w = map placed_shape w.objects
