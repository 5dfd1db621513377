-- The layout of an object's image.
use Rattle.std.specs.Prelude.{ℕ, ◌+◌, ◌==◌, Bool, true, false, ◌&&◌, nat_le, nat_lt, if◌then◌else◌, List, [], ◌∷◌, ◌++◌, length, Option, Some, None, slice_get, codes, sum_by}
use Rattle.std.specs.Cmp.Lexicographic.{slice_cmp}
use Rattle.std.specs.Ordering.{is_lt, nat_cmp}
use Rattle.std.specs.Str.{bytes_eq, encode_utf8_all}
use Rattle.uuid.specs.Text.{parsed}
use Rattle.lsl_code.specs.declared.woven_units.Woven.{Woven as Code}
use Rattle.lsl_post.specs.declared.parts.Pair.{Pair}
use Rattle.lsl_post.specs.declared.parts.ScriptParts.{ScriptParts}
use Rattle.lsl_image.specs.declared.faults.ImageFault.TheVariants.{Body, Version}
use Rattle.lsl_image.specs.declared.parts.ObjectParts.{ObjectParts}
use Rattle.lsl_image.specs.declared.parts.Shape.{Shape}
use Rattle.lsl_image.specs.Layout.{Layout, Bytes, Ends, Refused, U8, U16, U64, TextForm, ◌>>=◌, each, field, field_that, grown, here, repeated, tested}
use Rattle.lsl_image.specs.Rest.{script}

-- the 16 bytes of a key as a UUID
abbrev pub key_bytes : List ℕ → Option (List ℕ)
key_bytes key = parsed (encode_utf8_all key)

-- these bytes, and no others
abbrev pub are_these : Option (List ℕ) → List ℕ → Bool
are_these None found = false
are_these (Some bytes) found = bytes_eq found bytes

abbrev pub is_above : List ℕ → List Pair → Bool
is_above name [] = true
is_above name (last ∷ []) = is_lt (slice_cmp nat_cmp (encode_utf8_all last.name) (encode_utf8_all name))
is_above name (first ∷ next ∷ pairs) = is_above name (next ∷ pairs)

abbrev pub pair_bytes : Pair → ℕ
pair_bytes p = length (encode_utf8_all p.name) + length (encode_utf8_all p.value)

-- how many bytes the texts of a store have at most
abbrev pub most_store_bytes : ℕ
most_store_bytes = 65536

abbrev pub finds_room : List Pair → Bool
finds_room pairs = nat_le (sum_by pair_bytes pairs) most_store_bytes

abbrev pub pair : List ℕ → List ℕ → Pair
pair name value = record { name = name; value = value }

-- a pair after these: both texts are there, the name is above the last one, and all the texts fit
unfoldable pub pair_behind : List Pair → Layout Pair
pair_behind before = do
  place ← here
  name ← field TextForm
  named ← tested (nat_lt 0 (length name) && is_above name before) place name
  value ← field TextForm
  tested (nat_lt 0 (length value) && finds_room (before ++ pair name value ∷ [])) place (pair name value)

-- version 1 has no store
unfoldable pub store : ℕ → Layout (List Pair)
store version = if version == 1 then Ends [] else (field U16 >>= λ count. grown count pair_behind [])

abbrev pub script_of : ℕ → ℕ → Option Code → Layout ScriptParts
script_of version number None = here >>= λ place. Refused (Body place)
script_of version number (Some unit) = script version number unit

-- an object's own part of an image
unfoldable pub body : ℕ → Shape → List Code → Layout ObjectParts
body version shape library = do
  key ← field_that (Bytes 16) (are_these (key_bytes shape.key))
  prims ← field_that U8 (λ n. n == shape.prims)
  names ← repeated shape.prims (field TextForm)
  count ← field_that U16 (λ n. n == length shape.units)
  scripts ← each (λ number. script_of version number (slice_get library number)) shape.units
  pairs ← store version
  Ends (record { key = shape.key; names = names; scripts = scripts; store = pairs })

-- a known version
unfoldable pub known_version : Layout ℕ
known_version = do
  version ← field U16
  if nat_le 1 version && nat_le version 2 then Ends version else Refused (Version version)

-- what an image begins with: its letters, its version and its size
unfoldable pub head : List ℕ → Layout ℕ
head letters = do
  magic ← field_that (Bytes 4) (λ found. bytes_eq found letters)
  version ← known_version
  size ← field U64
  Ends version

-- version 2 names the region that sends the object
unfoldable pub sender : ℕ → List ℕ → Layout (List ℕ)
sender version region = if version == 1 then Ends region else field_that TextForm (λ found. bytes_eq found region)

-- the fields end here, where the digest begins
unfoldable pub ends_at : ℕ → Layout ℕ
ends_at end = here >>= λ place. tested (place == end) place place

unfoldable pub object : List ℕ → Shape → List Code → ℕ → Layout ObjectParts
object region shape library end = do
  version ← head (codes "LSLO")
  from ← sender version region
  parts ← body version shape library
  last ← ends_at end
  Ends parts
