-- The layout of a world's image.
use Rattle.std.specs.Prelude.{ℕ, ◌==◌, nat_le, List, length, codes}
use Rattle.lsl_code.specs.declared.woven_units.Woven.{Woven as Code}
use Rattle.lsl_image.specs.declared.parts.Placed.{Placed}
use Rattle.lsl_image.specs.declared.parts.Shape.{Shape}
use Rattle.lsl_image.specs.declared.parts.WorldParts.{WorldParts}
use Rattle.lsl_image.specs.Layout.{Layout, Ends, U8, U64, TextForm, ◌>>=◌, each, field, field_that}
use Rattle.lsl_image.specs.Object.{body, ends_at, head}

-- the greatest reading of the clock, in milliseconds
abbrev pub most_clock : ℕ
most_clock = 2147483647999

-- an object with its region
unfoldable pub placed : ℕ → List Code → Shape → Layout Placed
placed version library shape = do
  region ← field TextForm
  object ← body version shape library
  Ends (record { region = region; object = object })

unfoldable pub world : List Shape → List Code → ℕ → Layout WorldParts
world shapes library end = do
  version ← head (codes "LSLW")
  clock ← field_that U64 (λ n. nat_le n most_clock)
  count ← field_that U8 (λ n. n == length shapes)
  objects ← each (placed version library) shapes
  last ← ends_at end
  Ends (record { clock = clock; objects = objects })
