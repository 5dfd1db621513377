use Rattle.std.proofs.Common.{refl, arith, [], ◌∷◌}
use Rattle.lsl_bytes.specs.Fields.{u8_bytes, u16_bytes, u64_bytes}
use Rattle.lsl_image.specs.Examples.{empty_world, world_bytes}
use Rattle.lsl_image.specs.Spelling.{Spells}
use Rattle.lsl_image.specs.Layout.{◌>>=◌, each_behind, field, field_that, here}
use Rattle.lsl_image.specs.Object.{ends_at, head, known_version}
use Rattle.lsl_image.specs.World.{world}
use Rattle.lsl_image.proofs.examples.world_without_objects.Goals as goal

first : Spells (world [] [] 23) 0 empty_world (world_bytes 1)
unfolding u8_bytes u16_bytes u64_bytes world head field field_that here known_version ends_at ◌>>=◌ each_behind
first = (
  76 ∷ 83 ∷ 76 ∷ 87 ∷ [],
  _,
  refl,
  refl,
  (
    1,
    _,
    omega arith,
    refl,
    (
      55,
      _,
      omega
          arith,
      refl,
      (1, _, omega arith, refl, (0, _, omega arith, refl, (refl, refl))),
    ),
  ),
)

second : Spells (world [] [] 23) 0 empty_world (world_bytes 2)
unfolding u8_bytes u16_bytes u64_bytes world head field field_that here known_version ends_at ◌>>=◌ each_behind
second = (
  76 ∷ 83 ∷ 76 ∷ 87 ∷ [],
  _,
  refl,
  refl,
  (
    2,
    _,
    omega arith,
    refl,
    (
      55,
      _,
      omega
          arith,
      refl,
      (1, _, omega arith, refl, (0, _, omega arith, refl, (refl, refl))),
    ),
  ),
)

pub returns : goal.returns
returns c = record { first = first; second = second }
