use Rattle.std.proofs.Common.{refl, arith, lit≤, [], ◌∷◌}
use Rattle.std.specs.Char.{encode_utf8}
use Rattle.std.specs.Prelude.{codes}
use Rattle.uuid.proofs.OnLiterals.{uuid_on_literals}
use Rattle.lsl_value.specs.Text.{IsText}
use Rattle.lsl_bytes.specs.Fields.{counted_bytes, text_bytes, u8_bytes, u16_bytes, u32_bytes, u64_bytes}
use Rattle.lsl_image.specs.Layout.{◌>>=◌, each_behind, field, field_that, grown, here}
use Rattle.lsl_image.specs.Object.{body, ends_at, head, known_version, object, sender, store}
use Rattle.lsl_image.proofs.examples.object_without_scripts.Goals as goal

region-text : IsText (codes "A")
unfolding encode_utf8
region-text = record { scalars = refl; within = lit≤ tt }

name-text : IsText (codes "b")
unfolding encode_utf8
name-text = record { scalars = refl; within = lit≤ tt }

pub returns : goal.returns
unfolding encode_utf8 counted_bytes text_bytes u8_bytes u16_bytes u32_bytes u64_bytes object head sender body
    known_version ends_at uuid_on_literals store field field_that here ◌>>=◌ grown each_behind
returns c = (
  76 ∷ 83 ∷ 76 ∷ 79 ∷ [],
  _,
  refl,
  refl,
  (
    2,
    _,
    omega arith,
    refl,
    (
      77,
      _,
      omega arith,
      refl,
      (
        codes "A",
        _,
        region-text,
        refl,
        (
          0 ∷ 0 ∷ 0 ∷ 0 ∷ 0 ∷ 0 ∷ 0 ∷ 0 ∷ 0 ∷ 0 ∷ 0 ∷ 0 ∷ 0 ∷ 0 ∷ 1 ∷ 171 ∷ [],
          _,
          refl,
          refl,
          (
            1,
            _,
            omega arith,
            refl,
            (
              codes "b",
              _,
              name-text,
              refl,
              (
                0,
                _,
                omega arith,
                refl,
                (
                  0,
                  _,
                  omega arith,
                  refl,
                  (refl, refl),
                ),
              ),
            ),
          ),
        ),
      ),
    ),
  ),
)
