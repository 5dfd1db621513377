use Rattle.std.proofs.Common.{◌≡◌, ◌∙◌, FitsSigned, w32, w64, rules, arith, ap, length, ◌++◌}
use Rattle.std.proofs.lemmas.Int.{ints, to_z-of_z}
use Rattle.std.proofs.lemmas.List.{take_rest}
use Rattle.lsl_pure.proofs.ByteLemmas.{length-inserted, inserted-spelled, inserted-scalars, IsUtf8-spelled, chars-spelled}
use Rattle.lsl_pure.specs.Cuts.{inserted}
use Rattle.lsl_pure.specs.Places.{clamped}
use Rattle.lsl_pure.proofs.cuts.insert_string.Goals as goal

pub returns-then-charge-more-gt-MOST_CHARGE-clause-too_big : goal.returns-then-charge-more-gt-MOST_CHARGE-clause-too_big
returns-then-charge-more-gt-MOST_CHARGE-clause-too_big c = λ _.
    omega (
      arith,
      c.if-charge-more-gt-MOST_CHARGE.true,
      c.charge.ensures.value,
      ap length
          c.bytes-more.ensures.value,
      length-inserted (clamped (length c.args.text.now) c.args.place)
          c.args.text.now c.args.other.now,
    )

pub text_of-requires-clause-valid : goal.text_of-requires-clause-valid
text_of-requires-clause-valid c =
    IsUtf8-spelled _ (inserted c.args.text.now c.clamp.result c.args.other.now)
    (inserted-spelled c.args.text.now c.args.other.now c.bytes-bytes.result.now c.bytes-more.result.now _ _ _ _
    c.clamp.result c.offset-at.result c.bytes-bytes.ensures.value c.bytes-more.ensures.value
    c.offset-at.ensures.value
    c.in_ok-out.ensures.items c.in_ok-extend_from_slice.ensures.items c.in_ok-extend_from_slice-2.ensures.items
    (c.in_ok-extend_from_slice-3.ensures.items
    ∙ ap (λ t. c.extend_from_slice-2.new.self.items ++ t)
    (take_rest c.bytes-bytes.result.now c.offset-at.result)))
    (inserted-scalars c.clamp.result c.args.text.now c.args.other.now c.bytes-bytes.ensures.valid.scalars
    c.bytes-more.ensures.valid.scalars)

pub returns-clause-ok : goal.returns-clause-ok
returns-clause-ok c =
    let fits : FitsSigned w64 c.from.result = search rules in
    let whole : FitsSigned w32 c.args.place = c.ranges.place in
    let is : c.from.result ≡ c.args.place = omega (arith, ints, c.from.ensures) in
    let k : c.clamp.result ≡ clamped (length c.args.text.now) c.args.place =
    c.clamp.ensures.value ∙ ap (clamped c.character_count.result) (to_z-of_z w64 c.from.result fits ∙ is)
    ∙ ap (λ n. clamped n c.args.place) c.character_count.ensures.value in
    c.in_ok-text_of.ensures
    ∙ chars-spelled _ (inserted c.args.text.now c.clamp.result c.args.other.now)
    (inserted-spelled c.args.text.now c.args.other.now c.bytes-bytes.result.now c.bytes-more.result.now _ _ _ _
    c.clamp.result c.offset-at.result c.bytes-bytes.ensures.value c.bytes-more.ensures.value
    c.offset-at.ensures.value
    c.in_ok-out.ensures.items c.in_ok-extend_from_slice.ensures.items c.in_ok-extend_from_slice-2.ensures.items
    (c.in_ok-extend_from_slice-3.ensures.items
    ∙ ap (λ t. c.extend_from_slice-2.new.self.items ++ t)
    (take_rest c.bytes-bytes.result.now c.offset-at.result)))
    (inserted-scalars c.clamp.result c.args.text.now c.args.other.now c.bytes-bytes.ensures.valid.scalars
    c.bytes-more.ensures.valid.scalars)
    ∙ ap (λ n. inserted c.args.text.now n c.args.other.now) k
