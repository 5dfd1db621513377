use Rattle.std.proofs.Common.{◌≡◌, ◌∙◌, length, sym, ap, inl, inr, ne_eqb}
use Rattle.std.proofs.lemmas.Bool.{cases_eq, false≢true}
use Rattle.std.specs.Result.{is_ok}
use Rattle.lsl_value.proofs.KeyLemmas.{valid-other, valid-read}
use Rattle.lsl_image.proofs.write_body.write_key.Goals as goal

pub unreachable-requires : goal.unreachable-requires
unreachable-requires c =
    let size : length c.as_str.result.now ≡ 36 = elim (cases_eq (length c.as_str.result.now) 36) [
      | inl same ↦ same
      | inr other ↦ absurd (false≢true (sym (ne_eqb (length c.as_str.result.now) 36 other)
          ∙ valid-other c.args.key.now c.as_str.result.now c.as_str.ensures.value other ∙ c.requires))
    ] in
    false≢true (ap is_ok (sym c.in-Err.is) ∙ valid-read c.args.key.now c.as_str.result.now c.try_parse.result
    c.as_str.ensures.valid.scalars c.as_str.ensures.value size c.try_parse.ensures.ok ∙ c.requires)
