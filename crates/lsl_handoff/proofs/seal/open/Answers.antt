use Rattle.std.proofs.Common.{◌∙◌, ap, refl, sym}
use Rattle.std.specs.Int.{w64, from_be_bytes}
use Rattle.lsl_handoff.proofs.OuterLemmas.{not-false, not-true, outer-digest}
use Rattle.lsl_handoff.proofs.seal.open.Goals as goal

pub returns-then-ne : goal.returns-then-ne
returns-then-ne c next = outer-digest c.args.bytes.now c.digest_of-found.result c.part_at-wanted.result
    c.from_be_bytes-wanted.result _ c.if-bytes-lt-LEAST_BYTES.false
    (c.from_be_bytes-wanted.ensures ∙ ap (from_be_bytes w64) c.part_at.ensures) c.if-wanted-bytes.false
    c.digest_of-found.ensures c.part_at-wanted.ensures
    (not-true _ (sym c.ne.ensures ∙ c.if-ne.true)) next

pub returns : goal.returns
returns c = (
  refl,
  c.if-bytes-lt-LEAST_BYTES.false,
  λ next. outer-digest c.args.bytes.now c.digest_of-found.result c.part_at-wanted.result
      c.from_be_bytes-wanted.result _ c.if-bytes-lt-LEAST_BYTES.false
      (c.from_be_bytes-wanted.ensures ∙ ap (from_be_bytes w64) c.part_at.ensures) c.if-wanted-bytes.false
      c.digest_of-found.ensures
      c.part_at-wanted.ensures (not-false _ (sym c.ne.ensures ∙ c.if-ne.false)) next,
)
