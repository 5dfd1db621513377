use Rattle.std.proofs.Common.{◌∙◌, ◌++◌, ap, ℕ, List}
use Rattle.sha2.specs.Sha256.{sha256}
use Rattle.lsl_handoff.proofs.OuterLemmas.{written-whole}
use Rattle.lsl_handoff.proofs.writer.write_note.Goals as goal

pub returns : goal.returns
returns c = written-whole c.args.note.now c.in_ok-out.out.items c.write_head.new.out.items c.write_fields.new.out.items
    c.digest_of-digest.result c.extend_from_slice.new.self.items c.size_of-size.result c.in_ok-out.ensures.items
    c.size_of-size.ensures c.in_ok-write_head.ensures c.in_ok-write_fields.ensures
    (c.digest_of-digest.ensures ∙ ap sha256 c.as_slice.ensures.value)
    (c.in_ok-extend_from_slice.ensures.items
    ∙ ap (λ (t : List ℕ). c.write_fields.new.out.items ++ t) c.as_slice-2.ensures)
