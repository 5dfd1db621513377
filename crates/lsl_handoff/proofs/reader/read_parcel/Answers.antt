use Rattle.std.proofs.Common.{◌≡◌, ◌∙◌, sym, subst}
use Rattle.std.proofs.lemmas.List.{take_rest}
use Rattle.lsl_handoff.specs.declared.note.NoteKind.{NoteKind}
use Rattle.lsl_handoff.specs.NoteFaults.{end_fault}
use Rattle.lsl_handoff.specs.Reading.{parcel_in}
use Rattle.lsl_handoff.proofs.OuterLemmas.{ends-none}
use Rattle.lsl_handoff.proofs.reader.read_parcel.Goals as goal

pub returns-in_ok-from_slice-in-Offer : goal.returns-in_ok-from_slice-in-Offer
returns-in_ok-from_slice-in-Offer c = (
  ends-none c.ends_well.result (end_fault c.args.kind c.args.fields.now) c.ends_well.ensures c.if-not-ends_well.false,
  subst (λ (kind : NoteKind). c.from_vec.result ≡ parcel_in kind c.args.fields.now) (sym c.in-Offer.is)
      (c.from_vec.ensures ∙ c.in_ok-from_slice-in-Offer.ensures.items ∙ take_rest c.args.fields.now 43),
)
