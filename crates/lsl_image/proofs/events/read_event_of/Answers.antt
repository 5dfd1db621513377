use Rattle.std.proofs.Common.{◌∙◌}
use Rattle.lsl_image.proofs.EventLemmas.{event-fits, event-given, event-no_args, event-no_toucher}
use Rattle.lsl_image.proofs.events.read_event_of.Goals as goal

pub returns-in_err-args : goal.returns-in_err-args
returns-in_err-args c =
    event-no_args c.args.bytes.now c.args.id _ (c.as_slice.ensures.value ∙ c.signature.ensures) c.args.place _ _
    c.in_err-args.ensures c.from_residual.ensures.1

pub returns-in_err-toucher : goal.returns-in_err-toucher
returns-in_err-toucher c =
    event-no_toucher c.args.bytes.now c.args.id _ (c.as_slice.ensures.value ∙ c.signature.ensures) c.args.place
    c.in_ok-args.args c.in_ok-args.next c.in_ok-args.ensures _ _ c.in_err-toucher.ensures
    c.from_residual-in_err-toucher.ensures.1

pub invariant_of-event : goal.invariant_of-event
invariant_of-event c = record {
  fits = event-fits c.args.bytes.now c.args.id _ (c.as_slice.ensures.value ∙ c.signature.ensures) c.args.place
      c.in_ok-args.args c.in_ok-args.next c.in_ok-args.ensures;
}

pub returns : goal.returns
returns c =
    event-given c.args.bytes.now c.args.id _ (c.as_slice.ensures.value ∙ c.signature.ensures) c.args.place
    c.in_ok-args.args c.in_ok-args.next c.in_ok-args.ensures c.in_ok-toucher.toucher c.in_ok-toucher.next _
    c.in_ok-toucher.ensures
