use Rattle.std.proofs.Common.{◌∙◌, sym, subst, List, Err}
use Rattle.lsl_value.specs.declared.tagged.Kind.{Kind}
use Rattle.lsl_image.specs.Layout.{values_of}
use Rattle.lsl_image.specs.Reading.{Gives, Reads}
use Rattle.lsl_image.specs.Rest.{frame_in}
use Rattle.lsl_image.proofs.FrameLemmas.{frame-no_point, frame-refused, frame-slots}
use Rattle.lsl_image.proofs.LeadingLemmas.{leads-all, leads-ends, leads-exits, leads-here, leads-then}
use Rattle.lsl_image.proofs.frames.read_frame.Goals as goal

pub returns-in_err-function-clause-reads : goal.returns-in_err-function-clause-reads
unfolding frame_in
returns-in_err-function-clause-reads c =
    leads-exits _ _ _ _ (leads-all c.args.bytes.now
    (frame_in c.args.unit.now c.args.handler c.args.more c.args.callee) c.args.place)
    c.in_err-function.ensures c.from_residual.ensures.1

pub returns-in_err-number-clause-reads : goal.returns-in_err-number-clause-reads
unfolding frame_in
returns-in_err-number-clause-reads c =
    leads-exits _ _ _ _ (leads-here _ (leads-then _ _
    (leads-all c.args.bytes.now (frame_in c.args.unit.now c.args.handler c.args.more c.args.callee)
    c.args.place) c.in_ok-function.ensures)) c.in_err-number.ensures c.from_residual-in_err-number.ensures.1

pub returns-in_default-clause-reads : goal.returns-in_default-clause-reads
unfolding frame_in
returns-in_default-clause-reads c =
    let leads = leads-then _ _ (leads-here _
    (leads-then _ _ (leads-all c.args.bytes.now
    (frame_in c.args.unit.now c.args.handler c.args.more c.args.callee) c.args.place)
    c.in_ok-function.ensures)) c.in_ok-number.ensures in
    rw c.wrong.ensures (frame-no_point c.args.bytes.now c.in_ok-function.middle c.in_ok-function.function
    c.in_ok-number.number c.args.callee _ _ _ _ leads c.in_default.ensures)

pub returns-then-not-same_callee-clause-reads : goal.returns-then-not-same_callee-clause-reads
unfolding frame_in
returns-then-not-same_callee-clause-reads c =
    let leads = leads-then _ _ (leads-here _
    (leads-then _ _ (leads-all c.args.bytes.now
    (frame_in c.args.unit.now c.args.handler c.args.more c.args.callee) c.args.place)
    c.in_ok-function.ensures)) c.in_ok-number.ensures in
    rw c.wrong-then-not-same_callee.ensures
    (frame-refused c.args.bytes.now c.in_ok-function.middle c.in_ok-function.function c.in_ok-number.number
    c.args.callee _ _ _ _ leads c.in-Some.point.now c.in-Some.ensures
    (sym c.same_callee.ensures ∙ c.if-not-same_callee.true))

pub returns-in_err-slots-clause-reads : goal.returns-in_err-slots-clause-reads
unfolding frame_in
returns-in_err-slots-clause-reads c =
    let leads = leads-then _ _ (leads-here _
    (leads-then _ _ (leads-all c.args.bytes.now
    (frame_in c.args.unit.now c.args.handler c.args.more c.args.callee) c.args.place)
    c.in_ok-function.ensures)) c.in_ok-number.ensures in
    let slots = frame-slots c.args.bytes.now c.in_ok-function.middle c.in_ok-function.function
    c.in_ok-number.number c.args.callee _ _ _ _ leads c.in-Some.point.now c.in-Some.ensures
    (sym c.same_callee.ensures ∙ c.if-not-same_callee.false) in
    leads-exits _ _ _ _ slots (subst (λ (ks : List Kind).
    Reads c.args.bytes.now (values_of ks) c.in_ok-number.behind (Err c.in_err-slots.field-0.0))
    c.as_slice.ensures c.in_err-slots.ensures.reads) c.from_residual-in_err-slots.ensures.1

pub returns-clause-reads : goal.returns-clause-reads
unfolding frame_in
returns-clause-reads c =
    let leads = leads-then _ _ (leads-here _
    (leads-then _ _ (leads-all c.args.bytes.now
    (frame_in c.args.unit.now c.args.handler c.args.more c.args.callee) c.args.place)
    c.in_ok-function.ensures)) c.in_ok-number.ensures in
    let slots = frame-slots c.args.bytes.now c.in_ok-function.middle c.in_ok-function.function
    c.in_ok-number.number c.args.callee _ _ _ _ leads c.in-Some.point.now c.in-Some.ensures
    (sym c.same_callee.ensures ∙ c.if-not-same_callee.false) in
    leads-ends (leads-then _ _ slots (subst
    (λ (ks : List Kind). Gives c.args.bytes.now (values_of ks) c.in_ok-number.behind c.in_ok-slots.slots
    c.in_ok-slots.next) c.as_slice.ensures c.in_ok-slots.ensures.reads))
