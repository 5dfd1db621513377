use Rattle.lsl_bytes.proofs.TextLemmas.{text-found, text-no_bytes, text-no_text}
use Rattle.lsl_bytes.proofs.texts.take_text.Goals as goal

pub returns-in_default : goal.returns-in_default
returns-in_default c = text-no_bytes c.args.bytes.now c.args.place c.in_default.ensures

pub returns-in_default-2 : goal.returns-in_default-2
returns-in_default-2 c = text-no_text c.args.bytes.now c.in-Some.part.now c.args.place c.in-Some.next
    c.in-Some.ensures (rw c.in_default-2.is at c.in_ok-text.ensures.ok)

pub returns : goal.returns
returns c = text-found c.args.bytes.now c.in-Some.part.now c.in-Some-2.text c.args.place c.in-Some.next
    c.in-Some.ensures (rw c.in-Some-2.is at c.in_ok-text.ensures.ok)
