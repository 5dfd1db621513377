use Rattle.lsl_lines.proofs.Texts.{text_of-text, text_of-no_text}
use Rattle.lsl_lines.proofs.words.text.Goals as goal

pub returns-in-Some : goal.returns-in-Some
returns-in-Some c = text_of-text c.args.bytes.now c.in-Some.text (rw c.in-Some.is at c.in_ok-text.ensures.ok)

pub returns-in-None : goal.returns-in-None
returns-in-None c = text_of-no_text c.args.bytes.now (rw c.in-None.is at c.in_ok-text.ensures.ok)
