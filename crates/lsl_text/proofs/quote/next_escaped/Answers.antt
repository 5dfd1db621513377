use Rattle.lsl_text.proofs.Plain.{found}
use Rattle.lsl_text.proofs.quote.next_escaped.Goals as goal

pub returns : goal.returns
returns c = found c.args.text.now c.memchr3.result c.memchr3.ensures
