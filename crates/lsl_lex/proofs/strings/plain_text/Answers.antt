use Rattle.std.proofs.lemmas.Str.{chars_from_encodes}
use Rattle.lsl_lex.proofs.strings.plain_text.Goals as goal

pub returns : goal.returns
returns c =
    let found = rw c.in-Some.is at c.in_ok-text.ensures.ok in
    chars_from_encodes c.in-Some.text c.args.bytes.now c.requires.valid found.spelled
