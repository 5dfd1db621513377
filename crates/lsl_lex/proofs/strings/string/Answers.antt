use Rattle.std.proofs.Common.{◌-◌, length, take, drop}
use Rattle.std.proofs.lemmas.List.{take_rest}
use Rattle.lsl_lex.proofs.Escapes.{body_valid}
use Rattle.lsl_lex.proofs.strings.string.Goals as goal

pub body_text-requires-clause-valid : goal.body_text-requires-clause-valid
body_text-requires-clause-valid c =
    let text = c.args.text.now in
    let more = take (length text - 1) (drop 1 text) in
    body_valid text more c.in-Some.n c.requires.valid c.requires.quote (take_rest text 1) c.in-Some.ensures.count
