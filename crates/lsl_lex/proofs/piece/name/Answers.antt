use Rattle.lsl_lex.proofs.Scanned.{name_bytes}
use Rattle.lsl_lex.proofs.piece.name.Goals as goal

pub word_or_name-requires-clause-name : goal.word_or_name-requires-clause-name
word_or_name-requires-clause-name c = name_bytes c.args.text.now c.name_length-length.result
    c.name_length-length.ensures.count
