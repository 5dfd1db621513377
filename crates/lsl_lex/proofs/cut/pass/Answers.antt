use Rattle.std.proofs.Common.{sym, ◌∙◌}
use Rattle.lsl_lex.proofs.Lines.{place_along}
use Rattle.lsl_lex.proofs.cut.pass.Goals as goal

pub returns-then-keeps_line-clause-place : goal.returns-then-keeps_line-clause-place
returns-then-keeps_line-clause-place c =
    let along = c.along-behind.ensures in
    let line = c.requires.line (sym c.keeps_line.ensures ∙ c.if-keeps_line.true) in
    place_along c.args.text.now c.args.cursor.now c.along-behind.result c.args.piece.now.length c.requires.place
    c.requires.within line along.offset along.line along.column
