use Rattle.std.proofs.Common.{◌≡◌, ◌++◌, Some, arith}
use Rattle.std.proofs.lemmas.Bool.Decides.{Decides-eqb}
use Rattle.std.proofs.lemmas.Slice.Eq.{strip_prefix_is}
use Rattle.lsl_marks.proofs.LineEnds.{line_back}
use Rattle.lsl_marks.proofs.told.after_line.Goals as goal

pub returns-in-10 : goal.returns-in-10
returns-in-10 c =
    let e : c.args.journal.now ≡ c.args.line.now ++ c.in_ok-strip_prefix.field-0.now =
    strip_prefix_is Decides-eqb c.args.journal.now c.args.line.now (Some c.in_ok-strip_prefix.field-0)
    c.in_ok-strip_prefix.ensures.cases in
    line_back c.args.journal.now c.args.line.now c.in_ok-strip_prefix.field-0.now e (omega arith) (omega arith)
