use Rattle.std.proofs.Common.{◌∙◌, List, ◌++◌, ap, subst}
use Rattle.lsl_lines.specs.Journal.{lines_of}
use Rattle.lsl_post.specs.declared.entries.Entry.{Entry}
use Rattle.lsl_world.specs.Reports.{homes}
use Rattle.lsl_top.specs.Ports.{Writes, log}
use Rattle.lsl_top.proofs.report.write_homes.Goals as goal

pub returns-clause-of : goal.returns-clause-of
returns-clause-of g c = λ programs w is.
    let entries = c.as_slice.ensures ∙ c.in_ok-homes.ensures programs w is
    ∙ ap (λ (es : List Entry). es ++ homes w) c.new-entries.ensures in
    subst (λ (es : List Entry). Writes (lines_of es) (log (g.K.Sink.sunk c.args.sink.now)
    (g.K.Sink.faults c.args.sink.now))
    (log (g.K.Sink.sunk c.write_entries.new.sink) (g.K.Sink.faults c.write_entries.new.sink)) c.write_entries.result)
    entries c.write_entries.ensures
