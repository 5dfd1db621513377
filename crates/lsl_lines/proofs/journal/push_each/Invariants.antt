use Rattle.std.proofs.Common.{◌≡◌, ◌++◌, take}
use Rattle.lsl_lines.specs.Journal.{lines_of}
use Rattle.lsl_lines.proofs.journal.push_each.Given as goal

abbrev pub invariant-entries : goal.invariant-entries
invariant-entries l = l.out.items ≡ l.fn.out.items ++ lines_of (take l.entry-index l.entries)
