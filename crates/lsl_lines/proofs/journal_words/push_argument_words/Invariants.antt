use Rattle.std.proofs.Common.{◌≡◌, ◌++◌, map, take}
use Rattle.std.specs.List.{flat_map}
use Rattle.lsl_lines.specs.Journal.{argument_word, spaced}
use Rattle.lsl_lines.proofs.journal_words.push_argument_words.Given as goal

abbrev pub invariant-values : goal.invariant-values
invariant-values l = l.out.items ≡ l.fn.out.items ++ flat_map spaced (map argument_word (take l.value-index l.args))
