use Rattle.std.proofs.Common.{◌≡◌, drop, length}
use Rattle.std.specs.List.{prefix_len}
use Rattle.lsl_text.specs.Number.{is_blank}
use Rattle.lsl_text.proofs.number.behind_blanks.Given as goal

abbrev pub invariant-blanks : goal.invariant-blanks
invariant-blanks l = drop (prefix_len is_blank l.rest) l.rest ≡ drop (prefix_len is_blank l.text) l.text

abbrev pub decreases-blanks : goal.decreases-blanks
decreases-blanks l = length l.rest
