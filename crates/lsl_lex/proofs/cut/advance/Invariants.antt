use Rattle.std.proofs.Common.{◌≡◌, ◌+◌}
use Rattle.lsl_text.specs.Place.{IsAt}
use Rattle.lsl_lex.proofs.cut.advance.Given as goal

abbrev pub invariant-steps : goal.invariant-steps
invariant-steps l = (l.cursor.offset ≡ l.fn.cursor.offset + l._step) × IsAt l.text l.cursor
