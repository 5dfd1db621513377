use Rattle.std.proofs.Common.{◌-◌, length, arith}
use Rattle.lsl_lines.proofs.LineLemmas.{last_return, no_return, no_byte}
use Rattle.lsl_lines.proofs.lines.without_return.Goals as goal
use Rattle.lsl_lines.proofs.lines.without_return.Goals.{else-size-gt0-via-then-size-gt0+else-line-size-eq13, else-size-gt0-via-else-size-gt0}

pub returns-then-line-size-eq13 : goal.returns-then-line-size-eq13
returns-then-line-size-eq13 c = last_return c.args.line.now (length c.args.line.now - 1) (omega arith)
    c.if-line-size-eq13.true

pub returns : goal.returns
returns c = elim c.else-size-gt0.branch [
  | else-size-gt0-via-then-size-gt0+else-line-size-eq13 w ↦ no_return c.args.line.now
      (length c.args.line.now - 1) (omega arith) w.if-line-size-eq13.false
  | else-size-gt0-via-else-size-gt0 w ↦ no_byte c.args.line.now (omega arith)
]
