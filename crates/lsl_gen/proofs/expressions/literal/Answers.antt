use Rattle.std.proofs.Common.{sym, ap, ◌∙◌}
use Rattle.lsl_table.specs.Constants.{value_of_constant}
use Rattle.lsl_gen.proofs.Ascii.{constant_ascii}
use Rattle.lsl_gen.proofs.expressions.literal.Goals as goal

pub ascii_text-requires-clause-ascii : goal.ascii_text-requires-clause-ascii
ascii_text-requires-clause-ascii c = constant_ascii c.args.id _
    (sym c.constant_value.ensures ∙ ap value_of_constant c.in-Str.is)
