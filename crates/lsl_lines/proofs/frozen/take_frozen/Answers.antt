use Rattle.std.proofs.Common.{ap, sym, ◌∙◌, drop}
use Rattle.lsl_lines.specs.Frozen.{IsFrozen}
use Rattle.lsl_lines.proofs.FrozenLemmas.{frozen_line_is, refused_of}
use Rattle.lsl_lines.proofs.frozen.take_frozen.Goals as goal

pub returns-in-Some-clause-refused : goal.returns-in-Some-clause-refused
returns-in-Some-clause-refused c =
    refused_of _ c.bytes_of.result (IsFrozen c.args.text.now)
    (λ bytes f. c.bytes_of.ensures.every bytes f.fits
    (ap (drop 7) (sym f.line ∙ sym c.last_line.ensures ∙ c.in-Some.ensures)))
    (frozen_line_is c.args.text.now) c.bytes_of.ensures.kind
