use Rattle.std.proofs.Common.{◌∙◌, ap, List}
use Rattle.lsl_code.specs.declared.frames.Frame.{Frame}
use Rattle.lsl_code.specs.Sacks.{values_of}
use Rattle.lsl_code.proofs.OnStack.{sack_values}
use Rattle.lsl_code.proofs.sacks.Sack.into_stack.Goals as goal

pub returns : goal.returns
returns c =
    sack_values c.self.inside.top c.self.inside.outer.items c.self.inside.values.items c.self.invariant
    ∙ ap (λ (fs : List Frame). values_of fs) c.self.view_is
