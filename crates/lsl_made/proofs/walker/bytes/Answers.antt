use Rattle.std.proofs.Common.{◌++◌, ap, ◌∙◌}
use Rattle.lsl_made.specs.Walker.{walker_text}
use Rattle.lsl_made.proofs.walker.bytes.Goals as goal

pub returns : goal.returns
unfolding walker_text
returns c = c.in_ok-extend_from_slice.ensures.items ∙ ap (λ none. none ++ walker_text) c.new-bytes.ensures.items
