use Rattle.lsl_lines.proofs.CutAgain.{cut_at_feeds, cut_at_both}
use Rattle.lsl_lines.proofs.laws.lines_are_cut_again.Goals as goal

pub returns : goal.returns
returns c = record { feed = cut_at_feeds; both = cut_at_both }
