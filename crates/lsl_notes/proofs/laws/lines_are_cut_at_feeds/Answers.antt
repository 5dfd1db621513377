use Rattle.lsl_notes.proofs.Feeds.{cut-at-feeds}
use Rattle.lsl_notes.proofs.laws.lines_are_cut_at_feeds.Goals as goal

pub returns : goal.returns
returns c = cut-at-feeds
