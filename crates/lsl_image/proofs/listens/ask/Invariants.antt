use Rattle.std.proofs.Common.{◌≡◌, false, map, take}
use Rattle.std.specs.List.{list_any}
use Rattle.lsl_post.specs.Filters.{same_filter}
use Rattle.lsl_post.specs.Listens.{filter_of}
use Rattle.lsl_image.proofs.listens.ask.Given as goal

-- none of the listens so far asks this
abbrev pub invariant-loop-listen : goal.invariant-loop-listen
invariant-loop-listen l = list_any (same_filter l.asked) (map filter_of (take l.listen-index l.listens)) ≡ false
