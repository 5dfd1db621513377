use Rattle.std.proofs.Common.{◌≡◌, false, map, take}
use Rattle.std.specs.List.{list_any}
use Rattle.std.specs.Ordering.{int_eq}
use Rattle.lsl_post.specs.Listens.{number_of}
use Rattle.lsl_image.proofs.listens.has_number.Given as goal

-- none of the listens so far has the number
abbrev pub invariant-loop-listen : goal.invariant-loop-listen
invariant-loop-listen l = list_any (int_eq l.number) (map number_of (take l.listen-index l.listens)) ≡ false
