use Rattle.std.proofs.Common.{◌≡◌, ◌+◌, length}
use Rattle.std.specs.Option.{option_map}
use Rattle.lsl_pure.specs.Searches.{first_place}
use Rattle.lsl_pure.proofs.searching.find.Given as goal

abbrev pub invariant-places : goal.invariant-places
invariant-places g l =
    (l.at + length l.rest ≡ length l.list)
    × (option_map (λ k. l.at + k) (first_place g.T.PartialEq.eq l.rest l.sought)
    ≡ first_place g.T.PartialEq.eq l.list l.sought)

abbrev pub decreases-places : goal.decreases-places
decreases-places g l = length l.rest
