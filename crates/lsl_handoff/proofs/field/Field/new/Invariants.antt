use Rattle.std.proofs.Common.{◌≡◌, map, take}
use Rattle.lsl_handoff.specs.Fields.{cards_at_start}
use Rattle.lsl_handoff.proofs.field.Field.new.Given as goal

-- this many objects have their cards
abbrev pub invariant-loop-home : goal.invariant-loop-home
invariant-loop-home l = l.objects.items ≡ map (cards_at_start l.regions) (take l.home-index l.homes)
