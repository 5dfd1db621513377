use Rattle.std.proofs.Common.{◌≡◌, length}
use Rattle.std.specs.Prelude.{All}
use Rattle.lsl_post.specs.declared.events.Event.{Event}
use Rattle.lsl_region.specs.Crossings.{region_changed}
use Rattle.lsl_region.proofs.arrival.region_events.Given as goal

abbrev pub invariant-loop : goal.invariant-loop
invariant-loop l =
    (length l.events.items ≡ l.counter) × All (λ (e : Event). e ≡ region_changed) l.events.items
