use Rattle.std.proofs.Common.{◌≢◌, refl}
use Rattle.lsl_value.specs.declared.names.EventId.{EventId}
use Rattle.lsl_value.specs.declared.names.EventId.TheVariants as event
use Rattle.lsl_region.specs.Arrivals.{IsObjectEvent}
use Rattle.lsl_region.proofs.outside_events.object_event.Goals as goal

none-left : (id : EventId) → IsObjectEvent id → id ≢ event.Changed → id ≢ event.OnRez → ⊥
none-left event.Changed is a b = a refl
none-left event.OnRez is a b = b refl
none-left id is a b = is

pub unreachable-requires : goal.unreachable-requires
unreachable-requires c = none-left c.args.id c.requires c.in_default.not-Changed c.in_default.not-OnRez
