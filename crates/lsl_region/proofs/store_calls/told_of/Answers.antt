use Rattle.std.proofs.Common.{◌∙◌, Some, ap, pos}
use Rattle.lsl_post.specs.declared.events.Event.{Event}
use Rattle.lsl_region.specs.Stores.{store_event}
use Rattle.lsl_region.proofs.store_calls.told_of.Goals as goal

pub returns-in_ok-store_event-in-Stored : goal.returns-in_ok-store_event-in-Stored
returns-in_ok-store_event-in-Stored c =
    rw c.in-Stored.is (ap (λ (e : Event). Some e) c.in_ok-store_event-in-Stored.ensures)

pub returns-in_ok-store_event-in-Deleted : goal.returns-in_ok-store_event-in-Deleted
returns-in_ok-store_event-in-Deleted c =
    rw c.in-Deleted.is (ap (λ (e : Event). Some e)
    (c.in_ok-store_event-in-Deleted.ensures ∙ ap (store_event (pos 2) c.args.name) c.new.ensures))
