use Rattle.std.proofs.Common.{◌∙◌, None, Some, ap, pos, subst, sym}
use Rattle.lsl_image.specs.Valid.{IsStore}
use Rattle.lsl_post.specs.declared.events.Event.{Event}
use Rattle.lsl_data.proofs.Keeping.{store-none}
use Rattle.lsl_region.specs.declared.store_calls.Change.{Change}
use Rattle.lsl_region.specs.Stores.{store_event}
use Rattle.lsl_region.proofs.store_calls.emptied.Goals as goal

pub returns-in_err-told-clause-kept : goal.returns-in_err-told-clause-kept
returns-in_err-told-clause-kept c = subst IsStore (sym c.reset.ensures) store-none

pub returns-clause-kept : goal.returns-clause-kept
returns-clause-kept c = subst IsStore (sym c.reset.ensures) store-none

pub returns-clause-change : goal.returns-clause-change
returns-clause-change c =
    ap {A = Event} {B = Change} (λ event. record { answer = None; told = Some event })
    (c.in_ok-told.ensures ∙ (λ i. store_event (pos 0) (c.new.ensures i) (c.new-2.ensures i)))
