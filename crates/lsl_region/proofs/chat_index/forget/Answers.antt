use Rattle.std.proofs.Common.{◌∙◌, List, ap, subst, sym}
use Rattle.lsl_region.specs.declared.chat_index.ChannelEntry.{ChannelEntry}
use Rattle.lsl_region.specs.Table.{BelongsAt, IsOrdered, StandsAt, has_entry, heard_order}
use Rattle.lsl_region.proofs.Ordered.{member-remove, sorted-remove}
use Rattle.lsl_region.proofs.Table.{none-forgotten, order-total}
use Rattle.lsl_region.proofs.chat_index.forget.Goals as goal

pub returns-in-Ok-clause-ordered : goal.returns-in-Ok-clause-ordered
returns-in-Ok-clause-ordered c =
    subst IsOrdered (sym c.remove.ensures.items)
    (sorted-remove heard_order order-total c.args.table.now.items c.in-Ok.at c.requires)

pub returns-in-Ok-clause-told : goal.returns-in-Ok-clause-told
returns-in-Ok-clause-told c = λ h.
    let table = c.args.table.now.items in
    let entry = c.args.entry.now in
    let stands : StandsAt table entry c.in-Ok.at
    = subst (λ (z : List ChannelEntry). StandsAt z entry c.in-Ok.at) c.deref.ensures.value c.in-Ok.ensures in
    ap (λ (z : List ChannelEntry). has_entry z h) c.remove.ensures.items
    ∙ member-remove heard_order order-total table c.in-Ok.at entry stands.within (sym stands.is) c.requires h

pub returns-in_default-clause-told : goal.returns-in_default-clause-told
returns-in_default-clause-told c = λ h.
    none-forgotten c.args.table.now.items c.args.entry.now c.in_default.field-0
    (subst (λ (z : List ChannelEntry). BelongsAt z c.args.entry.now c.in_default.field-0) c.deref.ensures.value
    c.in_default.ensures) h
