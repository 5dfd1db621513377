use Rattle.std.proofs.Common.{◌≡◌, ◌∙◌, List, ap, rules, subst, sym}
use Rattle.std.specs.List.{insert}
use Rattle.lsl_region.specs.declared.chat_index.ChannelEntry.{ChannelEntry}
use Rattle.lsl_region.specs.Table.{BelongsAt, IsOrdered, StandsAt, has_entry, heard_order}
use Rattle.lsl_region.proofs.Ordered.{member-insert, sorted-insert}
use Rattle.lsl_region.proofs.Table.{noted-before, order-total}
use Rattle.lsl_region.proofs.chat_index.note.Goals as goal

pub returns-in-Ok-clause-ordered : goal.returns-in-Ok-clause-ordered
returns-in-Ok-clause-ordered c =
    let table = c.args.table.now.items in
    let at = c.in-Err.at in
    let b : BelongsAt table c.args.entry at
    = subst (λ (z : List ChannelEntry). BelongsAt z c.args.entry at) c.deref.ensures.value c.in-Err.ensures in
    let items : c.insert.new.self.items ≡ insert table at c.args.entry = search rules in
    subst IsOrdered (sym items)
    (sorted-insert heard_order order-total table at c.args.entry c.requires.ordered b.within b.before b.behind)

pub returns-in-Ok-clause-told : goal.returns-in-Ok-clause-told
returns-in-Ok-clause-told c = λ h.
    let table = c.args.table.now.items in
    let at = c.in-Err.at in
    let items : c.insert.new.self.items ≡ insert table at c.args.entry = search rules in
    ap (λ (z : List ChannelEntry). has_entry z h) items
    ∙ member-insert heard_order order-total table at c.args.entry h

pub returns-in_default-clause-told : goal.returns-in_default-clause-told
returns-in_default-clause-told c = λ h.
    noted-before c.args.table.now.items c.args.entry c.in_default.field-0
    (subst (λ (z : List ChannelEntry). StandsAt z c.args.entry c.in_default.field-0) c.deref.ensures.value
    c.in_default.ensures) h
