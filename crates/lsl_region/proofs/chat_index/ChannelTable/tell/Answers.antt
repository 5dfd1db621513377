use Rattle.std.proofs.Common.{◌<◌, ◌≤◌, ◌+◌, ◌*◌, [], arith, length, rules, vec_capacity}
use Rattle.std.proofs.lemmas.List.{get_or_read}
use Rattle.lsl_region.specs.Hearing.{most_channels}
use Rattle.lsl_region.proofs.Rows.{table-few, table-told}
use Rattle.lsl_region.proofs.chat_index.ChannelTable.tell.Goals as goal

pub note_new-requires-clause-room : goal.note_new-requires-clause-room
note_new-requires-clause-room c =
    let inside = c.self.inside in
    let there : c.args.place < length inside.rows.items = search (rules, c.requires) in
    let few = table-few inside.rows.items inside.table.items (vec_capacity inside.table) c.self.invariant in
    let room : most_channels * (length inside.rows.items + 1) ≤ vec_capacity inside.table
    = c.self.invariant.room (omega (arith, there)) in
    omega (arith, few, room, c.forget_gone.ensures.len, c.forget_gone.ensures.capacity, c.requires.few)

pub invariant_of-self : goal.invariant_of-self
invariant_of-self c =
    let inside = c.self.inside in
    let there : c.args.place < length inside.rows.items = search (rules, c.requires) in
    table-told inside.rows.items inside.table.items c.forget_gone.new.table.items c.note_new.new.table.items
    (vec_capacity inside.table) (vec_capacity c.note_new.new.table) c.args.place c.index_mut-row.result.now
    c.args.channels
    c.self.invariant there
    (get_or_read inside.rows.items c.args.place c.index_mut-row.result.now there c.index_mut-row.ensures.value [])
    c.requires.few (omega (arith, c.forget_gone.ensures.capacity, c.note_new.ensures.capacity))
    c.note_new.ensures.ordered c.forget_gone.ensures.told c.forget_gone.ensures.others c.note_new.ensures.told
    c.note_new.ensures.others
