use Rattle.std.proofs.Common.{◌≡◌, ◌∙◌, ◌<◌, Bool, List, ℕ, ℤ, ap, get_or, length, pos, rules, subst, sym, to_z, of_z, vec_capacity, w32, arith}
use Rattle.std.specs.Prelude.{◌||◌}
use Rattle.std.specs.Ordering.{int_eq}
use Rattle.std.proofs.lemmas.Int.{to_z-of_z}
use Rattle.std.proofs.lemmas.List.{get_or_default}
use Rattle.lsl_region.specs.declared.chat_index.ChannelEntry.{ChannelEntry}
use Rattle.lsl_region.specs.Hearing.{has_channel}
use Rattle.lsl_region.specs.Table.{IsOrdered, has_entry, heard, is_heard, same_heard}
use Rattle.lsl_region.proofs.Changes.{came-here, came-there, known-more, new-more}
use Rattle.lsl_region.proofs.chat_index.note_new.Goals as goal
use Rattle.lsl_region.proofs.chat_index.note_new.Goals.{then-not-has, else-not-has}

pub loop-channel-preserved : goal.loop-channel-preserved
loop-channel-preserved c =
    let place : ℕ = c.args.place in
    let old : List ℤ = c.args.old.now in
    let row : List ℤ = c.args.new.now in
    let first : List ChannelEntry = c.args.table.now.items in
    let before : List ChannelEntry = c.loop-channel.table.items in
    let now : List ChannelEntry = c.if-not-has.table.items in
    let i : ℕ = c.loop-channel.channel-index in
    let known = c.loop-channel.invariant in
    let items = c.as_slice-channel-items.result.now in
    let is : items ≡ row = c.as_slice-channel-items.ensures.value in
    let x : ℤ = get_or row i (pos 0) in
    let there : i < length row = subst (λ (r : List ℤ). i < length r) is c.loop-channel-test.true in
    let at : get_or row i x ≡ x = get_or_default row i x (pos 0) there in
    let same : to_z w32 (of_z w32 (get_or items i (pos 0))) ≡ x
    = to_z-of_z w32 (get_or items i (pos 0)) (search rules) ∙ ap (λ (r : List ℤ). get_or r i (pos 0)) is in
    let has : has_channel old x ≡ c.has.result = sym (c.has.ensures ∙ ap (has_channel old) same) in
    elim c.if-not-has.branch [
      | then-not-has w ↦
          let table : now ≡ w.note.new.table.items = ap (λ t. t.items) w.table-is in
          let told : (h : ChannelEntry) → has_entry now h ≡ (has_entry before h || same_heard h (heard x place))
          = λ h. ap (λ (t : List ChannelEntry). has_entry t h) table ∙ w.note.ensures.told h
          ∙ ap (λ (z : ℤ). has_entry before h || same_heard h (heard z place)) same in
          record {
            ordered = subst IsOrdered (sym table) w.note.ensures.ordered;
            told = λ channel. came-here before now x place told channel
                ∙ ap (λ (b : Bool). b || int_eq channel x) (known.told channel)
                ∙ new-more row i x there at channel old (is_heard first channel place) (has ∙ w.if-not-has.true);
            others = λ channel p n. came-there before now x place told channel p n ∙ known.others channel p n;
            len = omega (arith, ap (λ (t : List ChannelEntry). length t) table);
            capacity = omega (arith, ap vec_capacity w.table-is, w.note.ensures.capacity, known.capacity);
          }
      | else-not-has w ↦
          let table : now ≡ before = ap (λ t. t.items) w.table-is in
          record {
            ordered = subst IsOrdered (sym table) known.ordered;
            told = λ channel. ap (λ (t : List ChannelEntry). is_heard t channel place) table ∙ known.told channel
                ∙ known-more row i x there at channel old (is_heard first channel place) (has ∙ w.if-not-has.false);
            others = λ channel p n. ap (λ (t : List ChannelEntry). is_heard t channel p) table
                ∙ known.others channel p n;
            len = omega (arith, ap (λ (t : List ChannelEntry). length t) table);
            capacity = omega (arith, ap vec_capacity w.table-is, known.capacity);
          }
    ]
