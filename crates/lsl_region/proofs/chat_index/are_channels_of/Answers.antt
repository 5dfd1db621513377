use Rattle.std.proofs.Common.{◌≡◌, ◌∙◌, ◌<◌, ℕ, ℤ, ap, arith, get_or, length, pos, rules, sym, take, to_z, w32}
use Rattle.std.specs.Prelude.{◌||◌}
use Rattle.std.specs.Ordering.{int_eq}
use Rattle.std.proofs.lemmas.Int.{to_z-of_z}
use Rattle.std.proofs.lemmas.List.{get_or_default}
use Rattle.lsl_region.specs.Hearing.{has_channel}
use Rattle.lsl_region.proofs.Changes.{one-more}
use Rattle.lsl_region.proofs.Listening.{told-active, told-idle}
use Rattle.lsl_region.proofs.chat_index.are_channels_of.Goals as goal
use Rattle.lsl_region.proofs.chat_index.are_channels_of.Goals.{else-listen, then-listen+else-met-channels+else-channels-met}

pub loop-place-preserved : goal.loop-place-preserved
loop-place-preserved c =
    let list = c.args.listens.now.list in
    let place = c.loop-place.place in
    let row = c.args.channels.now in
    let met = c.loop-place.met in
    let listen = c.listen-listen.result.now in
    let known = c.loop-place.invariant in
    elim c.if-listen.branch [
      | then-listen+else-met-channels+else-channels-met w ↦
          let x : ℤ = listen.channel in
          let there : met < length row = omega (arith, known.few, w.if-met-channels.false) in
          let same : get_or row met (pos 0) ≡ x
          = sym (to_z-of_z w32 (get_or row met (pos 0)) (search rules)) ∙ ap (to_z w32) w.if-channels-met.false
          ∙ to_z-of_z w32 x (search rules) in
          let added : (channel : ℤ) → has_channel (take c.if-listen.met row) channel
          ≡ (has_channel (take met row) channel || int_eq channel x)
          = λ channel. ap (λ (n : ℕ). has_channel (take n row) channel) w.met-is
          ∙ one-more row met x there (get_or_default row met x (pos 0) there ∙ same) channel in
          record {
            end = known.end;
            few = omega (arith, w.met-is, there);
            told = told-active list place listen c.listen-listen.ensures (take met row) known.told w.if-listen.true
                (take c.if-listen.met row) added;
          }
      | else-listen w ↦
          record {
            end = known.end;
            few = omega (arith, w.met-is, known.few);
            told = λ channel. ap (λ (n : ℕ). has_channel (take n row) channel) w.met-is
                ∙ told-idle list place listen c.listen-listen.ensures (take met row) known.told w.if-listen.false
                channel;
          }
    ]
