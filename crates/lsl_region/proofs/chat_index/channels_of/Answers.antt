use Rattle.std.proofs.Common.{◌≡◌, ◌∙◌, List, ℤ, ap, arith, length, rules, w32}
use Rattle.std.specs.Prelude.{◌||◌}
use Rattle.std.specs.Ordering.{int_eq}
use Rattle.std.proofs.lemmas.Int.{to_z-of_z}
use Rattle.lsl_region.specs.Hearing.{has_channel}
use Rattle.lsl_region.proofs.Listening.{told-active, told-idle}
use Rattle.lsl_region.proofs.chat_index.channels_of.Goals as goal
use Rattle.lsl_region.proofs.chat_index.channels_of.Goals.{then-listen, else-listen}

pub loop-place-preserved : goal.loop-place-preserved
loop-place-preserved c =
    let list = c.args.listens.now.list in
    let place = c.loop-place.place in
    let old = c.loop-place.channels in
    let listen = c.listen-listen.result.now in
    let known = c.loop-place.invariant in
    elim c.if-listen.branch [
      | then-listen w ↦
          let is = w.channels-is in
          let added : (channel : ℤ) → has_channel c.if-listen.channels channel
          ≡ (has_channel old channel || int_eq channel listen.channel)
          = λ channel. ap (λ (xs : List ℤ). has_channel xs channel) is ∙ w.add.ensures.told channel
          ∙ ap (λ (z : ℤ). has_channel old channel || int_eq channel z) (to_z-of_z w32 listen.channel (search rules)) in
          record {
            end = known.end;
            few = omega (arith, ap (λ (xs : List ℤ). length xs) is, w.add.ensures.few, known.few);
            told = told-active list place listen c.listen-listen.ensures old known.told w.if-listen.true
                c.if-listen.channels added;
          }
      | else-listen w ↦
          let is = w.channels-is in
          record {
            end = known.end;
            few = omega (arith, ap (λ (xs : List ℤ). length xs) is, known.few);
            told = λ channel. ap (λ (xs : List ℤ). has_channel xs channel) is
                ∙ told-idle list place listen c.listen-listen.ensures old known.told w.if-listen.false channel;
          }
    ]
