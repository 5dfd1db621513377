use Rattle.std.proofs.Common.{◌≡◌, false, take}
use Rattle.lsl_region.specs.Hearing.{has_channel}
use Rattle.lsl_region.proofs.chat_index.Channels.has.Given as goal

abbrev pub invariant-loop-at : goal.invariant-loop-at
invariant-loop-at l =
    record {
      end : l.at-end ≡ l.self-inside.count;
      none : has_channel (take l.at l.self-inside.channels) l.channel ≡ false;
    }
