use Rattle.std.proofs.Common.{◌≡◌, ◌≤◌, ℤ, length, take}
use Rattle.std.specs.List.{list_any}
use Rattle.lsl_region.specs.Hearing.{has_channel, is_on}
use Rattle.lsl_region.proofs.chat_index.are_channels_of.Given as goal

-- the active listens before this one have the channels that were met
abbrev pub invariant-loop-place : goal.invariant-loop-place
invariant-loop-place l =
    record {
      end : l.place-end ≡ length l.listens.list;
      few : l.met ≤ length l.channels;
      told : (channel : ℤ) → has_channel (take l.met l.channels) channel
          ≡ list_any (is_on channel) (take l.place l.listens.list);
    }
