use Rattle.std.proofs.Common.{◌≡◌, ◌≢◌, ◌≤◌, ◌&&◌, ℕ, ℤ, length, not, take, vec_capacity}
use Rattle.std.specs.Prelude.{◌||◌}
use Rattle.lsl_region.specs.Hearing.{has_channel}
use Rattle.lsl_region.specs.Table.{IsOrdered, is_heard}
use Rattle.lsl_region.proofs.chat_index.forget_gone.Given as goal

abbrev pub invariant-loop-channel : goal.invariant-loop-channel
invariant-loop-channel l =
    record {
      ordered : IsOrdered l.table.items;
      told : (c : ℤ) → is_heard l.table.items c l.place
          ≡ (is_heard l.fn.table.items c l.place
          && (has_channel l.new c || not (has_channel (take l.channel-index l.old) c)));
      others : (c : ℤ) (p : ℕ) → p ≢ l.place → is_heard l.table.items c p ≡ is_heard l.fn.table.items c p;
      len : length l.table.items ≤ length l.fn.table.items;
      capacity : vec_capacity l.table ≡ vec_capacity l.fn.table;
    }
