use Rattle.std.proofs.Common.{◌≡◌, drop, length}
use Rattle.lsl_post.specs.Queue.{has_timer}
use Rattle.lsl_post.proofs.queue.Queue.has_timer.Given as goal

-- the events before this one aren't timer events
abbrev pub invariant-loop-place : goal.invariant-loop-place
invariant-loop-place l = record {
  same : has_timer l.self
      ≡ has_timer (drop l.place l.self);
  end : l.place-end ≡ length l.self;
}
