use Rattle.std.proofs.Common.{◌≡◌, take, length}
use Rattle.lsl_post.proofs.queue.Queue.copy.Given as goal

-- the events before this one are copied
abbrev pub invariant-loop-place : goal.invariant-loop-place
invariant-loop-place l = record { same : l.copied ≡ take l.place l.self; end : l.place-end ≡ length l.self }
