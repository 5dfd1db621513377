use Rattle.std.proofs.Common.{◌≡◌, ◌++◌, drop, take}
use Rattle.lsl_image.proofs.write_images.put_head.Given as goal

-- this many are in place
abbrev pub invariant-loop-place : goal.invariant-loop-place
invariant-loop-place l = l.out.items ≡ take l.place l.head ++ drop l.place l.fn.out.items
