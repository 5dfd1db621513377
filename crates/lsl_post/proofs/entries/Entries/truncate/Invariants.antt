use Rattle.std.proofs.Common.{◌≡◌, take, length}
use Rattle.lsl_post.proofs.entries.Entries.truncate.Given as goal

-- the entries below that place are what they were
abbrev pub invariant-entries : goal.invariant-entries
invariant-entries l = take l.count l.self-inside.list.items ≡ take l.count l.initial.self-inside.list.items

abbrev pub decreases-entries : goal.decreases-entries
decreases-entries l = length l.self-inside.list.items
