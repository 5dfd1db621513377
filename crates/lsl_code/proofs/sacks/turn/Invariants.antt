use Rattle.std.proofs.Common.{◌≡◌, ◌++◌, length, take, drop}
use Rattle.lsl_code.specs.Packs.{EndAt}
use Rattle.lsl_code.specs.Sacks.{seen_from_end}
use Rattle.lsl_code.proofs.sacks.turn.Given as goal

-- those before the place end where they began, and those from it on end as they did
abbrev pub invariant-loop-i : goal.invariant-loop-i
invariant-loop-i l = record {
  seen : take l.i l.marks.items ++ seen_from_end l.total l.from (drop l.i l.marks.items)
      ≡ seen_from_end l.total 0 l.fn.marks.items;
  ends : EndAt l.from (drop l.i l.marks.items) l.total;
  end : l.i-end ≡ length l.marks.items;
}
