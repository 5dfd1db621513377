use Rattle.std.proofs.Common.{sym}
use Rattle.lsl_code.specs.Laid.{frame_laid}
use Rattle.lsl_view.specs.Calls.{IsAt}
use Rattle.lsl_view.specs.State.{held_lines}
use Rattle.lsl_view.specs.StateParts.{held_frame}
use Rattle.lsl_view.proofs.OneMore.{call-at, one-more}
use Rattle.lsl_view.proofs.calls.push_held_calls.Goals as goal

pub push_held_call-requires : goal.push_held_call-requires
push_held_call-requires c =
    call-at (IsAt c.args.unit.now.functions) c.args.sack.now c.loop-i.i (frame_laid c.call.result) c.requires
    c.call.ensures

pub loop-i-preserved : goal.loop-i-preserved
loop-i-preserved c = record {
  written = one-more held_lines (held_frame c.args.unit.now.functions) c.args.sack.now c.loop-i.i
      (frame_laid c.call.result) c.args.out.now.items c.loop-i.out.items c.push_held_call.new.out.items
      (sym c.call.ensures) c.loop-i.invariant.written c.in_ok-push_held_call.ensures;
  end = c.loop-i.invariant.end;
}
