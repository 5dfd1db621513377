use Rattle.std.proofs.Common.{◌≡◌, length, take, sum_by}
use Rattle.lsl_code.specs.Frames.{frame_charge}
use Rattle.lsl_running.specs.Charging.{charged_with}
use Rattle.lsl_view.proofs.holding.charged_with_calls.Given as goal

abbrev pub invariant-loop-i : goal.invariant-loop-i
invariant-loop-i l = record {
  sum : l.sum ≡ charged_with l.fn.charged (sum_by frame_charge (take l.i l.sack));
  end : l.i-end ≡ length l.sack;
}
