use Rattle.std.proofs.Common.{arith, take, drop}
use Rattle.std.proofs.lemmas.List.{take-append-drop}
use Rattle.lsl_ports.proofs.Growth.{grew-none, grew-is, grew-then, grew-same, one_more, still_within}
use Rattle.lsl_ports.proofs.writing.write_all.Goals as goal

pub loop-done-init : goal.loop-done-init
loop-done-init g c = record {
  within = omega arith;
  grew = grew-none (g.K.Sink.sunk c.args.sink.now);
  counted =
      omega arith;
}

pub returns-in_err-count-clause-part : goal.returns-in_err-count-clause-part
returns-in_err-count-clause-part g c = record {
  added = take c.loop-done.done c.args.bytes.now;
  grew = grew-same (g.K.Sink.sunk c.args.sink.now) (g.K.Sink.sunk c.loop-done.sink) _
      (take c.loop-done.done c.args.bytes.now) c.loop-done.invariant.grew c.in_err-count.ensures.unchanged;
  begins = record {
    others = drop c.loop-done.done c.args.bytes.now;
    whole = take-append-drop c.loop-done.done c.args.bytes.now;
  };
}

pub loop-done-preserved : goal.loop-done-preserved
loop-done-preserved g c =
    record {
      within = still_within c.args.bytes.now c.loop-done.done c.in_ok-count.count c.loop-done.invariant.within
          c.in_ok-count.ensures.within;
      grew = grew-is (g.K.Sink.sunk c.args.sink.now) _ _ _
          (grew-then (g.K.Sink.sunk c.args.sink.now) (g.K.Sink.sunk c.loop-done.sink) _
          (take c.loop-done.done c.args.bytes.now) _ c.loop-done.invariant.grew c.in_ok-count.ensures.ok)
          (one_more c.args.bytes.now c.loop-done.done c.in_ok-count.count);
      counted = omega (arith, c.in_ok-count.ensures.counted, c.loop-done.invariant.counted);
    }
