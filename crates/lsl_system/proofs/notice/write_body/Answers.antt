use Rattle.std.proofs.Common.{arith}
use Rattle.lsl_ports.proofs.Growth.{grew-is, grew-none, grew-then}
use Rattle.lsl_system.proofs.Said.{escaped_more}
use Rattle.lsl_system.proofs.notice.write_body.Goals as goal

pub loop-byte-init : goal.loop-byte-init
loop-byte-init g c = record { grew = grew-none (g.N.Sink.sunk c.args.notes.now); counted = omega arith }

pub loop-byte-preserved : goal.loop-byte-preserved
loop-byte-preserved g c =
    let now = c.in_ok-write_escaped.ensures in
    record {
      grew = grew-is (g.N.Sink.sunk c.args.notes.now) _ _ _
          (grew-then (g.N.Sink.sunk c.args.notes.now) (g.N.Sink.sunk c.loop-byte.notes) _ _ _
          c.loop-byte.invariant.grew now.ok)
          (escaped_more c.args.text.now c.loop-byte.byte-index c.loop-byte-test.true);
      counted = omega (arith, now.counted, c.loop-byte.invariant.counted);
    }
