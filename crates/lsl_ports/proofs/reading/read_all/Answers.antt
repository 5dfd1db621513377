use Rattle.std.proofs.Common.{arith, ap, length, length-append, ◌∙◌}
use Rattle.lsl_ports.proofs.FileHeads.{begins-gains}
use Rattle.lsl_ports.proofs.reading.read_all.Goals as goal

pub loop-bytes-preserved : goal.loop-bytes-preserved
loop-bytes-preserved g c =
    let past = c.loop-bytes.invariant in
    let now = c.in_ok-read_piece.ensures in
    let gain = now.ok in
    record {
      begins = begins-gains (g.S.Shelf.held c.args.shelf.now) _ c.args.name.now _ _ _ past.held past.begins gain;
      within = omega (
        arith,
        c.read_piece.new.bytes.ok.0,
        c.loop-bytes.bytes.ok.0,
        ap length
            gain.grew,
        length-append c.loop-bytes.bytes.items gain.next,
        gain.many,
        now.within,
      );
      held = now.unchanged ∙ past.held;
      counted = λ name. omega (arith, past.counted name, now.counted name);
    }
