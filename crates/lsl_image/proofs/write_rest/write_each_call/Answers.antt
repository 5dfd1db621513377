use Rattle.std.proofs.Common.{sym}
use Rattle.lsl_code.specs.Laid.{frame_laid}
use Rattle.lsl_image.specs.Bytes.{frame_bytes}
use Rattle.lsl_image.specs.Fits.{FitsFrame}
use Rattle.lsl_image.proofs.WroteLemmas.{fits-at, wrote-at}
use Rattle.lsl_image.proofs.write_rest.write_each_call.Goals as goal

pub loop-i-preserved : goal.loop-i-preserved
loop-i-preserved c = record {
  written = wrote-at frame_bytes c.args.sack.now c.loop-i.i (frame_laid c.call.result) c.args.out.now.items
      c.loop-i.out.items c.write_call.new.out.items (sym c.call.ensures) c.loop-i.invariant.written
      c.in_ok-write_call.ensures.ok;
  fits = fits-at FitsFrame c.args.sack.now c.loop-i.i (frame_laid c.call.result) (sym c.call.ensures)
      c.loop-i.invariant.fits c.in_ok-write_call.ensures.fits;
  end = c.loop-i.invariant.end;
}
