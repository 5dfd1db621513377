use Rattle.lsl_image.specs.Bytes.{listen_bytes}
use Rattle.lsl_image.specs.Fits.{FitsListen}
use Rattle.lsl_image.proofs.WroteLemmas.{fits-at, wrote-at}
use Rattle.lsl_image.proofs.write_waiting.write_list.Goals as goal

pub loop-place-preserved : goal.loop-place-preserved
loop-place-preserved c = record {
  written = wrote-at listen_bytes c.args.listens.now.list c.loop-place.place c.listen.result.now
      c.args.out.now.items c.loop-place.out.items c.write_listen.new.out.items c.listen.ensures
      c.loop-place.invariant.written c.in_ok-write_listen.ensures.ok;
  fits = fits-at FitsListen c.args.listens.now.list c.loop-place.place c.listen.result.now c.listen.ensures
      c.loop-place.invariant.fits c.in_ok-write_listen.ensures.fits;
  end = c.loop-place.invariant.end;
}
