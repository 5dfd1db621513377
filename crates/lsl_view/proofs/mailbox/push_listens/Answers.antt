use Rattle.lsl_image.proofs.WroteLemmas.{wrote-at}
use Rattle.lsl_view.specs.State.{listen_line}
use Rattle.lsl_view.proofs.mailbox.push_listens.Goals as goal

pub loop-place-preserved : goal.loop-place-preserved
loop-place-preserved c = record {
  written = wrote-at listen_line c.args.listens.now.list c.loop-place.place c.listen.result.now c.args.out.now.items
      c.loop-place.out.items c.push_listen.new.out.items c.listen.ensures c.loop-place.invariant.written
      c.in_ok-push_listen.ensures;
  end = c.loop-place.invariant.end;
}
