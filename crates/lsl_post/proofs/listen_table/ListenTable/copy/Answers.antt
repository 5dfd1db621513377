use Rattle.std.proofs.Common.{◌∙◌}
use Rattle.lsl_post.proofs.Adding.{standing-more}
use Rattle.lsl_post.proofs.listen_table.ListenTable.copy.Goals as goal

pub push-requires : goal.push-requires
push-requires c =
    (standing-more c.args.self.now c.loop-place.copied c.loop-place.place c.listen.result.now
    c.in_ok-copy.field-0
    c.count-place-end.ensures.standing c.loop-place.invariant.same c.in_ok-copy.ensures c.listen.ensures).0

pub loop-place-preserved : goal.loop-place-preserved
loop-place-preserved c =
    record {
      same = c.in_ok-push.ensures.ok ∙ (standing-more c.args.self.now c.loop-place.copied c.loop-place.place
          c.listen.result.now c.in_ok-copy.field-0
          c.count-place-end.ensures.standing c.loop-place.invariant.same c.in_ok-copy.ensures
          c.listen.ensures).1;
      end = c.loop-place.invariant.end;
    }
