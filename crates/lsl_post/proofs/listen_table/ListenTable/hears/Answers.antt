use Rattle.std.proofs.Common.{◌≡◌, true, false, sym, subst, ◌∙◌, w32}
use Rattle.std.proofs.lemmas.Int.{to_z-of_z}
use Rattle.lsl_post.specs.Filters.{filter}
use Rattle.lsl_post.specs.Listens.{hears}
use Rattle.lsl_post.proofs.Places.{any-at}
use Rattle.lsl_post.proofs.listen_table.ListenTable.hears.Goals as goal

pub returns-then-hears : goal.returns-then-hears
returns-then-hears c =
    subst (λ n. true ≡ hears (filter n c.args.name.now c.args.id.now c.args.message.now) c.args.self.now)
    (to_z-of_z w32 c.args.channel c.ranges.channel)
    (sym (c.loop-place.invariant.same ∙ any-at _ c.args.self.now.list c.loop-place.place c.listen.result.now
    true c.listen.ensures (sym c.hears.ensures ∙ c.if-hears.true)))

pub loop-place-preserved : goal.loop-place-preserved
loop-place-preserved c =
    record {
      same = c.loop-place.invariant.same ∙ any-at _ c.args.self.now.list c.loop-place.place
          c.listen.result.now false c.listen.ensures (sym c.hears.ensures ∙ c.if-hears.false);
      end = c.loop-place.invariant.end;
    }
