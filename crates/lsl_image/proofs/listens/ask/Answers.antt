use Rattle.std.proofs.Common.{◌∙◌, sym}
use Rattle.lsl_post.specs.Filters.{same_filter}
use Rattle.lsl_post.specs.Listens.{filter_of}
use Rattle.lsl_image.proofs.AnyLemmas.{any-found}
use Rattle.lsl_image.proofs.listens.ask.Goals as goal

pub returns-then-asks : goal.returns-then-asks
returns-then-asks c =
    any-found (same_filter c.args.asked.now) filter_of c.args.listens.now c.loop-listen.listen-index
    c.listen-item.result c.loop-listen-test.true c.listen-item.is c.loop-listen.invariant
    (sym c.asks.ensures ∙ c.if-asks.true)
