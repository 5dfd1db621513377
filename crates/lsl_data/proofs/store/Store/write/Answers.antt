use Rattle.std.proofs.Common.{◌∙◌, ap}
use Rattle.lsl_data.specs.Answers.{pairs_after}
use Rattle.lsl_data.proofs.Answering.{deleted-written, emptied, filled, write-delete, write-no-key}
use Rattle.lsl_data.proofs.store.Store.write.Goals as goal

pub returns-then-is_empty-clause-answer : goal.returns-then-is_empty-clause-answer
returns-then-is_empty-clause-answer c =
    write-no-key c.args.self.now c.args.name c.args.value
    (emptied c.args.name c.bytes.result.now c.is_empty.result c.bytes.ensures.value c.is_empty.ensures
    c.if-is_empty.true)

pub returns-then-is_empty-clause-after : goal.returns-then-is_empty-clause-after
returns-then-is_empty-clause-after c =
    ap (λ w. pairs_after w c.args.self.now c.args.name c.args.value) (returns-then-is_empty-clause-answer c)

pub returns-then-is_empty-2-clause-answer : goal.returns-then-is_empty-2-clause-answer
returns-then-is_empty-2-clause-answer c =
    c.delete.ensures.answer
    ∙ write-delete c.args.self.now c.args.name c.args.value
    (filled c.args.name c.bytes.result.now c.is_empty.result c.bytes.ensures.value c.is_empty.ensures
    c.if-is_empty.false)
    (emptied c.args.value c.bytes-2.result.now c.is_empty-2.result c.bytes-2.ensures.value c.is_empty-2.ensures
    c.if-is_empty-2.true)

pub returns-then-is_empty-2-clause-after : goal.returns-then-is_empty-2-clause-after
returns-then-is_empty-2-clause-after c =
    c.delete.ensures.after
    ∙ deleted-written c.args.self.now c.args.name c.args.value
    (write-delete c.args.self.now c.args.name c.args.value
    (filled c.args.name c.bytes.result.now c.is_empty.result c.bytes.ensures.value c.is_empty.ensures
    c.if-is_empty.false)
    (emptied c.args.value c.bytes-2.result.now c.is_empty-2.result c.bytes-2.ensures.value c.is_empty-2.ensures
    c.if-is_empty-2.true))
