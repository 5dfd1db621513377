use Rattle.std.proofs.Common.{◌∙◌, [], ap, sym}
use Rattle.std.specs.Map.{values_of}
use Rattle.lsl_data.specs.Answers.{pairs_after}
use Rattle.lsl_data.specs.Pairs.{pair_at, without}
use Rattle.lsl_data.proofs.Answering.{delete-deleted, delete-no-key, delete-not-found, emptied, filled}
use Rattle.lsl_data.proofs.Keeping.{gone-within, kept-take, none-stood, stood}
use Rattle.lsl_data.proofs.store.Store.delete.Goals as goal

pub returns-then-is_empty-clause-answer : goal.returns-then-is_empty-clause-answer
returns-then-is_empty-clause-answer c =
    delete-no-key c.args.self.now c.args.name.now
    (emptied c.args.name.now c.bytes.result.now c.is_empty.result c.bytes.ensures.value c.is_empty.ensures
    c.if-is_empty.true)

pub returns-then-is_empty-clause-after : goal.returns-then-is_empty-clause-after
returns-then-is_empty-clause-after c =
    ap (λ w. pairs_after w c.args.self.now c.args.name.now []) (returns-then-is_empty-clause-answer c)

pub overflow_sub-self : goal.overflow_sub-self
overflow_sub-self c =
    gone-within c.self.inside.pairs.entries c.self.inside.used c.args.name.now c.in-Some.gone c.self.invariant
    (sym c.in-Some.is ∙ c.take.ensures.gone)

pub invariant_of-self : goal.invariant_of-self
invariant_of-self c =
    kept-take c.self.inside.pairs.entries c.take.new.map.entries c.self.inside.used c.self.invariant
    c.take.ensures.named c.args.name.now c.in-Some.gone
    (sym c.in-Some.is ∙ c.take.ensures.gone) c.take.ensures.left

pub returns-in-Some-clause-answer : goal.returns-in-Some-clause-answer
returns-in-Some-clause-answer c =
    let there = stood (pair_at (values_of c.self.inside.pairs.entries) c.args.name.now) c.in-Some.gone
    (sym c.in-Some.is ∙ c.take.ensures.gone) in
    delete-deleted c.args.self.now c.args.name.now
    (filled c.args.name.now c.bytes.result.now c.is_empty.result c.bytes.ensures.value c.is_empty.ensures
    c.if-is_empty.false)
    there.0 (ap (λ ps. pair_at ps c.args.name.now) (sym c.self.view_is) ∙ there.1)

pub returns-in-Some-clause-after : goal.returns-in-Some-clause-after
returns-in-Some-clause-after c =
    c.take.ensures.left ∙ ap (λ ps. without ps c.args.name.now) c.self.view_is
    ∙ ap (λ w. pairs_after w c.args.self.now c.args.name.now []) (returns-in-Some-clause-answer c)

pub returns-in-None-clause-answer : goal.returns-in-None-clause-answer
returns-in-None-clause-answer c =
    let none = none-stood (pair_at (values_of c.self.inside.pairs.entries) c.args.name.now)
    (sym c.in-None.is ∙ c.take.ensures.gone) in
    delete-not-found c.args.self.now c.args.name.now
    (filled c.args.name.now c.bytes.result.now c.is_empty.result c.bytes.ensures.value c.is_empty.ensures
    c.if-is_empty.false)
    (ap (λ ps. pair_at ps c.args.name.now) (sym c.self.view_is) ∙ none)

pub returns-in-None-clause-after : goal.returns-in-None-clause-after
returns-in-None-clause-after c =
    c.in-None.ensures.kept ∙ c.self.view_is
    ∙ ap (λ w. pairs_after w c.args.self.now c.args.name.now []) (returns-in-None-clause-answer c)
