use Rattle.std.proofs.Common.{◌∙◌, ℕ, ap}
use Rattle.std.specs.Prelude.{Result, Ok, Err}
use Rattle.std.proofs.lemmas.Result.{MatchResult-from_err}
use Rattle.lsl_value.specs.declared.tagged.Value.TheVariants as value
use Rattle.lsl_notes.specs.Queries.{query_of}
use Rattle.lsl_region.specs.Answers.{gives}
use Rattle.lsl_region.proofs.CardTold.{lent-told}
use Rattle.lsl_region.proofs.grid.Grid.tell_card.Goals as goal

pub returns-in_err-post_live-clause-does : goal.returns-in_err-post_live-clause-does
returns-in_err-post_live-clause-does c = λ m f of w lent.
    let lacks : Result ℕ ℕ = Err 0 in
    let key = c.in_ok-key.ensures ∙ ap (λ n. query_of n c.args.card c.args.line) c.number.ensures in
    MatchResult-from_err c.from_residual-in_err-post_live.result _ _ c.from_residual-in_err-post_live.ensures.0
    (λ y. lent-told lent m c.args.card c.args.line _ _ key c.in_ok-event.ensures c.post_live.new.live lacks
    c.args.out.now c.post_live.new.out
    (c.in_err-post_live.ensures.told c.args.scene.now.library.now lent.member.script f of lent.waits))

pub returns-clause-does : goal.returns-clause-does
returns-clause-does c = λ m f of w lent.
    let done : Result ℕ ℕ = Ok 0 in
    let key = c.in_ok-key.ensures ∙ ap (λ n. query_of n c.args.card c.args.line) c.number.ensures in
    let d = lent-told lent m c.args.card c.args.line _ _ key c.in_ok-event.ensures c.post_live.new.live done
    c.args.out.now c.post_live.new.out
    (c.in_ok-post_live.ensures.told c.args.scene.now.library.now lent.member.script f of lent.waits) in
    ((d.0, ap (λ k. gives (value.Key k)) key), d.1)
