use Rattle.std.proofs.Common.{refl}
use Rattle.std.proofs.lemmas.Result.{MatchResult-from_err}
use Rattle.lsl_region.proofs.grid.Grid.answer_message_linked.Goals as goal

pub returns-in_err-send_linked-clause-does : goal.returns-in_err-send_linked-clause-does
returns-in_err-send_linked-clause-does c = λ m f of w lent.
    MatchResult-from_err c.from_residual.result _ _
    c.from_residual.ensures.0
    (λ y. c.in_err-send_linked.ensures.does m f of w lent)

pub returns-clause-does : goal.returns-clause-does
returns-clause-does c = λ m f of w lent.
    let d = c.in_ok-send_linked.ensures.does m f of w lent in
    ((d.0, refl), d.1)
