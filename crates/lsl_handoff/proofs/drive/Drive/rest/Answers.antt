use Rattle.std.proofs.Common.{ap, subst, List, Option, IfSome}
use Rattle.lsl_handoff.specs.declared.card.Card.{Card}
use Rattle.lsl_handoff.specs.declared.note.Note.{Note}
use Rattle.lsl_handoff.specs.Fields.{HasCard}
use Rattle.lsl_handoff.proofs.DriveLemmas.{answer-received}
use Rattle.lsl_handoff.proofs.drive.Drive.rest.Goals as goal

pub receive-answer-requires : goal.receive-answer-requires
receive-answer-requires c =
    subst (λ (o : Option Note). IfSome o (λ note. HasCard c.args.field.now note.object note.to))
    (ap (λ (x : List (List Card) × Option Note). x.1) c.in_ok-note.ensures) c.requires.there

pub receive-requires : goal.receive-requires
receive-requires c =
    answer-received c.args.field.now c.receive-answer.new.field c.args.self.way c.in_ok-note.note
    c.receive-answer.result (ap (λ (x : List (List Card) × Option Note). x.1) c.in_ok-note.ensures) c.requires.way.0
    c.requires.there c.receive-answer.ensures
