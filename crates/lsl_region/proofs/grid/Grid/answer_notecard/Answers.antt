use Rattle.std.proofs.Common.{◌≡◌, ◌++◌, ap₂, subst, true}
use Rattle.std.proofs.lemmas.Result.{MatchResult-from_err}
use Rattle.lsl_value.specs.declared.tagged.Value.TheVariants as value
use Rattle.lsl_post.specs.Journal.{Part}
use Rattle.lsl_region.specs.Answers.{Answered, gives, queried}
use Rattle.lsl_region.specs.Grids.{seat_of}
use Rattle.lsl_region.specs.Scenes.{Awaits}
use Rattle.lsl_region.proofs.CardTold.{card-same, note-fits}
use Rattle.lsl_region.proofs.Lending.{lent-seat}
use Rattle.lsl_region.proofs.grid.Grid.answer_notecard.Goals as goal

pub returns-in_err-key-clause-does : goal.returns-in_err-key-clause-does
returns-in_err-key-clause-does c = λ m f of w lent.
    let at = lent-seat lent in
    let card = card-same lent c.args.args.now c.in_ok-name.name
    c.card_of-card.result c.in_ok-name.ensures (c.card_of-card.ensures.value (seat_of c.args.scene.now.library.now
    true lent.member) at) in
    MatchResult-from_err c.from_residual-in_err-key.result _ _ c.from_residual-in_err-key.ensures.0
    (λ y. subst (λ (a : Answered). Part c.args.out.now c.ask.new.out a.entries)
    (ap₂ (λ number line. queried m.rules c.args.scene.now.place number line w) card c.line_of.ensures)
    (c.in_err-key.ensures.does m f of w lent))

pub returns-clause-does : goal.returns-clause-does
returns-clause-does c = λ m f of w lent.
    let scene = c.args.scene.now in
    let at = lent-seat lent in
    let card = card-same lent c.args.args.now c.in_ok-name.name
    c.card_of-card.result c.in_ok-name.ensures (c.card_of-card.ensures.value (seat_of scene.library.now true
    lent.member) at) in
    subst (λ (a : Answered). (Awaits scene c.args.self.now c.ask.new.live of f a.value.0
    × (gives (value.Key c.in_ok-key.key) ≡ a.value.1)) × (c.ask.new.out ≡ c.args.out.now ++ a.entries))
    (ap₂ (λ number line. queried m.rules scene.place number line w) card c.line_of.ensures)
    (c.in_ok-key.ensures.does m f of w lent)

pub returns-clause-fits : goal.returns-clause-fits
returns-clause-fits c = note-fits c.args.id c.in_ok-key.key c.requires.noting
