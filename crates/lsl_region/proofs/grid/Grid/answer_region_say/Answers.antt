use Rattle.std.proofs.Common.{◌≡◌, ◌∙◌, Bool, sym, subst}
use Rattle.std.specs.Prelude.{if◌then◌else◌}
use Rattle.lsl_post.specs.Journal.{Tells}
use Rattle.lsl_post.specs.Told.{quiet}
use Rattle.lsl_post.specs.declared.entries.Voice.TheVariants.{Region}
use Rattle.lsl_region.specs.Answers.{nothing, says}
use Rattle.lsl_region.specs.Scenes.{Awaits}
use Rattle.lsl_region.proofs.grid.Grid.answer_region_say.Goals as goal

pub returns-clause-does : goal.returns-clause-does
returns-clause-does c = λ m f of w lent.
    subst (λ (b : Bool). Tells c.answer_say.result
    (λ x reply. Awaits c.args.scene.now c.answer_say.new.self c.answer_say.new.live
    of f x.0
    × (reply ≡ x.1)) c.args.out.now c.answer_say.new.out
    (if b then quiet (w, nothing) else says m.rules c.args.scene.now.place Region lent.member c.args.args.now w))
    (sym c.if-is_silent.false ∙ c.is_silent.ensures) (c.answer_say.ensures.does m f of w lent)
