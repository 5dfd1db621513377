use Rattle.std.proofs.Common.{◌≡◌, ◌≤◌, ℕ, ap, subst}
use Rattle.std.specs.Prelude.{Option, IfSome}
use Rattle.lsl_value.specs.Key.{null_key}
use Rattle.lsl_value.specs.declared.tagged.Value.TheVariants as value
use Rattle.lsl_running.specs.declared.host.Reply.{Reply}
use Rattle.lsl_notes.specs.Notecards.{IsListed, most_cards}
use Rattle.lsl_region.specs.Answers.{gives}
use Rattle.lsl_region.specs.Scenes.{Awaits}
use Rattle.lsl_region.specs.Worlds.{World}
use Rattle.lsl_region.proofs.Results.{IfOk-map, tells-quiet}
use Rattle.lsl_region.proofs.grid.Grid.ask.Goals as goal

pub tell_card-requires-clause-listed : goal.tell_card-requires-clause-listed
tell_card-requires-clause-listed c =
    subst (λ (o : Option ℕ). IfSome o (IsListed c.args.self.now.cards)) c.in-Some.is c.requires.listed

pub tell_card-requires-clause-within : goal.tell_card-requires-clause-within
tell_card-requires-clause-within c =
    subst (λ (o : Option ℕ). IfSome o (λ number. number ≤ most_cards)) c.in-Some.is c.requires.within

pub returns-in-Some-line-clause-does : goal.returns-in-Some-line-clause-does
returns-in-Some-line-clause-does c = λ m f of w lent.
    rw c.in-Some.is (rw c.in-Some-line.is (c.tell_card.ensures.does m f of w lent))

pub returns-in-None-line-clause-does : goal.returns-in-None-line-clause-does
returns-in-None-line-clause-does c = λ m f of w lent.
    rw c.in-Some.is (rw c.in-None-line.is (tells-quiet c.null_key.result
    (λ (x : World × Reply) key. Awaits c.args.scene.now c.args.self.now c.args.live.now of f x.0
    × (gives (value.Key key) ≡ x.1))
    (w, gives (value.Key null_key)) c.args.out.now
    (IfOk-map c.null_key.result _ _ (λ key is. (lent, ap (λ k. gives (value.Key k)) is)) c.null_key.ensures)))

pub returns-in-None-clause-does : goal.returns-in-None-clause-does
returns-in-None-clause-does c = λ m f of w lent.
    rw c.in-None.is (tells-quiet c.null_key-in-None.result
    (λ (x : World × Reply) key. Awaits c.args.scene.now c.args.self.now c.args.live.now of f x.0
    × (gives (value.Key key) ≡ x.1))
    (w, gives (value.Key null_key)) c.args.out.now
    (IfOk-map c.null_key-in-None.result _ _ (λ key is. (lent, ap (λ k. gives (value.Key k)) is))
    c.null_key-in-None.ensures))
