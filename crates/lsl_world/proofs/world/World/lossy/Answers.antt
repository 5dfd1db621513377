use Rattle.std.proofs.Common.{◌≡◌, ◌∙◌, refl, sym, subst, List, length, map, Some}
use Rattle.lsl_handoff.specs.declared.card.Card.{Card}
use Rattle.lsl_handoff.specs.Handovers.{HasCounts}
use Rattle.lsl_region.specs.declared.objects.Linkset.{Linkset}
use Rattle.lsl_world.specs.Kept.{region_of}
use Rattle.lsl_world.specs.Lossy.{cards_at_start}
use Rattle.lsl_world.specs.Orders.{AreAtMost, AreInOrder}
use Rattle.lsl_world.proofs.Apart.{of-as, sound-as}
use Rattle.lsl_world.proofs.Lossy.{carded-start, most-start, order-start}
use Rattle.lsl_world.proofs.world.World.lossy.Goals as goal

pub returns-clause-of : goal.returns-clause-of
returns-clause-of c = λ programs w is. of-as c.args.self c.args.self.regions (Some c.in_ok-cards.cards) programs w is

pub returns-clause-order : goal.returns-clause-order
returns-clause-order c = λ programs w is.
    let world = c.args.self in (
      c.in_ok-cards.cards,
      refl,
      subst (λ (cs : List (List Card)). AreInOrder world.regions cs (map region_of w.objects))
          (sym c.in_ok-cards.ensures)
          (subst (λ (os : List Linkset). AreInOrder world.regions (cards_at_start world.regions world.grid.objects)
          (map region_of os)) is.stands.objects
          (order-start world.regions world.grid.objects c.requires.begun.named)),
      subst (λ (cs : List (List Card)). AreAtMost 0 cs) (sym c.in_ok-cards.ensures)
          (most-start world.regions world.grid.objects c.requires.begun.named),
    )

pub returns-clause-carded : goal.returns-clause-carded
returns-clause-carded c = λ cards is.
    let e : c.in_ok-cards.cards ≡ cards = cc in
    subst (λ (cs : List (List Card)). HasCounts (length c.args.self.grid.objects) (length c.args.self.regions) cs)
    (sym c.in_ok-cards.ensures ∙ e)
    (carded-start c.args.self.regions c.args.self.grid.objects c.requires.begun.named)

pub returns-clause-sound : goal.returns-clause-sound
returns-clause-sound c = λ sound. sound-as c.args.self c.args.self.regions (Some c.in_ok-cards.cards) sound
