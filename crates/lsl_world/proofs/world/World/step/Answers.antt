use Rattle.std.proofs.Common.{◌∙◌}
use Rattle.lsl_ports.specs.Trips.{Went}
use Rattle.lsl_region.specs.Worlds.{World as SourceWorld}
use Rattle.lsl_world.specs.Programs.{rules_of}
use Rattle.lsl_world.specs.Stands.{IsOf}
use Rattle.lsl_world.proofs.Apart.{does-as, goes-beside, hands-as, of-as, sound-as, tells-as, with_cards}
use Rattle.lsl_world.proofs.Reaching.{at-any}
use Rattle.lsl_world.proofs.world.World.step.Goals as goal

pub step_by-outcome-requires-clause-sound : goal.step_by-outcome-requires-clause-sound
step_by-outcome-requires-clause-sound g c = sound-as c.args.self.now _ c.take-cards.new.self c.requires.sound

pub returns-clause-goes : goal.returns-clause-goes
returns-clause-goes g c =
    let world = c.args.self.now in
    let new = c.step_by-outcome.new.self in
    let cards = c.step_by-outcome.new.cards in
    let names = c.replace-regions.result in
    let out = c.args.out.now in
    let result = c.step_by-outcome.result in
    let bare = with_cards world c.replace-regions.new.dest c.take-cards.new.self in
    let (trips, went, plain, lossy) =
    goes-beside (Went g.L.Link.gives (g.L.Link.trips c.args.link.now) (g.L.Link.trips c.step_by-outcome.new.link))
    bare new names world.regions c.take-cards.result world.cards cards c.args.step.now out c.step_by-outcome.new.out
    result c.replace-regions.ensures.value c.take-cards.ensures.value c.step_by-outcome.ensures.goes in (
      trips,
      went,
      λ none programs w is. does-as world.units (rules_of programs) (IsOf programs new)
          (IsOf programs (with_cards new names cards)) (λ v. of-as new _ _ programs v) c.args.step.now w trips out
          c.step_by-outcome.new.out result (plain none programs w (of-as world _ c.take-cards.new.self programs w is)),
      λ old some.
          (let (later, there, hands, sends) = lossy old some in (
            later,
            there,
            λ programs w entries is order past carried.
                hands-as world.units (rules_of programs) (IsOf programs new)
                (IsOf programs (with_cards new names cards)) (λ v. of-as new _ _ programs v) c.args.step.now w trips out
                c.step_by-outcome.new.out result world.regions old later entries
                (hands programs w entries (of-as world _ c.take-cards.new.self programs w is) order past carried),
          )),
    )

pub returns-clause-at : goal.returns-clause-at
returns-clause-at g c =
    let world = c.args.self.now in
    let new = c.step_by-outcome.new.self in
    let cards = c.step_by-outcome.new.cards in
    let names = c.replace-regions.result in
    let out = c.args.out.now in
    let result = c.step_by-outcome.result in
    let bare = with_cards world c.replace-regions.new.dest c.take-cards.new.self in
    let behind = with_cards new names cards in
    let (trips, went, plain, lossy) =
    goes-beside (Went g.L.Link.gives (g.L.Link.trips c.args.link.now) (g.L.Link.trips c.step_by-outcome.new.link))
    bare new names world.regions c.take-cards.result world.cards cards c.args.step.now out c.step_by-outcome.new.out
    result c.replace-regions.ensures.value c.take-cards.ensures.value c.step_by-outcome.ensures.goes in (
      trips,
      went,
      λ programs stage is fair.
          (let before = of-as world _ c.take-cards.new.self programs stage.world is.of in
          let into : (v : SourceWorld) → IsOf programs new v → IsOf programs behind v =
          (λ v. of-as new names cards programs v) in
          at-any _ _ programs world behind c.step_by-outcome.ensures.units c.replace-regions.ensures.value trips out
          c.step_by-outcome.new.out stage is fair c.args.step.now result
          (λ none. c.step_by-outcome.ensures.plain (c.take-cards.ensures.value ∙ none))
          (λ none. does-as world.units (rules_of programs) (IsOf programs new) (IsOf programs behind) into
          c.args.step.now
          stage.world trips out c.step_by-outcome.new.out result (plain none programs stage.world before))
          (λ old some.
          (let (later, there, hands, sends) = lossy old some in (
            later,
            there,
            λ entries order past carried.
                hands-as world.units (rules_of programs) (IsOf programs new) (IsOf programs behind) into c.args.step.now
                stage.world trips out c.step_by-outcome.new.out result world.regions old later entries
                (hands programs stage.world entries before order past carried),
            sends programs stage.world before,
          ))) c.requires.named c.requires.step),
    )

pub returns-clause-comes : goal.returns-clause-comes
returns-clause-comes g c = λ none.
    let new = c.step_by-outcome.new.self in
    let (trips, went, comes) = c.step_by-outcome.ensures.comes (c.take-cards.ensures.value ∙ none) in (
      trips,
      went,
      λ programs w came. tells-as c.step_by-outcome.result (IsOf programs new)
          (IsOf programs (with_cards new c.replace-regions.result c.step_by-outcome.new.cards)) c.args.out.now
          c.step_by-outcome.new.out _ (λ v. of-as new _ _ programs v) (comes programs w came),
    )
