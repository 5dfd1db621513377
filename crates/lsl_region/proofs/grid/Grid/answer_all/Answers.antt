use Rattle.std.proofs.Common.{◌∙◌, refl, subst}
use Rattle.std.proofs.lemmas.Result.{MatchResult-from_err}
use Rattle.lsl_post.proofs.Amid.{amid-err, amid-ok, amid-start}
use Rattle.lsl_script.specs.declared.live.Turn.{Turn}
use Rattle.lsl_region.specs.Turning.{InFlight}
use Rattle.lsl_region.proofs.Flying.{amid-way, answering, goes-asking, still_asked}
use Rattle.lsl_region.specs.Scenes.{IsPaused}
use Rattle.lsl_region.proofs.grid.Grid.answer_all.Goals as goal

pub asks-init : goal.asks-init
asks-init c = record {
  awake = c.requires.awake;
  outline = refl;
  stands = c.requires.stands;
  amid = λ m f most w p.
      let x : InFlight = record { world = w; flight = f; most = most } in
      amid-start _ x _ (still_asked m.rules c.args.scene.now.place) p;
}

pub returns-in_err-turn-in-Asks-clause-does : goal.returns-in_err-turn-in-Asks-clause-does
returns-in_err-turn-in-Asks-clause-does c = λ m f most w start.
    let scene = c.args.scene.now in
    let call = c.in-Asks.call in
    let here = λ (x : InFlight) (p : IsPaused scene c.asks.self c.asks.live c.asks.turn
    x.flight
    x.most x.world).
    subst (λ (t : Turn). IsPaused scene c.asks.self c.asks.live t x.flight x.most x.world)
    c.in-Asks.is p in
    MatchResult-from_err c.from_residual.result _ _ c.from_residual.ensures.0
    (λ y. amid-err _ _ _ _ _ (c.asks.invariant.amid m f most w start) (still_asked m.rules scene.place)
    (answering m.rules scene.place call) _
    (λ x p. goes-asking scene.library.now scene.unit.now scene.clock scene.place c.asks.self c.asks.live m call x
    (here x p))
    (λ x p. c.in_err-turn-in-Asks.ensures.does m x.flight x.most x.world (here x p)))

pub asks-preserved : goal.asks-preserved
asks-preserved c =
    let scene = c.args.scene.now in
    let call = c.in-Asks.call in
    let here = λ (x : InFlight) (p : IsPaused scene c.asks.self c.asks.live c.asks.turn
    x.flight
    x.most x.world).
    subst (λ (t : Turn). IsPaused scene c.asks.self c.asks.live t x.flight x.most x.world)
    c.in-Asks.is p in
    record {
      awake = record { set = c.in_ok-turn-in-Asks.ensures.grid.set; awake = c.in_ok-turn-in-Asks.ensures.awake };
      outline = c.in_ok-turn-in-Asks.ensures.grid.outline ∙ c.asks.invariant.outline;
      stands = c.in_ok-turn-in-Asks.ensures.stands;
      amid = λ m f most w start. amid-ok _ _ _ _ _ (c.asks.invariant.amid m f most w start)
          (λ (x : InFlight). IsPaused scene c.answer_and_go_on.new.self
          c.answer_and_go_on.new.live
          c.in_ok-turn-in-Asks.turn x.flight x.most x.world)
          (still_asked m.rules scene.place) (answering m.rules scene.place call) _
          (λ x p. goes-asking scene.library.now scene.unit.now scene.clock scene.place c.asks.self c.asks.live m call
          x (here x p))
          (λ x p. c.in_ok-turn-in-Asks.ensures.does m x.flight x.most x.world (here x p));
    }

pub returns-in_default-clause-does : goal.returns-in_default-clause-does
returns-in_default-clause-does c = λ m f most w start. amid-way _ _ _ _ _ _ (c.asks.invariant.amid m f most w start)
