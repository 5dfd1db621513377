use Rattle.std.proofs.Common.{◌∙◌, ◌+◌, subst, sym}
use Rattle.std.specs.Prelude.{Option}
use Rattle.std.proofs.lemmas.Result.{MatchResult-from_err}
use Rattle.lsl_post.specs.Journal.{Tells}
use Rattle.lsl_post.proofs.Amid.{amid-last}
use Rattle.lsl_script.specs.declared.live.Live.{Live}
use Rattle.lsl_region.specs.Segments.{asked}
use Rattle.lsl_region.specs.Turning.{IsHeld}
use Rattle.lsl_region.proofs.Flying.{is-end, out-of, way-amid}
use Rattle.lsl_region.proofs.Results.{OnOk-any}
use Rattle.lsl_region.proofs.PausedTurns.{tells-behind}
use Rattle.lsl_region.proofs.Stops.{held-flies, way-tick}
use Rattle.lsl_region.specs.Scenes.{IsBehindSegment, IsPaused}
use Rattle.lsl_region.proofs.grid.Grid.go_on.Goals as goal

pub returns-in_err-last-clause-does : goal.returns-in_err-last-clause-does
returns-in_err-last-clause-does c = λ m f most w out.
    let p = out-of c.args.live.now (λ (l : Live). IsPaused c.args.scene.now
    c.args.self.now l c.args.turn f most w) c.in-Some.awake c.in-Some.is out in
    MatchResult-from_err c.from_residual.result _ _ c.from_residual.ensures.0
    (λ y. c.in_err-last.ensures.does m f most w p)

pub returns-in-AtTick-clause-does : goal.returns-in-AtTick-clause-does
returns-in-AtTick-clause-does c = λ m f most w out.
    let scene = c.args.scene.now in
    let p = out-of c.args.live.now (λ (l : Live). IsPaused scene
    c.args.self.now l c.args.turn f most w) c.in-Some.awake c.in-Some.is out in
    let d = way-tick scene.library.now scene.unit.now scene.clock scene.place c.answer_all.new.self
    c.answer_all.new.live
    c.in_ok-last.last m (asked m.rules (most + 1) scene.place f w) c.args.out.now c.answer_all.new.out c.in-AtTick.is
    (c.in_ok-last.ensures.does m f most w p) in (
      (
        d.0,
        sym (held-flies scene.library.now scene.unit.now scene.clock scene.place c.answer_all.new.self
            c.answer_all.new.live _ d.0),
      ),
      d.1,
    )

pub returns-in_default-2 : goal.returns-in_default-2
returns-in_default-2 c =
    let scene = c.args.scene.now in
    record {
      does = λ m f most w out.
          let p = out-of c.args.live.now
          (λ (l : Live). IsPaused scene c.args.self.now l c.args.turn f most w)
          c.in-Some.awake c.in-Some.is out in
          amid-last _ _ _ _ _ (way-amid _ _ _ _ _ _ (c.in_ok-last.ensures.does m f most w p)) c.finish.result
          (λ v _. IsBehindSegment scene c.finish.new.self c.finish.new.live v) _
          (λ x q. subst (λ (o : Option Live). Tells c.finish.result
          (λ v _. IsBehindSegment scene c.finish.new.self o v) c.answer_all.new.out c.finish.new.out
          (asked m.rules (x.most + 1) scene.place x.flight x.world)) (sym c.finish.ensures.none)
          (tells-behind scene.library.now scene.unit.now scene.clock scene.place c.finish.new.self c.finish.result
          c.answer_all.new.out c.finish.new.out _
          (c.finish.ensures.does m x.flight x.most x.world q)));
      grid = record {
        set = c.finish.ensures.grid.set;
        outline = c.finish.ensures.grid.outline ∙ c.in_ok-last.ensures.grid.outline;
      };
      held = OnOk-any c.finish.result _
          (subst (λ (o : Option Live). IsHeld scene.unit.now o) (sym c.finish.ensures.none) tt);
    }

pub finish-requires : goal.finish-requires
finish-requires c = record {
  set = c.in_ok-last.ensures.grid.set;
  awake = c.in_ok-last.ensures.awake;
  stands = c.in_ok-last.ensures.stands;
  end = is-end c.in_ok-last.last c.in_ok-last.ensures.last c.in_default-2.not-AtTick;
}
