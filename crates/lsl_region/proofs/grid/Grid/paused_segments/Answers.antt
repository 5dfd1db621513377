use Rattle.std.proofs.Common.{◌≡◌, ◌∙◌, ◌+◌, ℕ, ap, arith, refl, subst, sym}
use Rattle.std.specs.Prelude.{not}
use Rattle.std.proofs.lemmas.Result.{MatchResult-from_err}
use Rattle.lsl_post.proofs.Amid.{again-end, again-err, again-ok, again-start, again-stops}
use Rattle.lsl_region.specs.PausedTurns.{paused_for}
use Rattle.lsl_region.specs.Pausing.{Counts}
use Rattle.lsl_region.specs.Segments.{segment, turn}
use Rattle.lsl_region.specs.Turning.{IsHeld}
use Rattle.lsl_region.specs.Worlds.{World}
use Rattle.lsl_region.proofs.PausedTurns.{came-first, came-more, paused-more, paused-none, turn-more, turn-none}
use Rattle.lsl_region.specs.Scenes.{ComesTo}
use Rattle.lsl_region.proofs.grid.Grid.paused_segments.Goals as goal

pub loop-spent-init : goal.loop-spent-init
loop-spent-init c =
    let scene = c.args.scene.now in
    record {
      set = c.requires.set;
      outline = refl;
      held = subst (IsHeld scene.unit.now) (sym c.requires.none) tt;
      again = λ m w st. again-start _ (w, 0) _ _ _ _ (
        came-first scene.library.now scene.unit.now scene.clock scene.place c.args.self.now c.args.live.now w
            c.requires.none st,
        sym (turn-none m.rules scene.place w),
      );
      gaps = refl;
      counted = λ m w t st k. paused-none m.rules scene.place w c.args.pause.now t k;
    }

pub returns-then-not-is_ready_in_turn-clause-does : goal.returns-then-not-is_ready_in_turn-clause-does
returns-then-not-is_ready_in_turn-clause-does c = λ m w st.
    let d = again-stops _ _ _ _ _ _ _ _ (c.loop-spent.invariant.again m w st)
    (λ x r. ap not (sym (c.is_ready_in_turn.ensures.source x.0 r.0.0)
    ∙ c.if-not-is_ready_in_turn.true)) in
    (d.0.0, d.1)

pub returns-then-not-is_ready_in_turn-clause-counted : goal.returns-then-not-is_ready_in_turn-clause-counted
returns-then-not-is_ready_in_turn-clause-counted c = λ m w t st k.
    let d = again-stops _ _ _ _ _ _ _ _ (c.loop-spent.invariant.again m w st)
    (λ x r. ap not (sym (c.is_ready_in_turn.ensures.source x.0 r.0.0)
    ∙ c.if-not-is_ready_in_turn.true)) in
    subst (λ (n : ℕ). Counts c.loop-spent.pause (paused_for m.rules c.args.scene.now.place w n t)) d.0.0.1
    (c.loop-spent.invariant.counted m w t st k)

pub returns-in_err-paused_segment-clause-does : goal.returns-in_err-paused_segment-clause-does
returns-in_err-paused_segment-clause-does c = λ m w st.
    MatchResult-from_err c.from_residual.result _ _
    c.from_residual.ensures.0
    (λ y. again-err _ _ _ _ _ _ _ _ (c.loop-spent.invariant.again m w st) _ c.loop-spent-test.true
    (λ x r. ap not (sym (c.is_ready_in_turn.ensures.source x.0 r.0.0)
    ∙ c.if-not-is_ready_in_turn.false))
    (λ x r. c.in_err-paused_segment.ensures.does m x.0 r.0.0))

pub loop-spent-preserved : goal.loop-spent-preserved
loop-spent-preserved c =
    let scene = c.args.scene.now in
    let n = c.loop-spent.spent in
    let before = c.loop-spent.invariant in
    let after = c.in_ok-paused_segment.ensures in
    record {
      set = after.grid.set;
      outline = after.grid.outline ∙ before.outline;
      held = after.held;
      again = λ m w st. again-ok _ _ _ _ _ _ _ _ (before.again m w st)
          (λ (x : World × ℕ). ComesTo scene c.paused_segment.new.self c.paused_segment.new.live x
          (n + 1) × (x ≡ (turn m.rules (n + 1) scene.place w).value)) _ c.loop-spent-test.true
          (λ x r. ap not (sym (c.is_ready_in_turn.ensures.source x.0 r.0.0)
          ∙ c.if-not-is_ready_in_turn.false))
          (λ x r. let d = after.does m x.0 r.0.0 in (
            (
              came-more scene.library.now scene.unit.now scene.clock scene.place c.paused_segment.new.self
                  c.paused_segment.new.live _ x.1 n r.0.1
                  d.0,
              turn-more m.rules scene.place n w x r.1 (ap not (sym (c.is_ready_in_turn.ensures.source x.0 r.0.0)
                  ∙ c.if-not-is_ready_in_turn.false)),
            ),
            d.1,
          ));
      gaps = after.gaps ∙ before.gaps;
      counted = λ m w t st k.
          let a = (before.again m w st).amid in
          let x = a.value in
          let at = turn-more m.rules scene.place n w x a.rel.1
          (ap not (sym (c.is_ready_in_turn.ensures.source x.0 a.rel.0.0) ∙ c.if-not-is_ready_in_turn.false))
          in
          subst (Counts c.paused_segment.new.pause)
          (paused-more m.rules scene.place n w (segment m.rules scene.place x.0).value t (ap (λ (y : World × ℕ). y.0)
          at))
          (after.counted m x.0 (paused_for m.rules scene.place w n t) a.rel.0.0 (before.counted m w t st k));
    }

pub returns-clause-does : goal.returns-clause-does
returns-clause-does c = λ m w st.
    let a = c.loop-spent.invariant.again m w st in
    let d = again-end _ _ _ _ _ _ _ _ a c.loop-spent-test.false in
    let e : c.args.ticks ≡ c.loop-spent.spent = omega (arith, a.span, c.loop-spent-test.false) in
    ((d.0.0.0, e ∙ d.0.0.1, d.0.0.2), d.1)

pub returns-clause-counted : goal.returns-clause-counted
returns-clause-counted c = λ m w t st k.
    let d = again-end _ _ _ _ _ _ _ _ (c.loop-spent.invariant.again m w st) c.loop-spent-test.false in
    subst (λ (n : ℕ). Counts c.loop-spent.pause (paused_for m.rules c.args.scene.now.place w n t)) d.0.0.1
    (c.loop-spent.invariant.counted m w t st k)
