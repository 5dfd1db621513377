use Rattle.std.proofs.Common.{◌≤◌, ◌∙◌, ◌+◌, ℕ, ap, arith, refl, subst, sym}
use Rattle.std.specs.Prelude.{Bool, not}
use Rattle.std.proofs.lemmas.Result.{MatchResult-from_err}
use Rattle.lsl_post.proofs.Amid.{again-end, again-err, again-ok, again-start, again-stops}
use Rattle.lsl_region.specs.Turning.{IsHeld, PassesAwake}
use Rattle.lsl_region.specs.Worlds.{World}
use Rattle.lsl_region.proofs.ManyTicks.{passed-amid, passed-came, ready-still}
use Rattle.lsl_region.proofs.PausedTurns.{came-first, came-more}
use Rattle.lsl_region.specs.Scenes.{ComesTo}
use Rattle.lsl_region.proofs.grid.Grid.segments.Goals as goal

pub segments-init : goal.segments-init
segments-init c =
    let scene = c.args.scene.now in
    record {
      within = omega arith;
      set = c.requires.set;
      outline = refl;
      held = subst (IsHeld scene.unit.now) (sym c.requires.none) tt;
      again = λ m w st. again-start _ (w, 0) _ _ _ _
          (came-first scene.library.now scene.unit.now scene.clock scene.place c.args.self.now c.args.live.now w
          c.requires.none st);
    }

pub returns-then-not-is_ready_in_turn-clause-does : goal.returns-then-not-is_ready_in_turn-clause-does
returns-then-not-is_ready_in_turn-clause-does c = λ m w st.
    again-stops _ _ _ _ _ _ _ _ (c.segments.invariant.again m w st)
    (λ x r. ap not (sym (c.is_ready_in_turn.ensures.source x.0 r.0)
    ∙ c.if-not-is_ready_in_turn.true))

pub segments-preserved-then-stands : goal.segments-preserved-then-stands
segments-preserved-then-stands c =
    let scene = c.args.scene.now in
    let n = c.pass_ticks-passed.result.0 in
    let inv = c.segments.invariant in
    let made = c.pass_ticks-passed.ensures in
    let test = c.segments-test.true in
    let most = made.most in
    let fits : c.segments.spent + n ≤ c.args.ticks = omega arith in
    let p = subst (λ (b : Bool). PassesAwake b scene.unit.now n c.segments.live c.pass_ticks-passed.new.live)
    c.if-stands.true
    made.passed in
    record {
      within = fits;
      set = inv.set;
      outline = inv.outline;
      held = made.held c.if-stands.true;
      again = λ m w st. passed-came scene.library.now scene.unit.now scene.clock scene.place c.segments.self m _ _ _
          _ c.segments.spent
          n fits
          c.segments.live c.pass_ticks-passed.new.live p
          (λ v t. sym (c.is_ready_in_turn.ensures.source v t) ∙ c.if-not-is_ready_in_turn.false)
          (inv.again m w st);
    }

pub segments-smaller-then-stands : goal.segments-smaller-then-stands
segments-smaller-then-stands c =
    let test = c.segments-test.true in
    let some = c.pass_ticks-passed.ensures.some c.if-stands.true in
    omega arith

pub finish_segment-requires-clause-ready : goal.finish_segment-requires-clause-ready
finish_segment-requires-clause-ready c =
    let scene = c.args.scene.now in
    ready-still c.pass_ticks-passed.result.1 scene.unit.now c.pass_ticks-passed.result.0 scene.clock scene.place
    c.segments.self.seats c.segments.live c.pass_ticks-passed.new.live c.pass_ticks-passed.ensures.passed
    (c.is_ready_in_turn.ensures.ready c.if-not-is_ready_in_turn.false)

pub returns-in_err-finish_segment-clause-does : goal.returns-in_err-finish_segment-clause-does
returns-in_err-finish_segment-clause-does c = λ m w st.
    let scene = c.args.scene.now in
    let n = c.pass_ticks-passed.result.0 in
    let test = c.segments-test.true in
    let most = c.pass_ticks-passed.ensures.most in
    let left = c.pass_ticks-passed.ensures.left c.if-stands.false in
    let fits : c.segments.spent + n ≤ c.args.ticks = omega arith in
    let p = subst (λ (b : Bool). PassesAwake b scene.unit.now n c.segments.live c.pass_ticks-passed.new.live)
    c.if-stands.false
    c.pass_ticks-passed.ensures.passed in
    let far = passed-amid scene.library.now scene.unit.now scene.clock scene.place c.segments.self m _ _ _ _
    c.segments.spent n fits
    c.segments.live c.pass_ticks-passed.new.live p
    (λ v t. sym (c.is_ready_in_turn.ensures.source v t) ∙ c.if-not-is_ready_in_turn.false)
    (c.segments.invariant.again m w st) in
    MatchResult-from_err c.from_residual.result _ _ c.from_residual.ensures.0
    (λ y. again-err _ _ _ _ _ _ _ _ far _ (omega arith) (λ x r. r.2)
    (λ x r. c.in_err-finish_segment.ensures.does m x.0 r.0))

pub segments-preserved : goal.segments-preserved
segments-preserved c =
    let scene = c.args.scene.now in
    let n = c.pass_ticks-passed.result.0 in
    let inv = c.segments.invariant in
    let made = c.pass_ticks-passed.ensures in
    let done = c.in_ok-finish_segment.ensures in
    let test = c.segments-test.true in
    let most = made.most in
    let left = made.left c.if-stands.false in
    let fits : c.segments.spent + n ≤ c.args.ticks = omega arith in
    let p = subst (λ (b : Bool). PassesAwake b scene.unit.now n c.segments.live c.pass_ticks-passed.new.live)
    c.if-stands.false
    made.passed in
    record {
      within = omega arith;
      set = done.grid.set;
      outline = done.grid.outline ∙ inv.outline;
      held = done.held;
      again = λ m w st.
          let far = passed-amid scene.library.now scene.unit.now scene.clock scene.place c.segments.self m _ _ _ _
          c.segments.spent n fits
          c.segments.live c.pass_ticks-passed.new.live p
          (λ v t. sym (c.is_ready_in_turn.ensures.source v t) ∙ c.if-not-is_ready_in_turn.false)
          (inv.again m w st) in
          again-ok _ _ _ _ _ _ _ _ far
          (λ (x : World × ℕ). ComesTo scene c.finish_segment.new.self c.finish_segment.new.live x
          (c.segments.spent + n + 1)) _ (omega arith) (λ x r. r.2)
          (λ x r. let d = done.does m x.0 r.0 in (
            came-more scene.library.now scene.unit.now scene.clock scene.place c.finish_segment.new.self
                c.finish_segment.new.live _ x.1
                (c.segments.spent + n) r.1 d.0,
            d.1,
          ));
    }

pub returns-clause-does : goal.returns-clause-does
returns-clause-does c = λ m w st.
    again-end _ _ _ _ _ _ _ _ (c.segments.invariant.again m w st) (omega (arith, c.segments-test.false))
