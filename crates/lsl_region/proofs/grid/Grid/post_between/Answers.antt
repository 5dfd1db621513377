use Rattle.std.proofs.Common.{◌≡◌, ◌+◌, ◌++◌, arith, refl, subst, ◌∙◌}
use Rattle.std.proofs.lemmas.Result.{IfOk-from_err, MatchResult-from_err}
use Rattle.lsl_post.specs.Journal.{Part}
use Rattle.lsl_post.specs.Told.{Told}
use Rattle.lsl_post.proofs.Amid.{walk-ok, walk-err, walk-end}
use Rattle.lsl_region.specs.Grids.{AreSeated, Stands}
use Rattle.lsl_region.specs.Posting.{admits}
use Rattle.lsl_region.specs.Worlds.{World}
use Rattle.lsl_region.proofs.Outlines.{outline-scripts}
use Rattle.lsl_region.proofs.Passing.{post-passed, walk-from, walk-later}
use Rattle.lsl_region.proofs.Posts.{posts-same}
use Rattle.lsl_region.proofs.grid.Grid.post_between.Goals as goal

pub loop-place-init : goal.loop-place-init
loop-place-init c =
    let next = c.next_of-place in
    record {
      from = next.ensures.onward;
      within = next.ensures.within;
      same = refl;
      outline = refl;
      objects = refl;
      seated = c.requires.seated;
      walk = λ m away clock w st home.
          walk-later _ _ _ _ _ c.args.first next.result c.args.end
          (walk-from _ w _ _ c.args.first c.args.end st c.requires.order)
          next.ensures.onward next.ensures.within
          (λ v k place first last. post-passed c.args.library.now away clock c.args.self.now v
          c.args.notice.now.audience.now
          c.args.first next.result k next.ensures.passed m.rules c.args.notice.now.event.now place first last
          (home place first (omega (arith, last, next.ensures.within))));
    }

pub returns-in_err-post_at-clause-does : goal.returns-in_err-post_at-clause-does
returns-in_err-post_at-clause-does c = λ m away clock w st home.
    MatchResult-from_err c.from_residual.result _ _ c.from_residual.ensures.0
    (λ y. walk-err _ _ _ _ _ _ _ (c.loop-place.invariant.walk m away clock w st home) _ c.loop-place-test.true
    (λ v k. subst (λ (a : Told World). Part c.loop-place.out c.post_at.new.out a.entries)
    (posts-same c.args.library.now m away clock c.loop-place.self v k (admits c.args.notice.now.audience.now)
    c.args.notice.now.event.now c.loop-place.place) (c.in_err-post_at.ensures.does away clock v k
    (home c.loop-place.place c.loop-place.invariant.from c.loop-place-test.true))))

pub next_of-place-requires-in-loop-place-clause-within : goal.next_of-place-requires-in-loop-place-clause-within
next_of-place-requires-in-loop-place-clause-within c =
    let len = outline-scripts c.loop-place.self c.post_at.new.self c.in_ok-post_at.ensures.grid.outline in
    omega (arith, c.requires.within, c.loop-place.invariant.same, len)

pub returns-in_err-post_at-clause-grid : goal.returns-in_err-post_at-clause-grid
returns-in_err-post_at-clause-grid c = record {
  seated = IfOk-from_err c.from_residual.result (λ _. AreSeated c.args.library.now c.post_at.new.self.seats)
      c.from_residual.ensures.0;
  outline = c.in_err-post_at.ensures.grid.outline ∙ c.loop-place.invariant.outline;
}

pub loop-place-preserved : goal.loop-place-preserved
loop-place-preserved c =
    let inv = c.loop-place.invariant in
    let next = c.next_of-place-in-loop-place in
    record {
      from = omega (arith, inv.from, next.ensures.onward);
      within = next.ensures.within;
      same = outline-scripts c.loop-place.self c.post_at.new.self c.in_ok-post_at.ensures.grid.outline ∙ inv.same;
      outline = c.in_ok-post_at.ensures.grid.outline ∙ inv.outline;
      objects = c.in_ok-post_at.ensures.objects ∙ inv.objects;
      seated = c.in_ok-post_at.ensures.grid.seated;
      walk = λ m away clock w st home.
          walk-later _ _ _ _ _ (c.loop-place.place + 1) next.result c.args.end
          (walk-ok _ _ _ _ _ _ _ (inv.walk m away clock w st home)
          (λ v. Stands c.args.library.now away clock c.post_at.new.self v) _ c.loop-place-test.true
          (λ v k. subst (λ (a : Told World). Stands c.args.library.now away clock c.post_at.new.self a.value
          × (c.post_at.new.out ≡ c.loop-place.out ++ a.entries))
          (posts-same c.args.library.now m away clock c.loop-place.self v k (admits c.args.notice.now.audience.now)
          c.args.notice.now.event.now c.loop-place.place) (c.in_ok-post_at.ensures.does away clock v k
          (home c.loop-place.place inv.from c.loop-place-test.true))))
          next.ensures.onward next.ensures.within
          (λ v k place first last. post-passed c.args.library.now away clock c.post_at.new.self v
          c.args.notice.now.audience.now
          (c.loop-place.place + 1) next.result k next.ensures.passed m.rules c.args.notice.now.event.now place first last
          (home place (omega (arith, inv.from, first)) (omega (arith, last, next.ensures.within))));
    }

pub returns-clause-does : goal.returns-clause-does
returns-clause-does c = λ m away clock w st home.
    walk-end _ _ _ _ _ _ _ (c.loop-place.invariant.walk m away clock w st home) c.loop-place-test.false
