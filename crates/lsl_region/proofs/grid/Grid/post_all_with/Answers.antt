use Rattle.std.proofs.Common.{rules, ◌≡◌, ◌∙◌, ◌+◌, ◌++◌, ℕ, arith, length, sym, subst}
use Rattle.std.specs.Prelude.{Some}
use Rattle.std.proofs.lemmas.Result.{MatchResult-from_err}
use Rattle.lsl_post.specs.Journal.{Part}
use Rattle.lsl_post.specs.Told.{Told}
use Rattle.lsl_post.proofs.Amid.{walk-ok, walk-err}
use Rattle.lsl_region.specs.Scenes.{Awaits}
use Rattle.lsl_region.specs.Posting.{admits}
use Rattle.lsl_region.specs.Worlds.{World}
use Rattle.lsl_region.proofs.Around.{before, behind, home, lent-behind, lent-between, lent-start}
use Rattle.lsl_region.proofs.Outlines.{outline-scripts}
use Rattle.lsl_region.proofs.Passing.{walk-last, walk-stops, walk-stretch}
use Rattle.lsl_region.proofs.Posts.{posts-same}
use Rattle.lsl_region.proofs.Scenes.{keeps-set, set-kept}
use Rattle.lsl_region.proofs.grid.Grid.post_all_with.Goals as goal

pub post_own-requires : goal.post_own-requires
post_own-requires c = record {
  awake = record {
    set = set-kept c.requires.awake.set c.in_ok-post_between.ensures.grid.outline
        c.in_ok-post_between.ensures.grid.seated;
    awake = c.requires.awake.awake;
  };
}

pub post_between-requires-2-clause-within : goal.post_between-requires-2-clause-within
post_between-requires-2-clause-within c =
    let count : length c.args.self.now.seats ≡ c.len-end.result = search rules in
    let same = outline-scripts c.args.self.now c.post_between.new.self c.in_ok-post_between.ensures.grid.outline in
    omega (arith, count, same)

pub returns-clause-grid : goal.returns-clause-grid
returns-clause-grid c =
    keeps-set c.post_between-2.result c.requires.awake.set
    (c.post_between-2.ensures.grid.outline ∙ c.in_ok-post_between.ensures.grid.outline)
    c.post_between-2.ensures.grid.seated

pub returns-in_err-post_between-clause-does : goal.returns-in_err-post_between-clause-does
returns-in_err-post_between-clause-does c = λ m f id w lent.
    let scene = c.args.scene.now in
    let end : ℕ = c.len-end.result in
    let count : length c.args.self.now.seats ≡ end = search rules in
    let start = lent-start scene.library.now scene.unit.now scene.clock scene.place c.args.self.now c.args.live.now
    id f w m.rules
    (admits c.args.notice.now.audience.now) c.args.notice.now.event.now c.args.out.now end (sym count) lent in
    MatchResult-from_err c.from_residual.result _ _ c.from_residual.ensures.0
    (λ y. walk-stops _ _ _ _ _ _ _ start c.post_between.new.out scene.place (omega arith)
    (omega (arith, c.requires.awake.set.place, count))
    (λ v k. c.in_err-post_between.ensures.does m (Some scene.place) scene.clock v k.stands (home scene.place 0
    scene.place (before scene.place))))

pub returns-in_err-post_own-clause-does : goal.returns-in_err-post_own-clause-does
returns-in_err-post_own-clause-does c = λ m f id w lent.
    let scene = c.args.scene.now in
    let end : ℕ = c.len-end.result in
    let test = admits c.args.notice.now.audience.now in
    let count : length c.args.self.now.seats ≡ end = search rules in
    let first = c.in_ok-post_between.ensures.does in
    let start = lent-start scene.library.now scene.unit.now scene.clock scene.place c.args.self.now c.args.live.now
    id f w m.rules test c.args.notice.now.event.now
    c.args.out.now end (sym count) lent in
    let own = walk-stretch _ _ _ _ _ _ _ start
    (λ v. Awaits scene c.post_between.new.self c.args.live.now id f v) c.post_between.new.out scene.place
    (omega arith) (omega (arith, c.requires.awake.set.place, count))
    (λ v k. lent-between scene.library.now scene.unit.now scene.clock scene.place 0 scene.place c.args.self.now
    c.post_between.new.self c.args.live.now id f v
    m.rules test c.args.notice.now.event.now c.args.out.now c.post_between.new.out (before scene.place) (omega arith) k
    (first m (Some scene.place) scene.clock v k.stands (home scene.place 0 scene.place (before scene.place)))) in
    MatchResult-from_err c.from_residual-in_err-post_own.result _ _ c.from_residual-in_err-post_own.ensures.0
    (λ y. walk-err _ _ _ _ _ _ _ own c.post_own.new.out (omega (arith, c.requires.awake.set.place, count))
    (λ v k. subst (λ (a : Told World). Part c.post_between.new.out c.post_own.new.out a.entries)
    (posts-same scene.library.now m (Some scene.place) scene.clock c.post_between.new.self v k.stands test
    c.args.notice.now.event.now scene.place)
    (c.in_err-post_own.ensures.does m f id v k)))

pub returns-clause-does : goal.returns-clause-does
returns-clause-does c = λ m f id w lent.
    let scene = c.args.scene.now in
    let end : ℕ = c.len-end.result in
    let test = admits c.args.notice.now.audience.now in
    let count : length c.args.self.now.seats ≡ end = search rules in
    let first = c.in_ok-post_between.ensures.does in
    let start = lent-start scene.library.now scene.unit.now scene.clock scene.place c.args.self.now c.args.live.now
    id f w m.rules test c.args.notice.now.event.now
    c.args.out.now end (sym count) lent in
    let own = walk-stretch _ _ _ _ _ _ _ start
    (λ v. Awaits scene c.post_between.new.self c.args.live.now id f v) c.post_between.new.out scene.place
    (omega arith) (omega (arith, c.requires.awake.set.place, count))
    (λ v k. lent-between scene.library.now scene.unit.now scene.clock scene.place 0 scene.place c.args.self.now
    c.post_between.new.self c.args.live.now id f v
    m.rules test c.args.notice.now.event.now c.args.out.now c.post_between.new.out (before scene.place) (omega arith) k
    (first m (Some scene.place) scene.clock v k.stands (home scene.place 0 scene.place (before scene.place)))) in
    let others = walk-ok _ _ _ _ _ _ _ own
    (λ v. Awaits scene c.post_between.new.self c.post_own.new.live id f v) c.post_own.new.out
    (omega (arith, c.requires.awake.set.place, count))
    (λ v k. subst (λ (a : Told World). Awaits scene c.post_between.new.self c.post_own.new.live id f
    a.value × (c.post_own.new.out ≡ c.post_between.new.out ++ a.entries))
    (posts-same scene.library.now m (Some scene.place) scene.clock c.post_between.new.self v k.stands test
    c.args.notice.now.event.now scene.place)
    (c.in_ok-post_own.ensures.does m f id v k)) in
    walk-last _ _ _ _ _ _ _ others c.post_between-2.result
    (λ v _. Awaits scene c.post_between-2.new.self c.post_own.new.live id f v) c.post_between-2.new.out
    (λ v k. lent-behind scene.library.now scene.unit.now scene.clock scene.place (scene.place + 1) end
    c.post_between.new.self c.post_between-2.new.self
    c.post_own.new.live id f v m.rules test c.args.notice.now.event.now c.post_between-2.result c.post_own.new.out
    c.post_between-2.new.out (behind scene.place end) (omega (arith, c.requires.awake.set.place, count)) k
    (c.post_between-2.ensures.does m (Some scene.place) scene.clock v k.stands (home scene.place (scene.place + 1)
    end (behind scene.place end))))
