use Rattle.std.proofs.Common.{◌≡◌, ◌+◌, ◌++◌, sym, ◌∙◌, subst, append-nil}
use Rattle.std.specs.Prelude.{if◌then◌else◌}
use Rattle.lsl_post.specs.Journal.{Tells}
use Rattle.lsl_post.specs.Told.{Told, quiet}
use Rattle.lsl_script.specs.declared.live.Live.{Live}
use Rattle.lsl_script.specs.Codes.{rules_of}
use Rattle.lsl_script.specs.Lives.{Waits}
use Rattle.lsl_script.specs.Scripts.{Script, post_to}
use Rattle.lsl_region.specs.Scenes.{Awaits}
use Rattle.lsl_region.specs.Posting.{admits}
use Rattle.lsl_region.specs.Worlds.{Member, World}
use Rattle.lsl_region.proofs.Away.{keeps-out, lent-self}
use Rattle.lsl_region.proofs.Posts.{post-code, post-none, thing-meant}
use Rattle.lsl_region.proofs.grid.Grid.post_own.Goals as goal

pub returns-then-not-admits_live-clause-does : goal.returns-then-not-admits_live-clause-does
returns-then-not-admits_live-clause-does c = λ m f id w lent.
    let scene = c.args.scene.now in
    let e = sym (c.admits_live.ensures.value scene.library.now scene.unit.now scene.clock f id w lent) ∙
    c.if-not-admits_live.true in
    subst (λ (a : Told World). Awaits scene c.args.self.now c.admits_live.new.live id f
    a.value × (c.args.out.now ≡ c.args.out.now ++ a.entries))
    (post-none (rules_of scene.library.now) c.args.notice.now.audience.now c.args.notice.now.event.now scene.place w
    lent.member lent.at e) (
      subst (λ (l : Live). Awaits scene c.args.self.now l id f w)
          (sym c.admits_live.ensures.same) lent,
      sym (append-nil c.args.out.now),
    )

pub returns-clause-does : goal.returns-clause-does
returns-clause-does c = λ m f id w lent.
    let scene = c.args.scene.now in
    let audience = c.args.notice.now.audience.now in
    let event = c.args.notice.now.event.now in
    let s = lent.member.script in
    let waits = subst (λ (l : Live). Waits scene.library.now scene.unit.now s f id l) (sym
    c.admits_live.ensures.same) lent.waits
    in
    let meant = sym (c.admits_live.ensures.value scene.library.now scene.unit.now scene.clock f id w lent) ∙
    c.if-not-admits_live.false
    in
    lent-self scene.library.now scene.unit.now scene.clock scene.place c.args.self.now c.args.live.now
    c.post_live.new.live id f w lent
    (λ (m : Member). if admits audience w m then post_to (rules_of scene.library.now)
    (scene.place + 1) event m.script else quiet m.script)
    c.post_live.result _ _
    (keeps-out scene.library.now _ s _ (lent.stands.scripts scene.place lent.member lent.at)
    (post-code (rules_of scene.library.now) (scene.place + 1) event s (admits audience w lent.member)))
    (subst (λ (t : Told Script). Tells c.post_live.result
    (λ u _. Waits scene.library.now scene.unit.now u f id c.post_live.new.live) c.args.out.now c.post_live.new.out t)
    (thing-meant (rules_of scene.library.now) audience event scene.place w lent.member meant)
    (c.post_live.ensures.told scene.library.now s f id waits))
