use Rattle.std.proofs.Common.{◌≡◌, ◌∙◌, ℕ, ◌+◌, List, [], ◌∷◌, ◌++◌, subst, sym}
use Rattle.std.specs.Prelude.{Some}
use Rattle.std.proofs.lemmas.Result.{MatchResult-from_err}
use Rattle.lsl_post.specs.declared.entries.Entry.{Entry}
use Rattle.lsl_post.specs.declared.entries.Entry.TheVariants as entry
use Rattle.lsl_post.specs.Journal.{Part}
use Rattle.lsl_post.proofs.Amid.{part-none}
use Rattle.lsl_script.specs.declared.live.Live.{Live}
use Rattle.lsl_script.specs.declared.live.Turn.{Turn}
use Rattle.lsl_script.specs.Lives.{entries_of_closing}
use Rattle.lsl_region.specs.Grids.{AreSeated, Contents}
use Rattle.lsl_region.specs.Segments.{asked}
use Rattle.lsl_region.proofs.Coming.{seated-with}
use Rattle.lsl_region.proofs.Flying.{out-of}
use Rattle.lsl_region.proofs.Stops.{ended-down, ended-part, ended-told, failed-down, failed-told}
use Rattle.lsl_region.specs.Scenes.{IsHome, IsPaused}
use Rattle.lsl_region.proofs.Scenes.{set-kept}
use Rattle.lsl_region.proofs.grid.Grid.finish.Goals as goal

pub returns-in_err-tell_closing-in-Ended-clause-does : goal.returns-in_err-tell_closing-in-Ended-clause-does
returns-in_err-tell_closing-in-Ended-clause-does c = λ m f most w out.
    let scene = c.args.scene.now in
    let q = subst (λ (t : Turn). IsPaused scene c.args.self.now c.in-Some.live t f most w)
    c.in-Ended.is (out-of c.args.live.now (λ (l : Live). IsPaused scene c.args.self.now l c.args.end f
    most w)
    c.in-Some.live (sym c.take.ensures.value ∙ c.in-Some.is) out) in
    let closed = c.in_ok-script-in-Ended.field-0 in
    let closes = c.in_ok-script-in-Ended.ensures.source scene.library.now q.member.script f (scene.place + 1) q.turns
    in
    MatchResult-from_err c.from_residual-in_err-tell_closing-in-Ended.result _ _
    c.from_residual-in_err-tell_closing-in-Ended.ensures.0
    (λ y. ended-part m q closed closes c.args.out.now
    c.tell_closing.new.out
    (subst (λ (n : ℕ). Part c.args.out.now c.tell_closing.new.out (entries_of_closing n closed.charge closed.cleared))
    c.number.ensures c.in_err-tell_closing-in-Ended.ensures))

pub returns-in_ok-tell_closing-in-Ended-clause-does : goal.returns-in_ok-tell_closing-in-Ended-clause-does
returns-in_ok-tell_closing-in-Ended-clause-does c = λ m f most w out.
    let scene = c.args.scene.now in
    let k = c.requires.set.unit in
    let q = subst (λ (t : Turn). IsPaused scene c.args.self.now c.in-Some.live t f most w)
    c.in-Ended.is (out-of c.args.live.now (λ (l : Live). IsPaused scene c.args.self.now l c.args.end f
    most w)
    c.in-Some.live (sym c.take.ensures.value ∙ c.in-Some.is) out) in
    let closed = c.in_ok-script-in-Ended.field-0 in
    let closes = c.in_ok-script-in-Ended.ensures.source scene.library.now q.member.script f (scene.place + 1) q.turns
    in
    let d = subst (λ (g : Contents). IsHome scene g (asked m.rules (most + 1) scene.place f w).value
    × (c.tell_closing.new.out ≡ c.args.out.now ++ (asked m.rules (most + 1) scene.place f w).entries))
    (sym (c.put_back.ensures.seats k.seat k.at))
    (ended-told m q
    closed closes k.seat k.at
    c.args.out.now
    c.tell_closing.new.out
    (subst (λ (n : ℕ). c.tell_closing.new.out ≡ c.args.out.now ++ entries_of_closing n closed.charge closed.cleared)
    c.number.ensures c.in_ok-tell_closing-in-Ended.ensures)) in (
      (
        d.0,
        ended-down m q closed closes,
      ),
      d.1,
    )

pub returns-in_err-push-in-Faulted-clause-does : goal.returns-in_err-push-in-Faulted-clause-does
returns-in_err-push-in-Faulted-clause-does c = λ m f most w out.
    MatchResult-from_err c.from_residual-in_err-push-in-Faulted.result _ _
    c.from_residual-in_err-push-in-Faulted.ensures.0
    (λ y. subst (λ (es : List Entry). Part c.args.out.now es
    (asked m.rules (most + 1) c.args.scene.now.place f w).entries) (sym c.in_err-push-in-Faulted.ensures.unchanged)
    (part-none c.args.out.now _))

pub returns-in_ok-push-in-Faulted-clause-does : goal.returns-in_ok-push-in-Faulted-clause-does
returns-in_ok-push-in-Faulted-clause-does c = λ m f most w out.
    let scene = c.args.scene.now in
    let k = c.requires.set.unit in
    let fault = c.in-Faulted.fault in
    let q = subst (λ (t : Turn). IsPaused scene c.args.self.now c.in-Some.live t f most w)
    c.in-Faulted.is (out-of c.args.live.now (λ (l : Live). IsPaused scene c.args.self.now l c.args.end f
    most w)
    c.in-Some.live (sym c.take.ensures.value ∙ c.in-Some.is) out) in
    let d = subst (λ (g : Contents). IsHome scene g (asked m.rules (most + 1) scene.place f w).value
    × (c.push.new.self ≡ c.args.out.now ++ (asked m.rules (most + 1) scene.place f w).entries))
    (sym (c.put_back-in-Faulted.ensures.seats k.seat k.at))
    (failed-told m
    fault q
    c.in_ok-script-in-Faulted.script
    (c.in_ok-script-in-Faulted.ensures.source scene.library.now q.member.script (scene.place + 1) q.turns.1)
    (c.in_ok-script-in-Faulted.ensures.lawful scene.library.now q.member.script (scene.place + 1) q.turns.1) k.seat
    k.at c.args.out.now
    c.push.new.self
    (subst (λ (n : ℕ). c.push.new.self ≡ c.args.out.now ++ entry.Stopped n fault ∷ []) c.number-in-Faulted.ensures
    c.in_ok-push-in-Faulted.ensures.ok)) in (
      (
        d.0,
        failed-down m fault q,
      ),
      d.1,
    )

pub returns-in_ok-tell_closing-in-Ended-clause-grid : goal.returns-in_ok-tell_closing-in-Ended-clause-grid
returns-in_ok-tell_closing-in-Ended-clause-grid c =
    let scene = c.args.scene.now in
    let k = c.requires.set.unit in
    record {
      set = set-kept c.requires.set c.put_back.ensures.outline
          (subst (λ (g : Contents). AreSeated scene.library.now g.seats)
          (sym (c.put_back.ensures.seats k.seat k.at))
          (seated-with scene.library.now scene.unit.now c.args.self.now scene.place
          k.seat (Some c.in_ok-script-in-Ended.field-0.script) c.requires.set.seated k.at k.has
          c.in_ok-script-in-Ended.ensures.fits));
      outline = c.put_back.ensures.outline;
    }

pub returns-in_ok-push-in-Faulted-clause-grid : goal.returns-in_ok-push-in-Faulted-clause-grid
returns-in_ok-push-in-Faulted-clause-grid c =
    let scene = c.args.scene.now in
    let k = c.requires.set.unit in
    record {
      set = set-kept c.requires.set c.put_back-in-Faulted.ensures.outline
          (subst (λ (g : Contents). AreSeated scene.library.now g.seats)
          (sym (c.put_back-in-Faulted.ensures.seats k.seat k.at))
          (seated-with scene.library.now scene.unit.now c.args.self.now scene.place
          k.seat (Some c.in_ok-script-in-Faulted.script) c.requires.set.seated k.at k.has
          c.in_ok-script-in-Faulted.ensures.fits));
      outline = c.put_back-in-Faulted.ensures.outline;
    }
