use Rattle.std.proofs.Common.{◌≡◌, ◌∙◌, ◌-◌, ◌++◌, ap, subst, sym}
use Rattle.std.specs.Prelude.{Option, Some}
use Rattle.std.proofs.lemmas.Result.{MatchResult-from_err}
use Rattle.lsl_running.specs.declared.host.Reply.{Reply}
use Rattle.lsl_running.specs.declared.host.Reply.TheVariants as reply
use Rattle.lsl_post.specs.Journal.{Part}
use Rattle.lsl_script.specs.declared.live.Turn.{Turn}
use Rattle.lsl_script.specs.declared.live.Turn.TheVariants as turn
use Rattle.lsl_script.specs.declared.live.Live.{Live}
use Rattle.lsl_script.specs.Handlers.{given}
use Rattle.lsl_script.specs.Lives.{Waits}
use Rattle.lsl_region.specs.Answers.{Answered, answer_in}
use Rattle.lsl_region.specs.Worlds.{Member}
use Rattle.lsl_region.proofs.Flying.{asks-fewer, paused-lent}
use Rattle.lsl_region.specs.Scenes.{IsPaused}
use Rattle.lsl_region.proofs.grid.Grid.answer_and_go_on.Goals as goal

pub returns-in_err-value-clause-does : goal.returns-in_err-value-clause-does
returns-in_err-value-clause-does c = λ m f most w p.
    let scene = c.args.scene.now in
    let call = c.args.call in
    let lent = paused-lent scene.library.now scene.unit.now scene.clock scene.place c.args.self.now c.args.live.now
    call f most w p in
    MatchResult-from_err c.from_residual.result _ _ c.from_residual.ensures.0
    (λ y. subst (λ (a : Answered). Part c.args.out.now c.answer_at.new.out a.entries)
    (ap (λ (o : Option Member). answer_in m.rules scene.place o call.id call.args w) (sym p.at))
    (c.in_err-value.ensures.does m f call.id w lent))

pub returns-in-Value-clause-does : goal.returns-in-Value-clause-does
returns-in-Value-clause-does c = λ m f most w p.
    let scene = c.args.scene.now in
    let call = c.args.call in
    let lent = paused-lent scene.library.now scene.unit.now scene.clock scene.place c.args.self.now c.args.live.now
    call f most w p in
    let d = c.in_ok-value.ensures.does m f call.id w lent in
    let l = d.0.0 in
    let r : Reply = reply.Value c.in-Value.value in
    subst (λ (a : Answered). IsPaused scene c.answer_at.new.self c.go.new.self c.go.result
    (given a.value.1 f)
    (most - 1) a.value.0 × (c.answer_at.new.out ≡ c.args.out.now ++ a.entries))
    (ap (λ (o : Option Member). answer_in m.rules scene.place o call.id call.args w) (sym p.at)) (
      subst (λ (x : Reply). IsPaused scene c.answer_at.new.self c.go.new.self c.go.result (given x f)
          (most - 1) (answer_in m.rules scene.place (Some p.member) call.id call.args w).value.0)
          (sym c.in-Value.is ∙ d.0.1)
          (record {
            stands = l.stands;
            member = l.member;
            at = l.at;
            turns = c.go.ensures.source scene.library.now l.member.script (given r f)
                (c.answer.ensures.source scene.library.now scene.unit.now l.member.script f call.id
                (subst (λ (x : Live). Waits scene.library.now scene.unit.now l.member.script f call.id x) (sym
                c.keep_room.ensures) l.waits));
            asks = asks-fewer scene.library.now scene.unit.now p.member.script l.member.script f call.id call.id
                c.args.live.now
                c.answer_at.new.live most r p.turns.1 l.waits c.in_ok-value.ensures.live.machine p.asks;
          }),
      d.1,
    )

pub returns-in-Stop-clause-does : goal.returns-in-Stop-clause-does
returns-in-Stop-clause-does c = λ m f most w p.
    let scene = c.args.scene.now in
    let call = c.args.call in
    let lent = paused-lent scene.library.now scene.unit.now scene.clock scene.place c.args.self.now c.args.live.now
    call f most w p in
    let d = c.in_ok-value.ensures.does m f call.id w lent in
    let l = d.0.0 in
    let fault = c.in-Stop.fault in
    let stop : Turn = turn.Faulted fault in
    let r : Reply = reply.Stop fault in
    subst (λ (a : Answered). IsPaused scene c.answer_at.new.self c.answer_at.new.live stop
    (given a.value.1 f)
    (most - 1) a.value.0 × (c.answer_at.new.out ≡ c.args.out.now ++ a.entries))
    (ap (λ (o : Option Member). answer_in m.rules scene.place o call.id call.args w) (sym p.at)) (
      subst (λ (x : Reply). IsPaused scene c.answer_at.new.self c.answer_at.new.live stop (given x f)
          (most - 1) (answer_in m.rules scene.place (Some p.member) call.id call.args w).value.0)
          (sym c.in-Stop.is ∙ d.0.1)
          (record {
            stands = l.stands;
            member = l.member;
            at = l.at;
            turns = (l.waits.stop fault, l.waits.carries);
            asks = asks-fewer scene.library.now scene.unit.now p.member.script l.member.script f call.id call.id
                c.args.live.now
                c.answer_at.new.live most r p.turns.1 l.waits c.in_ok-value.ensures.live.machine p.asks;
          }),
      d.1,
    )
