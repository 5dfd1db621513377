use Rattle.std.proofs.Common.{◌≡◌, sym, ◌∙◌, subst}
use Rattle.lsl_machine.specs.State.{CanRun}
use Rattle.lsl_post.specs.declared.parts.ScriptParts.{ScriptParts}
use Rattle.lsl_script.specs.declared.live.Live.{Live}
use Rattle.lsl_script.specs.Awake.{IsAwake}
use Rattle.lsl_script.specs.Fitting.{FitsUnit}
use Rattle.lsl_script.specs.Waking.{CanWake, TakesNext, WakesAs, awake_with}
use Rattle.lsl_script.proofs.Readies.{ready_wakes}
use Rattle.lsl_script.proofs.scripts.Script.wake.Goals as goal

pub of-requires-clause-fits : goal.of-requires-clause-fits
of-requires-clause-fits c =
    let at : c.deref_mut.result.now ≡ c.args.self = c.deref_mut.ensures.value ∙ c.script.view_is in
    subst (FitsUnit c.args.unit.now) (sym at) c.requires.fits

pub of-requires-clause-ready : goal.of-requires-clause-ready
of-requires-clause-ready c =
    let at : c.deref_mut.result.now ≡ c.args.self = c.deref_mut.ensures.value ∙ c.script.view_is in
    subst CanWake (sym at)
    (ready_wakes c.args.clock c.args.self (sym c.ready.ensures.value ∙ c.if-not-ready.false))

pub returns-clause-awake : goal.returns-clause-awake
returns-clause-awake c = subst (IsAwake c.args.unit.now) (sym c.with.ensures) c.in_ok-handling.ensures.awake

pub returns-clause-able : goal.returns-clause-able
returns-clause-able c =
    subst (λ (live : Live). CanRun live.machine.standing) (sym c.with.ensures) c.in_ok-handling.ensures.able

pub returns-clause-took : goal.returns-clause-took
returns-clause-took c =
    let at : c.deref_mut.result.now ≡ c.args.self = c.deref_mut.ensures.value ∙ c.script.view_is in
    subst (TakesNext c.args.unit.now c.args.self) (sym c.with.ensures)
    (subst (λ (parts : ScriptParts). TakesNext c.args.unit.now parts
    (awake_with c.of.new.parts c.in_ok-handling.handling)) at c.in_ok-handling.ensures.took)

pub returns-clause-source : goal.returns-clause-source
returns-clause-source c codes s known is lawful =
    let at : c.deref_mut.result.now ≡ c.args.self = c.deref_mut.ensures.value ∙ c.script.view_is in
    subst (WakesAs codes c.args.unit.now s) (sym c.with.ensures)
    (c.in_ok-handling.ensures.source codes s known (at ∙ is) lawful)
