use Rattle.std.proofs.Common.{◌≡◌, sym, ◌∙◌, subst}
use Rattle.std.specs.Prelude.{Option, Some}
use Rattle.lsl_machine.specs.State.{CanRun}
use Rattle.lsl_post.specs.declared.parts.ScriptParts.{ScriptParts}
use Rattle.lsl_script.specs.declared.live.Live.{Live}
use Rattle.lsl_script.specs.Awake.{IsAwake}
use Rattle.lsl_script.specs.Fitting.{FitsUnit}
use Rattle.lsl_script.specs.Parts.{parts_of}
use Rattle.lsl_script.specs.Waking.{CanWake, IsThere, StandsWoken, WakesAs}
use Rattle.lsl_script.proofs.scripts.Script.wake_into.Goals as goal

pub of-requires-clause-fits : goal.of-requires-clause-fits
of-requires-clause-fits c =
    let at : c.deref_mut.result.now ≡ c.in-Some.script = c.deref_mut.ensures.value ∙ c.script.view_is in
    subst (FitsUnit c.args.unit.now) (sym at)
    (subst (λ (seat : Option ScriptParts). IsThere seat (FitsUnit c.args.unit.now))
    (sym c.take.ensures.value ∙ c.in-Some.is) c.requires.fits)

pub of-requires-clause-ready : goal.of-requires-clause-ready
of-requires-clause-ready c =
    let at : c.deref_mut.result.now ≡ c.in-Some.script = c.deref_mut.ensures.value ∙ c.script.view_is in
    subst CanWake (sym at)
    (subst (λ (seat : Option ScriptParts). IsThere seat CanWake) (sym c.take.ensures.value ∙ c.in-Some.is)
    c.requires.ready)

pub returns-clause-awake : goal.returns-clause-awake
returns-clause-awake c = subst (IsAwake c.args.unit.now) (sym c.with.ensures) c.in_ok-handling.ensures.awake

pub returns-clause-able : goal.returns-clause-able
returns-clause-able c =
    subst (λ (live : Live). CanRun live.machine.standing) (sym c.with.ensures) c.in_ok-handling.ensures.able

pub returns-clause-stands : goal.returns-clause-stands
returns-clause-stands c = subst StandsWoken (sym c.with.ensures) c.in_ok-handling.ensures.took.stands

pub returns-clause-source : goal.returns-clause-source
returns-clause-source c codes s known is lawful =
    let at : c.deref_mut.result.now ≡ c.in-Some.script = c.deref_mut.ensures.value ∙ c.script.view_is in
    let same : Some c.in-Some.script ≡ Some (parts_of codes s) = sym c.in-Some.is ∙ c.take.ensures.value ∙ is in
    let script : c.in-Some.script ≡ parts_of codes s = cc in
    subst (WakesAs codes c.args.unit.now s) (sym c.with.ensures)
    (c.in_ok-handling.ensures.source codes s known (at ∙ script) lawful)
