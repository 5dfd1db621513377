use Rattle.std.proofs.Common.{◌+◌, [], ◌∷◌, drop, ◌∙◌, refl, sym, subst, Ok as OkResult}
use Rattle.std.proofs.lemmas.List.{drop_all}
use Rattle.std.proofs.lemmas.Result.{err_from_is_err_and}
use Rattle.lsl_lines.specs.declared.file.Step.{Step}
use Rattle.lsl_world.specs.Handing.{CanHand}
use Rattle.lsl_world.specs.Sizes.{IsStepOf, Size}
use Rattle.lsl_world.specs.Stages.{IsAt}
use Rattle.lsl_world.specs.Stands.{size_of}
use Rattle.lsl_top.proofs.Goings.{can-hand, goes-none, goes-stop, goes-then, goes-units, step-here}
use Rattle.lsl_top.proofs.report.write_steps.Goals as goal

pub loop-step-init : goal.loop-step-init
loop-step-init g c = record {
  sound = c.requires.sound;
  units = refl;
  size = refl;
  carded = c.requires.carded;
  regions = refl;
  still = λ none. none;
  goes = λ last end done r rest. rest;
}

pub write_step-requires-clause-sound : goal.write_step-requires-clause-sound
write_step-requires-clause-sound g c = c.loop-step.invariant.sound

pub write_step-requires-clause-step : goal.write_step-requires-clause-step
write_step-requires-clause-step g c =
    subst (λ (size : Size). IsStepOf size c.step-item.result) (sym c.loop-step.invariant.size)
    (subst (λ (step : Step). IsStepOf (size_of c.args.world.now) step) (sym c.step-item.is)
    (c.requires.steps c.loop-step.step-index c.step-item.result c.loop-step-test.true))

pub write_step-requires-clause-carded : goal.write_step-requires-clause-carded
write_step-requires-clause-carded g c = c.loop-step.invariant.carded

pub write_step-requires-clause-named : goal.write_step-requires-clause-named
write_step-requires-clause-named g c =
    can-hand c.args.world.now c.loop-step.world c.step-item.result c.loop-step.invariant.regions
    c.loop-step.invariant.still
    (subst (λ (step : Step). CanHand c.args.world.now step) (sym c.step-item.is)
    (c.requires.named c.loop-step.step-index c.step-item.result c.loop-step-test.true))

pub returns-in_err-write_step-clause-goes : goal.returns-in_err-write_step-clause-goes
returns-in_err-write_step-clause-goes g c =
    let p = err_from_is_err_and c.from_residual.result c.from_residual.ensures.1 in
    rw (p.1, p.2)
    (c.loop-step.invariant.goes c.write_step.new.world _ _ _
    (goes-stop g.L.Link.gives c.args.world.now.units c.args.world.now.regions c.step-item.result
    (drop (c.loop-step.step-index + 1) c.args.steps.now) (drop c.loop-step.step-index c.args.steps.now) _ _ _ _ _ _
    c.in_err-write_step.field-0.0
    (step-here c.args.steps.now c.loop-step.step-index c.step-item.result c.loop-step-test.true c.step-item.is)
    (goes-units g.L.Link.gives c.loop-step.world.units c.args.world.now.units c.loop-step.world.regions
    c.args.world.now.regions (c.step-item.result ∷ []) _ _ _ _ _ _ _ c.loop-step.invariant.units
    c.loop-step.invariant.regions c.in_err-write_step.ensures.goes)))

pub loop-step-preserved : goal.loop-step-preserved
loop-step-preserved g c =
    record {
      sound = c.in_ok-write_step.ensures.sound;
      units = c.in_ok-write_step.ensures.units ∙ c.loop-step.invariant.units;
      size = c.in_ok-write_step.ensures.size ∙ c.loop-step.invariant.size;
      carded = c.in_ok-write_step.ensures.carded;
      regions = c.write_step.ensures.regions ∙ c.loop-step.invariant.regions;
      still = λ none. c.write_step.ensures.plain (c.loop-step.invariant.still none);
      goes = λ last end done r rest.
          c.loop-step.invariant.goes last end done r
          (goes-then g.L.Link.gives c.args.world.now.units c.args.world.now.regions tt c.step-item.result
          (drop (c.loop-step.step-index + 1) c.args.steps.now) (drop c.loop-step.step-index c.args.steps.now) _
          (λ programs. IsAt programs c.write_step.new.world) _ _ _ end _ _ done r
          (step-here c.args.steps.now c.loop-step.step-index c.step-item.result c.loop-step-test.true c.step-item.is)
          (goes-units g.L.Link.gives c.loop-step.world.units c.args.world.now.units c.loop-step.world.regions
          c.args.world.now.regions (c.step-item.result ∷ []) _ _ _ _ _ _ _ c.loop-step.invariant.units
          c.loop-step.invariant.regions c.in_ok-write_step.ensures.goes) rest);
    }

pub returns-clause-goes : goal.returns-clause-goes
returns-clause-goes g c =
    c.loop-step.invariant.goes c.loop-step.world _ _ (OkResult tt)
    (goes-none g.L.Link.gives c.args.world.now.units c.args.world.now.regions tt _ _ _ _
    (drop_all c.loop-step.step-index c.args.steps.now c.loop-step-test.false))

pub returns-clause-units : goal.returns-clause-units
returns-clause-units g c = c.loop-step.invariant.units

pub returns-clause-sound : goal.returns-clause-sound
returns-clause-sound g c = c.loop-step.invariant.sound
