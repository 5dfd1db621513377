use Rattle.std.proofs.Common.{◌<◌, [], ◌∷◌, ◌∙◌, Option, Ok as OkResult, ap, sym, subst}
use Rattle.std.proofs.lemmas.Result.{err_from_is_err_and}
use Rattle.lsl_lines.specs.declared.file.Step.{Step}
use Rattle.lsl_world.specs.Sizes.{IsStepOf, Size}
use Rattle.lsl_world.specs.Stands.{size_of}
use Rattle.lsl_world.proofs.Leaving.{rest-hands, rest-step}
use Rattle.lsl_top.specs.Goes.{steps_left}
use Rattle.lsl_top.proofs.Goings.{goes-none, goes-of, goes-units}
use Rattle.lsl_top.proofs.Parts.{is-rest, parts_left, rest-fewer, rests-more}
use Rattle.lsl_top.proofs.report.write_step.Goals as goal

pub write_rest-requires-clause-step : goal.write_rest-requires-clause-step
write_rest-requires-clause-step g c =
    let is = is-rest c.args.step.now c.in-Some.rest c.parts.left c.in-Some.ensures.value c.parts.invariant.rest in
    subst (λ (size : Size). IsStepOf size c.in-Some.rest) (sym c.parts.invariant.size)
    (rest-step (size_of c.args.world.now) c.args.step.now c.in-Some.rest is c.requires.step)

pub write_rest-requires-clause-named : goal.write_rest-requires-clause-named
write_rest-requires-clause-named g c =
    rest-hands c.parts.world c.args.step.now c.in-Some.rest
    (is-rest c.args.step.now c.in-Some.rest c.parts.left c.in-Some.ensures.value c.parts.invariant.rest)

pub returns-in_err-left-2-clause-goes : goal.returns-in_err-left-2-clause-goes
returns-in_err-left-2-clause-goes g c =
    let p = err_from_is_err_and c.from_residual-in_err-left-2.result c.from_residual-in_err-left-2.ensures.1 in
    rw (p.1, p.2)
    (c.parts.invariant.goes c.write_rest.new.world _ _ _
    (goes-of g.L.Link.gives c.args.world.now.units c.args.world.now.regions (c.in-Some.rest ∷ [])
    (steps_left c.parts.left) _ _ _ _ _ _ _ (ap steps_left c.in-Some.ensures.value)
    (goes-units g.L.Link.gives c.parts.world.units c.args.world.now.units c.parts.world.regions
    c.args.world.now.regions (c.in-Some.rest ∷ []) _ _ _ _ _ _ _ c.parts.invariant.units c.parts.invariant.regions
    c.in_err-left-2.ensures.goes)))

pub parts-preserved : goal.parts-preserved
parts-preserved g c =
    let inv = c.parts.invariant in
    let is = is-rest c.args.step.now c.in-Some.rest c.parts.left c.in-Some.ensures.value inv.rest in
    record {
      sound = c.in_ok-left-2.ensures.sound;
      units = c.write_rest.ensures.units ∙ inv.units;
      size = c.in_ok-left-2.ensures.size ∙ inv.size;
      carded = c.in_ok-left-2.ensures.carded;
      regions = c.write_rest.ensures.regions ∙ inv.regions;
      still = λ none. c.write_rest.ensures.plain (inv.still none);
      rest = rests-more c.args.step.now c.in-Some.rest c.in_ok-left-2.left is c.in_ok-left-2.ensures.rest;
      goes = λ last end done r others.
          inv.goes last end done r
          (goes-of g.L.Link.gives c.args.world.now.units c.args.world.now.regions (c.in-Some.rest ∷ [])
          (steps_left c.parts.left) _ _ _ _ _ _ _ (ap steps_left c.in-Some.ensures.value)
          (goes-units g.L.Link.gives c.parts.world.units c.args.world.now.units c.parts.world.regions
          c.args.world.now.regions (c.in-Some.rest ∷ []) _ _ _ _ _ _ _ inv.units inv.regions
          (c.in_ok-left-2.ensures.goes last end done r
          (goes-units g.L.Link.gives c.args.world.now.units c.parts.world.units c.args.world.now.regions
          c.parts.world.regions (steps_left c.in_ok-left-2.left) _ _ _ _ _ _ _ (sym inv.units) (sym inv.regions)
          others))));
    }

pub parts-smaller : goal.parts-smaller
parts-smaller g c =
    subst (λ (o : Option Step). parts_left c.in_ok-left-2.left < parts_left o) c.in-Some.ensures.value
    (rest-fewer c.in-Some.rest c.in_ok-left-2.left c.in_ok-left-2.ensures.rest)

pub returns-clause-goes : goal.returns-clause-goes
returns-clause-goes g c =
    c.parts.invariant.goes c.parts.world _ _ (OkResult tt)
    (goes-none g.L.Link.gives c.args.world.now.units c.args.world.now.regions tt (steps_left c.parts.left) _ _ _
    (ap steps_left (sym c.in_default.ensures.value)))
