use Rattle.std.proofs.Common.{◌<◌, length, arith, ap, ◌∙◌}
use Rattle.lsl_tree.specs.Program.{routine_of, function_of}
use Rattle.lsl_gen.specs.Programs.{made_by, IsShort}
use Rattle.lsl_gen.proofs.FunctionSteps.{all_more, all_taken, made_step}
use Rattle.lsl_gen.proofs.functions.push_functions.Goals as goal

pub loop-r-preserved : goal.loop-r-preserved
loop-r-preserved c =
    let lt : c.loop-r.r-index < length c.args.routines.now = omega arith in (
      made_step (λ f. made_by c.args.names.now f.name f.routine) function_of _ _ _ _ _ _ _ lt c.r-item.is
          c.loop-r.invariant.0
          (c.in_ok-made.ensures.made ∙ ap
          (λ name. made_by c.args.names.now name (routine_of c.r-item.result.routine)) c.in_ok-name.ensures)
          c.in_ok-push.ensures.ok,
      all_more (λ r. IsShort (routine_of r.routine)) c.args.routines.now c.loop-r.r-index c.r-item.result lt
          c.r-item.is c.loop-r.invariant.1 c.in_ok-made.ensures.small,
    )

pub returns-clause-small : goal.returns-clause-small
returns-clause-small c = all_taken (λ r. IsShort (routine_of r.routine)) c.args.routines.now c.loop-r.r-index
    (omega arith) c.loop-r.invariant.1
