use Rattle.std.proofs.Common.{◌<◌, length, arith, ap, ◌∙◌, refl}
use Rattle.lsl_table.specs.Events.{event_name_of}
use Rattle.lsl_tree.specs.Program.{routine_of, handler_of}
use Rattle.lsl_gen.specs.Programs.{made_by, IsShort}
use Rattle.lsl_gen.proofs.FunctionSteps.{all_more, all_taken, made_step, handlers_step}
use Rattle.lsl_gen.proofs.functions.push_handlers.Goals as goal

pub loop-r-preserved : goal.loop-r-preserved
loop-r-preserved c =
    let lt : c.loop-r.r-index < length c.args.routines.now = omega arith in (
      made_step (λ h. made_by c.args.names.now (event_name_of h.event) h.routine) handler_of _ _ _ _ _ _ _ lt
          c.r-item.is c.loop-r.invariant.0
          (c.in_ok-made.ensures.made ∙ ap
          (λ name. made_by c.args.names.now name (routine_of c.r-item.result.routine))
          (c.in_ok-name.ensures ∙ c.event_name.ensures)) c.in_ok-push-2.ensures.ok,
      handlers_step _ _ _ _ _ _ _ _ _ _ _ lt c.r-item.is c.loop-r.invariant.1
          (c.in_ok-number.ensures ∙ c.len.ensures) refl c.in_ok-push.ensures.ok c.in_ok-push-2.ensures.ok,
      all_more (λ r. IsShort (routine_of r.routine)) c.args.routines.now c.loop-r.r-index c.r-item.result lt
          c.r-item.is c.loop-r.invariant.2 c.in_ok-made.ensures.small,
    )

pub returns-clause-small : goal.returns-clause-small
returns-clause-small c = all_taken (λ r. IsShort (routine_of r.routine)) c.args.routines.now c.loop-r.r-index
    (omega arith) c.loop-r.invariant.2
