use Rattle.std.proofs.Common.{◌<◌, ◌++◌, length, arith, ap, map, ◌∙◌, refl, subst}
use Rattle.std.specs.Prelude.{All}
use Rattle.lsl_table.specs.Events.{event_name_of}
use Rattle.lsl_tree.specs.Program.{routine_of, handler_of}
use Rattle.lsl_gen.specs.Programs.{made_by, IsShort, numbered_handlers}
use Rattle.lsl_gen.proofs.FunctionSteps.{all_more, all_taken, states_made, states_step}
use Rattle.lsl_gen.proofs.functions.push_states.Goals as goal

pub loop-state-preserved : goal.loop-state-preserved
loop-state-preserved c =
    let lt : c.loop-state.state-index < length c.args.states.now = omega arith in
    let made = c.in_ok-handlers.ensures.made
    ∙ ap (λ hs. c.loop-state.functions ++ map
    (λ h. made_by c.args.names.now (event_name_of h.event) h.routine) (map handler_of hs))
    c.deref.ensures.value in
    let listed = c.in_ok-handlers.ensures.listed
    ∙ ap (λ hs. numbered_handlers (length c.loop-state.functions) (map handler_of hs)) c.deref.ensures.value
    in
    let small = subst (All (λ r. IsShort (routine_of r.routine))) c.deref.ensures.value
    c.in_ok-handlers.ensures.small in (
      states_made (λ h. made_by c.args.names.now (event_name_of h.event) h.routine) _ _ _ _ _ _ lt
          c.state-item.is c.loop-state.invariant.0 made,
      states_step (λ h. made_by c.args.names.now (event_name_of h.event) h.routine) _ _ _ _ _ _ _ _ _ _ _ lt
          c.state-item.is c.loop-state.invariant.1 c.in_ok-name.ensures listed refl c.in_ok-push.ensures.ok
          made,
      all_more (λ s. All (λ r. IsShort (routine_of r.routine)) s.handlers.items) c.args.states.now
          c.loop-state.state-index c.state-item.result lt c.state-item.is c.loop-state.invariant.2 small,
    )

pub returns-clause-small : goal.returns-clause-small
returns-clause-small c = all_taken (λ s. All (λ r. IsShort (routine_of r.routine)) s.handlers.items)
    c.args.states.now c.loop-state.state-index (omega arith) c.loop-state.invariant.2
