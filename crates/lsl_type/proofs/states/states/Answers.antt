use Rattle.std.proofs.Common.{◌<◌, ◌≤◌, [], length, ◌∙◌, arith}
use Rattle.std.specs.Prelude.{map}
use Rattle.std.proofs.lemmas.Result.{err_from_is_err_and}
use Rattle.lsl_tree.specs.Scripts.{state_of}
use Rattle.lsl_bodies.specs.Verdict.{each_verdict}
use Rattle.lsl_type.specs.HeaderVerdicts.{state_verdict}
use Rattle.lsl_bodies.proofs.Walks.{each_next, each_stop, each_end, each_map, fails_as}
use Rattle.lsl_type.proofs.HeaderWalks.{state_next}
use Rattle.lsl_type.proofs.states.states.Goals as goal

pub returns-in_err-add_state : goal.returns-in_err-add_state
returns-in_err-add_state c =
    let xs = c.args.list.now in
    let lt : c.loop-state.state-index < length xs = omega arith in
    let p = err_from_is_err_and c.from_residual.result c.from_residual.ensures.1 in
    rw (p.1, p.2) (fails_as c.in_err-add_state.field-0.0 (state_next c.loop-state.names c.state-item.result)
    (each_verdict state_verdict [] (map state_of xs)) c.in_err-add_state.ensures (λ f v.
    each_map state_verdict state_of [] xs
    ∙ each_stop state_next c.loop-state.names f xs c.loop-state.state-index c.state-item.result _ lt
    c.state-item.is v c.loop-state.invariant))

pub loop-state-preserved : goal.loop-state-preserved
loop-state-preserved c =
    let xs = c.args.list.now in
    let lt : c.loop-state.state-index < length xs = omega arith in
    each_next state_next c.loop-state.names c.add_state.new.names xs c.loop-state.state-index
    c.state-item.result _ lt c.state-item.is c.in_ok-add_state.ensures c.loop-state.invariant

pub returns : goal.returns
returns c =
    let xs = c.args.list.now in
    let over : length xs ≤ c.loop-state.state-index = omega arith in
    each_map state_verdict state_of [] xs
    ∙ each_end state_next c.loop-state.names xs c.loop-state.state-index _ over c.loop-state.invariant
