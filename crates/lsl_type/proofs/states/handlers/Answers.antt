use Rattle.std.proofs.Common.{◌≡◌, ◌<◌, ◌≤◌, [], ◌∷◌, ◌++◌, length, sym, ap, ◌∙◌, subst, arith, Ok}
use Rattle.std.specs.Prelude.{map}
use Rattle.std.proofs.lemmas.Result.{err_from_is_err_and}
use Rattle.lsl_tree.specs.Scripts.{handler_of}
use Rattle.lsl_bodies.specs.Verdict.{each_verdict, Refuses}
use Rattle.lsl_type.specs.HeaderVerdicts.{handler_verdict}
use Rattle.lsl_bodies.proofs.Walks.{each_next, each_stop, each_end, each_map, fails_as}
use Rattle.lsl_type.proofs.HeaderWalks.{handler_next}
use Rattle.lsl_type.proofs.states.handlers.Goals as goal

pub returns-in_err-event : goal.returns-in_err-event
returns-in_err-event c =
    let xs = c.args.list.now in
    let es = c.loop-handler.events.items in
    let lt : c.loop-handler.handler-index < length xs = omega arith in
    let p = err_from_is_err_and c.from_residual.result c.from_residual.ensures.1 in
    let found = subst (λ l. Refuses c.in_err-event.field-0.0
    (handler_verdict l (handler_of c.handler-item.result))) c.as_slice.ensures.value c.in_err-event.ensures
    in
    rw (p.1, p.2) (fails_as c.in_err-event.field-0.0 (handler_next es c.handler-item.result)
    (each_verdict handler_verdict [] (map handler_of xs)) found (λ f v.
    each_map handler_verdict handler_of [] xs
    ∙ each_stop handler_next es f xs c.loop-handler.handler-index c.handler-item.result _ lt c.handler-item.is v
    c.loop-handler.invariant))

pub loop-handler-preserved : goal.loop-handler-preserved
loop-handler-preserved c =
    let xs = c.args.list.now in
    let es = c.loop-handler.events.items in
    let lt : c.loop-handler.handler-index < length xs = omega arith in
    let items : c.push.new.self.items ≡ c.loop-handler.events.items ++ c.in_ok-event.event ∷ [] =
    c.in_ok-push.ensures.items in
    let step : handler_next es c.handler-item.result ≡ Ok c.push.new.self.items =
    subst (λ l. handler_verdict l (handler_of c.handler-item.result) ≡ Ok (l ++ c.in_ok-event.event ∷ []))
    c.as_slice.ensures.value c.in_ok-event.ensures ∙ ap Ok (sym items) in
    each_next handler_next es c.push.new.self.items xs c.loop-handler.handler-index c.handler-item.result _ lt
    c.handler-item.is step c.loop-handler.invariant

pub returns : goal.returns
returns c =
    let xs = c.args.list.now in
    let over : length xs ≤ c.loop-handler.handler-index = omega arith in
    each_map handler_verdict handler_of [] xs
    ∙ each_end handler_next c.loop-handler.events.items xs c.loop-handler.handler-index _ over
    c.loop-handler.invariant
