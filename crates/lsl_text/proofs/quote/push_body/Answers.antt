use Rattle.std.proofs.Common.{◌≡◌, ◌+◌, ◌-◌, ap, arith, drop, length-drop, take, take_all}
use Rattle.lsl_text.proofs.Plain.{rest_last, run_more}
use Rattle.lsl_text.proofs.quote.push_body.Goals as goal

pub runs-preserved : goal.runs-preserved
runs-preserved c =
    let text = c.args.text.now in
    let d = c.runs.done in
    let k = c.in-Some.place in
    let count : d + k - d ≡ k = omega arith in
    run_more text _ _ c.args.out.now.items c.runs.out.items _ _ d k c.in-Some.ensures c.runs.invariant.1
    c.in_ok-extend_from_slice.ensures.items c.in_ok-push_escaped.ensures.ok
    (take_all _ (drop d text) (omega (arith, length-drop d text))) (ap (λ n. take n (drop d text)) count)
    c.runs.invariant.0

pub returns-clause-ok : goal.returns-clause-ok
returns-clause-ok c =
    let text = c.args.text.now in
    let d = c.runs.done in
    rest_last c.extend_from_slice-2.result text _ c.args.out.now.items c.runs.out.items _ d c.in_default.ensures
    c.runs.invariant.1 c.extend_from_slice-2.ensures.items
    (take_all _ (drop d text) (omega (arith, length-drop d text)))
