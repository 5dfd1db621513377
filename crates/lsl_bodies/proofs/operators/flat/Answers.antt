use Rattle.std.proofs.Common.{◌<◌, ◌≤◌, ◌+◌, length, drop, sym, ap, ◌∙◌, arith}
use Rattle.std.proofs.lemmas.Result.{err_from_is_err_and}
use Rattle.lsl_tree.specs.Expressions.{exprs_of}
use Rattle.lsl_tree.specs.Nodes.{nodes_of}
use Rattle.lsl_bodies.specs.Verdict.{Verdict, ◌>>=◌}
use Rattle.lsl_bodies.specs.ValueVerdicts.{flat_verdict}
use Rattle.lsl_bodies.proofs.Walks.{flat_of, flat_from, element_r, flat_next, flat_end, fails_as}
use Rattle.lsl_bodies.proofs.operators.flat.Goals as goal

pub returns-in_err-element : goal.returns-in_err-element
returns-in_err-element c =
    let xs = c.args.exprs.now in
    let ms = c.args.nodes.now in
    let hx : c.loop-i.i < length xs = omega arith in
    let hm : c.loop-i.i < length ms = omega arith in
    let p = err_from_is_err_and c.from_residual.result c.from_residual.ensures.1 in
    rw (p.1, p.2) (fails_as c.in_err-element.field-0.0 (element_r c.index-nodes-i.result c.index-exprs-i.result)
    (flat_verdict (exprs_of xs) (nodes_of ms)) c.in_err-element.ensures (λ f v.
    flat_of xs ms c.requires
    ∙ (sym (flat_next c.loop-i.i xs c.index-exprs-i.result ms c.index-nodes-i.result _ hx c.index-exprs-i.is hm
    c.index-nodes-i.is c.loop-i.invariant)
    ∙ ap (λ (w : Verdict (Unit {0})). w >>= λ u. flat_from (drop (c.loop-i.i + 1) xs) (drop (c.loop-i.i + 1) ms)) v)))

pub loop-i-preserved : goal.loop-i-preserved
loop-i-preserved c =
    let xs = c.args.exprs.now in
    let ms = c.args.nodes.now in
    let hx : c.loop-i.i < length xs = omega arith in
    let hm : c.loop-i.i < length ms = omega arith in
    sym (ap (λ (w : Verdict (Unit {0})). w >>= λ u.
    flat_from (drop (c.loop-i.i + 1) xs) (drop (c.loop-i.i + 1) ms)) c.in_ok-element.ensures)
    ∙ flat_next c.loop-i.i xs c.index-exprs-i.result ms c.index-nodes-i.result _ hx c.index-exprs-i.is hm
    c.index-nodes-i.is c.loop-i.invariant

pub returns : goal.returns
returns c =
    let over : length c.args.exprs.now ≤ c.loop-i.i = omega arith in
    flat_of c.args.exprs.now c.args.nodes.now c.requires
    ∙ flat_end c.loop-i.i c.args.exprs.now c.args.nodes.now _ over c.loop-i.invariant
