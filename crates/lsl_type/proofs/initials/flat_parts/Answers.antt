use Rattle.std.proofs.Common.{◌<◌, ◌≤◌, ◌+◌, length, drop, sym, ap, ◌∙◌, arith}
use Rattle.std.proofs.lemmas.Result.{err_from_is_err_and}
use Rattle.lsl_bodies.specs.Verdict.{Verdict, ◌>>=◌}
use Rattle.lsl_type.specs.HeaderVerdicts.{flat_parts_verdict}
use Rattle.lsl_type.proofs.HeaderWalks.{part_flat_r, parts_next, parts_end}
use Rattle.lsl_bodies.proofs.Walks.{fails_as}
use Rattle.lsl_type.proofs.initials.flat_parts.Goals as goal

pub returns-in_err-flat_part : goal.returns-in_err-flat_part
returns-in_err-flat_part c =
    let xs = c.args.atoms.now in
    let ps = c.args.parts.now in
    let hx : c.loop-i.i < length xs = omega arith in
    let hp : c.loop-i.i < length ps = omega arith in
    let p = err_from_is_err_and c.from_residual.result c.from_residual.ensures.1 in
    rw (p.1, p.2) (fails_as c.in_err-flat_part.field-0.0
    (part_flat_r c.index-parts-i.result c.index-atoms-i.result) (flat_parts_verdict xs ps)
    c.in_err-flat_part.ensures (λ f v.
    sym (parts_next c.loop-i.i xs c.index-atoms-i.result ps c.index-parts-i.result _ hx c.index-atoms-i.is hp
    c.index-parts-i.is c.loop-i.invariant)
    ∙ ap (λ (w : Verdict (Unit {0})). w >>= λ u.
    flat_parts_verdict (drop (c.loop-i.i + 1) xs) (drop (c.loop-i.i + 1) ps)) v))

pub loop-i-preserved : goal.loop-i-preserved
loop-i-preserved c =
    let xs = c.args.atoms.now in
    let ps = c.args.parts.now in
    let hx : c.loop-i.i < length xs = omega arith in
    let hp : c.loop-i.i < length ps = omega arith in
    sym (ap (λ (w : Verdict (Unit {0})). w >>= λ u.
    flat_parts_verdict (drop (c.loop-i.i + 1) xs) (drop (c.loop-i.i + 1) ps)) c.in_ok-flat_part.ensures)
    ∙ parts_next c.loop-i.i xs c.index-atoms-i.result ps c.index-parts-i.result _ hx c.index-atoms-i.is hp
    c.index-parts-i.is c.loop-i.invariant

pub returns : goal.returns
returns c =
    let over : length c.args.atoms.now ≤ c.loop-i.i = omega arith in
    parts_end c.loop-i.i c.args.atoms.now c.args.parts.now _ over c.loop-i.invariant
