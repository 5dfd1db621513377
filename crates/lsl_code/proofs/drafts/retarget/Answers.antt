use Rattle.std.proofs.Common.{◌<◌, ◌≤◌, length, sym, ap, ◌∙◌, arith, slice_set}
use Rattle.lsl_code.proofs.Retargeting.{retargeted-past, retargeted-set}
use Rattle.lsl_code.proofs.drafts.retarget.Goals as goal

pub returns-then-place-len : goal.returns-then-place-len
returns-then-place-len c =
    let code = c.args.code.now in
    let lt : c.args.place < length code.items = omega (arith, c.len.ensures, code.ok.0, c.if-place-len.true) in
    ap (slice_set code.items c.args.place) c.lead.ensures
    ∙ retargeted-set code.items c.args.place c.args.target c.index_mut.result.now lt c.index_mut.ensures.value

pub returns-else-place-len : goal.returns-else-place-len
returns-else-place-len c =
    let code = c.args.code.now in
    let le : length code.items ≤ c.args.place = omega (arith, c.len.ensures, code.ok.0, c.if-place-len.false) in
    sym (retargeted-past code.items c.args.place c.args.target le)
