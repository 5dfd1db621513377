use Rattle.std.proofs.Common.{◌≡◌, arith}
use Rattle.lsl_bytes.proofs.AtomLemmas.{int-behind, int-no_tag, int-other_tag}
use Rattle.lsl_bytes.proofs.values.take_int.Goals as goal

pub returns-in_err-tag : goal.returns-in_err-tag
returns-in_err-tag c = rw c.from_residual.ensures (int-no_tag c.args.bytes.now c.args.place c.in_err-tag.ensures)

pub returns-then-tag-ne-INT_TAG : goal.returns-then-tag-ne-INT_TAG
returns-then-tag-ne-INT_TAG c =
    int-other_tag c.args.bytes.now c.args.place c.in_ok-tag.tag c.in_ok-tag.next c.in_ok-tag.ensures
    (λ e. omega arith)

pub returns : goal.returns
returns c =
    let is : c.in_ok-tag.tag ≡ 1 = omega arith in
    let tagged = rw is at c.in_ok-tag.ensures in
    int-behind c.args.bytes.now c.args.place c.in_ok-tag.next _ tagged c.take_i32.ensures
