use Rattle.std.proofs.Common.{◌≡◌, ◌∙◌, ◌+◌, ◌-◌, ap, take, drop, arith}
use Rattle.std.proofs.lemmas.List.{drop-take}
use Rattle.lsl_value.proofs.shared.kept.Goals as goal

pub returns : goal.returns
returns c =
    let sum : c.args.end ≡ c.args.start + (c.args.end - c.args.start) = omega arith in
    c.drop_front.ensures ∙ ap (drop c.args.start) (c.truncate.ensures.items ∙ ap (λ n. take n c.args.list.items) sum)
    ∙ drop-take c.args.start (c.args.end - c.args.start) c.args.list.items
