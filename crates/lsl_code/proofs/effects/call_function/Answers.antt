use Rattle.std.proofs.Common.{rules, ◌≡◌, ap, Some, slice_get}
use Rattle.lsl_compact.specs.Stacks.{Noted}
use Rattle.lsl_code.proofs.Steps.{call_step}
use Rattle.lsl_code.proofs.effects.call_function.Goals as goal

pub returns-clause-kinds : goal.returns-clause-kinds
returns-clause-kinds c =
    let there : slice_get c.args.names.now.functions c.args.f ≡ Some c.in-Some.signature.now = search rules in
    call_step _ _ _ _ _ _ c.requires there c.len.ensures (ap (λ (n : Noted). n.kinds) c.pop_all.ensures)
    c.in_ok-push_result.ensures.kinds
