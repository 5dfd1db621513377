use Rattle.std.proofs.Common.{ap}
use Rattle.lsl_compact.specs.Stacks.{Noted}
use Rattle.lsl_code.proofs.Steps.{list_step}
use Rattle.lsl_code.proofs.effects.step.Goals as goal

pub returns-in_ok-push-in-MakeList-clause-kinds : goal.returns-in_ok-push-in-MakeList-clause-kinds
returns-in_ok-push-in-MakeList-clause-kinds c =
    list_step _ _ _ _ _ _ c.in-MakeList.is c.requires (ap (λ (n : Noted). n.kinds) c.pop_all.ensures)
    (ap (λ (n : Noted). n.kinds) c.in_ok-push-in-MakeList.ensures.pushed)
