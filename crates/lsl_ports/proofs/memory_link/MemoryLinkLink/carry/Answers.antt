use Rattle.std.proofs.Common.{inr, rules, ◌∙◌}
use Rattle.lsl_ports.proofs.LinkStates.{after-lost, after-delivered}
use Rattle.lsl_ports.proofs.memory_link.MemoryLinkLink.carry.Goals as goal

pub returns-then-contains-clause-after : goal.returns-then-contains-clause-after
returns-then-contains-clause-after c =
    let lost = c.in_ok-lose.ensures in
    inr (after-lost c.args.self.now c.lose.new.self c.args.sent.now lost.lists lost.counts.0 (search rules)
    lost.trips lost.counts.1)

pub returns-clause-after : goal.returns-clause-after
returns-clause-after c =
    let kept = c.in_ok-deliver.ensures in
    inr (after-delivered c.args.self.now c.deliver.new.self c.args.sent.now kept.lists kept.counts.0
    c.saturating_add-call.result c.as_slice.result.now (search rules) (search rules)
    (c.as_slice.ensures.value ∙ c.in_ok-back.ensures) kept.trips kept.counts.1)
