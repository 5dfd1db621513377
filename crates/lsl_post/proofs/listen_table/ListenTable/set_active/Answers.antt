use Rattle.std.proofs.Common.{ap, ◌∙◌}
use Rattle.lsl_post.specs.Listens.{standing, with_active_at, Standing}
use Rattle.lsl_post.proofs.Tables.{table-active}
use Rattle.lsl_post.proofs.listen_table.ListenTable.set_active.Goals as goal

pub invariant_of-self : goal.invariant_of-self
invariant_of-self c =
    (table-active c.self.inside.next c.self.inside.table.entries c.args.place c.index_mut-listen.result.now
    c.args.active
    c.self.invariant c.index_mut-listen.ensures.value).0

pub returns-clause-listens : goal.returns-clause-listens
returns-clause-listens c =
    ap (standing c.self.inside.next) (table-active c.self.inside.next c.self.inside.table.entries c.args.place
    c.index_mut-listen.result.now c.args.active c.self.invariant c.index_mut-listen.ensures.value).1
    ∙ ap (λ (s : Standing). standing s.next (with_active_at c.args.active c.args.place s.list)) c.self.view_is
