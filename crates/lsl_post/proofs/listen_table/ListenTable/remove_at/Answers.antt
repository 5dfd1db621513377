use Rattle.std.proofs.Common.{ap, sym, subst, ◌∙◌}
use Rattle.std.specs.Prelude.{remove}
use Rattle.lsl_post.specs.Listens.{standing, Standing}
use Rattle.lsl_post.specs.Tables.{listens_of, IsTable}
use Rattle.lsl_post.proofs.Tables.{table-remove}
use Rattle.lsl_post.proofs.listen_table.ListenTable.remove_at.Goals as goal

pub invariant_of-self : goal.invariant_of-self
invariant_of-self c =
    subst (IsTable c.self.inside.next) (sym c.shift_remove_index.ensures.entries)
    (table-remove c.self.inside.next c.self.inside.table.entries c.args.place c.self.invariant).0

pub returns : goal.returns
returns c =
    ap (λ es. standing c.self.inside.next (listens_of es)) c.shift_remove_index.ensures.entries
    ∙ ap (standing c.self.inside.next) (table-remove c.self.inside.next c.self.inside.table.entries
    c.args.place c.self.invariant).1
    ∙ ap (λ (s : Standing). standing s.next (remove s.list c.args.place)) c.self.view_is
