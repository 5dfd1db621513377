use Rattle.std.proofs.Common.{◌++◌, ◌∷◌, [], ap, sym, subst, ◌∙◌}
use Rattle.lsl_post.specs.Listens.{standing, Standing, IsStanding}
use Rattle.lsl_post.proofs.Tables.{table-push}
use Rattle.lsl_post.proofs.listen_table.ListenTable.push.Goals as goal

pub invariant_of-self-2 : goal.invariant_of-self-2
invariant_of-self-2 c =
    (table-push c.self.inside.next c.self.inside.table.entries c.insert.new.self.entries
    c.in_ok-filter.filter c.args.listen
    c.self.invariant c.in_ok-filter.ensures
    (subst (λ (s : Standing). IsStanding (standing s.next (s.list ++ c.args.listen ∷ [])))
    (sym c.self.view_is) c.requires)
    c.in_ok-insert.ensures.entries).0

pub returns-clause-ok : goal.returns-clause-ok
returns-clause-ok c =
    ap (standing c.self.inside.next)
    (table-push c.self.inside.next c.self.inside.table.entries c.insert.new.self.entries
    c.in_ok-filter.filter c.args.listen
    c.self.invariant c.in_ok-filter.ensures
    (subst (λ (s : Standing). IsStanding (standing s.next (s.list ++ c.args.listen ∷ [])))
    (sym c.self.view_is) c.requires)
    c.in_ok-insert.ensures.entries).1
    ∙ ap (λ (s : Standing). standing s.next (s.list ++ c.args.listen ∷ [])) c.self.view_is
