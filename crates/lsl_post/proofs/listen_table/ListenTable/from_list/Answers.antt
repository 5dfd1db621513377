use Rattle.std.proofs.Common.{◌++◌, ◌∷◌, [], append_assoc, ap, sym, subst, ◌∙◌, w32}
use Rattle.std.proofs.lemmas.Int.{to_z-of_z}
use Rattle.lsl_post.specs.Listens.{standing, IsStanding}
use Rattle.lsl_post.proofs.Standings.{standing-prefix}
use Rattle.lsl_post.proofs.listen_table.ListenTable.from_list.Goals as goal

pub push-requires : goal.push-requires
push-requires c =
    let next = c.loop-listen.invariant.next ∙ to_z-of_z w32 c.args.next c.ranges.next in
    let all = sym c.loop-listen.invariant.all
    ∙ ap (λ l. c.loop-listen.listens.list ++ l) c.in-Some.ensures.steps.0
    ∙ sym (append_assoc c.loop-listen.listens.list (c.in-Some.listen ∷ []) c.next.new.self.rest.items) in
    subst (λ n. IsStanding (standing n (c.loop-listen.listens.list ++ c.in-Some.listen ∷ []))) (sym next)
    (standing-prefix c.args.next (c.loop-listen.listens.list ++ c.in-Some.listen ∷ []) _
    (subst (λ l. IsStanding (standing c.args.next l)) all c.requires))
