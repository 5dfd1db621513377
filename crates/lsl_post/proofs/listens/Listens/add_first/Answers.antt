use Rattle.std.proofs.Common.{◌∙◌, ℤ, of_z, subst, sym, to_z, w32}
use Rattle.std.proofs.lemmas.Int.{to_z-of_z}
use Rattle.lsl_post.specs.Adding.{GivesListen}
use Rattle.lsl_post.specs.Filters.{filter}
use Rattle.lsl_post.specs.Listens.{Standing}
use Rattle.lsl_post.specs.Tables.{listens_in}
use Rattle.lsl_post.proofs.listens.Listens.add_first.Goals as goal

pub returns : goal.returns
returns c =
    let asked = filter (to_z w32 (of_z w32 c.args.channel)) c.args.name c.args.id c.args.message in
    let added = subst (λ (s : Standing). GivesListen asked s c.add-added.new.self c.add-added.result)
    (c.new-table.ensures ∙ sym c.requires) c.add-added.ensures in
    subst (λ (n : ℤ). GivesListen (filter n c.args.name c.args.id c.args.message) c.args.self.now
    (listens_in c.branch.inside.table) c.add-added.result) (to_z-of_z w32 c.args.channel c.ranges.channel)
    (subst (λ (s : Standing). GivesListen asked c.args.self.now s c.add-added.result)
    (sym (c.branch.view_is ∙ c.in_ok-self-inside.ensures)) added)
