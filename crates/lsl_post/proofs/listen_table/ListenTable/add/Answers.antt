use Rattle.std.proofs.Common.{◌≡◌, Some, None, map, position, ap, sym, subst, ◌∙◌, w32, to_z, of_z}
use Rattle.std.specs.Prelude.{MatchResult}
use Rattle.std.proofs.lemmas.Int.{to_z-of_z}
use Rattle.lsl_post.specs.declared.listen.ListenFault.TheVariants.{TooMany}
use Rattle.lsl_post.specs.Filters.{filter, same_filter}
use Rattle.lsl_post.specs.Listens.{filter_of, listened, Standing}
use Rattle.lsl_post.proofs.Adding.{listened-new}
use Rattle.lsl_post.proofs.listen_table.ListenTable.add.Goals as goal

pub returns-in-None : goal.returns-in-None
returns-in-None c =
    let asked = filter (to_z w32 (of_z w32 c.args.channel)) c.args.name c.args.id c.args.message in
    let none = ap (position (same_filter asked))
    (sym (c.self.invariant.keys ∙ ap (λ (s : Standing). map filter_of s.list) c.self.view_is))
    ∙ sym c.get_index_of.ensures.index ∙ c.in-None.is in
    subst (λ n. MatchResult c.add_new.result
    (λ k. listened (filter n c.args.name c.args.id c.args.message) c.args.self.now
    ≡ Some (k, c.add_new.new.self))
    (λ fault. (c.add_new.new.self ≡ c.args.self.now)
    × (fault ≡ TooMany → listened (filter n c.args.name c.args.id c.args.message) c.args.self.now
    ≡ None)))
    (to_z-of_z w32 c.args.channel c.ranges.channel)
    (listened-new asked c.args.self.now c.add_new.new.self c.add_new.result none c.add_new.ensures)
