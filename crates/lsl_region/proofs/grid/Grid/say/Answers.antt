use Rattle.std.specs.Prelude.{None}
use Rattle.std.proofs.Common.{◌≡◌, rules, subst}
use Rattle.lsl_post.specs.declared.filters.Filter.{Filter}
use Rattle.lsl_post.specs.Filters.{filter}
use Rattle.lsl_region.specs.Texts.{cut_speech}
use Rattle.lsl_post.specs.Journal.{Tells}
use Rattle.lsl_region.specs.Grids.{Stands}
use Rattle.lsl_region.specs.Posting.{said_to_all}
use Rattle.lsl_region.proofs.grid.Grid.say.Goals as goal

pub returns-clause-does : goal.returns-clause-does
returns-clause-does c = λ m clock w st.
    let q : c.in_ok-said.said ≡ filter c.args.channel c.args.name.now c.args.key.now (cut_speech c.args.text.now)
    = search (rules, c.in_ok-said.ensures) in
    subst (λ (f : Filter). Tells c.said_to_all.result
    (λ v _. Stands c.args.library.now None clock c.said_to_all.new.self v)
    c.args.out.now c.said_to_all.new.out (said_to_all m.rules f w)) q
    (c.said_to_all.ensures.does m clock w st)
