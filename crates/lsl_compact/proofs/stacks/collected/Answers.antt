use Rattle.std.proofs.Common.{◌∙◌, sym, ap, arith, List, reverse, ℕ, ◌-◌, ◌++◌, ◌∷◌, [], get_or}
use Rattle.lsl_value.specs.declared.tagged.Kind.TheVariants.{Int as int}
use Rattle.lsl_value.specs.declared.tagged.Kind.{Kind}
use Rattle.lsl_compact.specs.declared.stacks.Link.{Link}
use Rattle.std.proofs.lemmas.List.{append-nil, append_assoc}
use Rattle.lsl_compact.specs.Stacks.{stack_of}
use Rattle.lsl_compact.proofs.Growing.{stack_empty, top_link}
use Rattle.lsl_compact.proofs.stacks.collected.Goals as goal

pub loop-top-smaller : goal.loop-top-smaller
loop-top-smaller c =
    let t = top_link c.args.links.now c.loop-top.top (record { below = 0; kind = int }) c.requires.links c.loop-top-test.true
    c.loop-top.invariant.top in
    t.1

pub loop-top-preserved : goal.loop-top-preserved
loop-top-preserved c =
    let links = c.args.links.now in
    let kinds = c.loop-top.kinds.items in
    let t = top_link links c.loop-top.top (record { below = 0; kind = int }) c.requires.links c.loop-top-test.true c.loop-top.invariant.top in
    let link : Link = get_or links (c.loop-top.top - 1) (record { below = 0; kind = int }) in
    let lt = t.1 in
    let le = c.loop-top.invariant.top in
    record {
      stack = ap (λ (k : List Kind). k ++ stack_of links link.below) c.in_ok-push.ensures.items
          ∙ append_assoc kinds (link.kind ∷ []) (stack_of links link.below)
          ∙ ap (λ (s : List Kind). kinds ++ s) (sym t.0) ∙ c.loop-top.invariant.stack;
      top = omega arith;
    }

pub returns : goal.returns
returns c =
    let links = c.args.links.now in
    let kinds = c.loop-top.kinds.items in
    let none = ap (λ (n : ℕ). stack_of links n) c.loop-top-test.false ∙ stack_empty links in
    let all = sym (append-nil kinds) ∙ ap (λ (s : List Kind). kinds ++ s) (sym none) ∙ c.loop-top.invariant.stack in
    c.reverse.ensures.items ∙ ap (λ (k : List Kind). reverse k) all
