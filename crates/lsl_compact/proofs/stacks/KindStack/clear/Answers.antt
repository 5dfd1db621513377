use Rattle.std.proofs.Common.{◌∙◌, sym, ap, arith, List, length, []}
use Rattle.lsl_value.specs.declared.tagged.Kind.{Kind}
use Rattle.lsl_compact.specs.Stacks.{Noted, listed, noted_of}
use Rattle.lsl_compact.proofs.Growing.{stack_empty}
use Rattle.lsl_compact.proofs.stacks.KindStack.clear.Goals as goal

pub invariant_of-self : goal.invariant_of-self
invariant_of-self c =
    let links = c.self.inside.links.items in
    let i = c.self.invariant in
    (i.0, omega arith, i.2, sym (ap (λ (k : List Kind). length k) (stack_empty links)), omega arith)

pub returns : goal.returns
returns c =
    let links = c.self.inside.links.items in
    ap (λ (k : List Kind). noted_of k (listed links c.self.inside.tops.items)) (stack_empty links)
    ∙ ap (λ (o : Noted). noted_of [] o.noted) c.self.view_is
