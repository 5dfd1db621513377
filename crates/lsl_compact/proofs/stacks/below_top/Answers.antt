use Rattle.std.proofs.Common.{◌∙◌, sym, ap, arith, List, drop, ℕ}
use Rattle.lsl_value.specs.declared.tagged.Kind.TheVariants.{Int as int}
use Rattle.lsl_value.specs.declared.tagged.Kind.{Kind}
use Rattle.lsl_compact.specs.Stacks.{stack_of}
use Rattle.lsl_compact.proofs.Growing.{stack_empty, top_link}
use Rattle.lsl_compact.proofs.stacks.below_top.Goals as goal

pub returns-then-top-eq0-clause-stack : goal.returns-then-top-eq0-clause-stack
returns-then-top-eq0-clause-stack c =
    let links = c.args.links.now in
    stack_empty links ∙ sym (ap (λ (n : ℕ). drop 1 (stack_of links n)) c.if-top-eq0.true
    ∙ ap (λ (s : List Kind). drop 1 s) (stack_empty links))

pub returns-clause-stack : goal.returns-clause-stack
returns-clause-stack c =
    let t = top_link c.args.links.now c.args.top (record { below = 0; kind = int }) c.requires.links c.if-top-eq0.false c.requires.top in
    sym (ap (λ (s : List Kind). drop 1 s) t.0)

pub returns-clause-top : goal.returns-clause-top
returns-clause-top c =
    let t = top_link c.args.links.now c.args.top (record { below = 0; kind = int }) c.requires.links c.if-top-eq0.false c.requires.top in
    let lt = t.1 in
    let le = c.requires.top in
    omega arith
