use Rattle.std.proofs.Common.{◌∙◌, sym, ap, arith, List, length, ℕ}
use Rattle.lsl_value.specs.declared.tagged.Kind.{Kind}
use Rattle.lsl_compact.specs.Stacks.{Noted, stack_of}
use Rattle.lsl_compact.proofs.Growing.{stack_empty, top_is}
use Rattle.lsl_compact.proofs.stacks.KindStack.pop.Goals as goal

pub returns-then-self-eq0-clause-kinds : goal.returns-then-self-eq0-clause-kinds
returns-then-self-eq0-clause-kinds c =
    let links = c.self.inside.links.items in
    let none = sym (ap (λ (o : Noted). o.kinds) c.self.view_is) ∙ ap (λ (n : ℕ). stack_of links n) c.if-self-eq0.true
    ∙ stack_empty links in
    (none, none)

pub overflow_sub-self : goal.overflow_sub-self
overflow_sub-self c =
    let t = top_is c.self.inside.links.items c.self.inside.top c.index-link.result.now c.self.invariant.0
    c.if-self-eq0.false c.self.invariant.1 c.index-link.ensures in
    let one = ap (λ (k : List Kind). length k) t.0 in
    let high = c.self.invariant.3 in
    omega arith

pub invariant_of-self : goal.invariant_of-self
invariant_of-self c =
    let i = c.self.invariant in
    let t = top_is c.self.inside.links.items c.self.inside.top c.index-link.result.now i.0 c.if-self-eq0.false i.1
    c.index-link.ensures in
    let one = ap (λ (k : List Kind). length k) t.0 in
    let lt = t.1 in
    let le = i.1 in
    let high = i.3 in
    let low = i.4 in
    (i.0, omega arith, i.2, omega arith, omega arith)

pub returns-clause-kinds : goal.returns-clause-kinds
returns-clause-kinds c =
    let t = top_is c.self.inside.links.items c.self.inside.top c.index-link.result.now c.self.invariant.0
    c.if-self-eq0.false c.self.invariant.1 c.index-link.ensures in
    sym (ap (λ (o : Noted). o.kinds) c.self.view_is) ∙ t.0
