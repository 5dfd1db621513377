use Rattle.std.proofs.Common.{◌∙◌, arith, ap, sym, List, reverse}
use Rattle.std.proofs.lemmas.List.{nil_from_length}
use Rattle.lsl_value.specs.declared.tagged.Value.{Value}
use Rattle.lsl_code.specs.declared.frames.Mark.{Mark}
use Rattle.lsl_code.specs.Packs.{Packed, frames_in}
use Rattle.lsl_code.proofs.Packing.{all_ends}
use Rattle.lsl_code.proofs.Turning.{none_turned, popped_calls, popped_fit}
use Rattle.lsl_code.proofs.sacks.Sack.from_pack.Goals as goal

pub turn-requires : goal.turn-requires
turn-requires c =
    all_ends c.pack.inside.marks.items c.pack.inside.start c.pack.inside.values.items c.clear.new.self
    c.pack.invariant.0 c.pack.invariant.1 c.pack.view_is c.len.result (omega arith)
    (ap (λ (p : Packed). p.hand) c.clear.ensures)

pub from_stack-requires : goal.from_stack-requires
from_stack-requires c =
    let ends = all_ends c.pack.inside.marks.items c.pack.inside.start c.pack.inside.values.items c.clear.new.self
    c.pack.invariant.0 c.pack.invariant.1 c.pack.view_is c.len.result (omega arith)
    (ap (λ (p : Packed). p.hand) c.clear.ensures) in
    popped_fit c.pack.inside.marks.items c.turn.new.marks.items c.pop.new.self.items c.pack.inside.values.items
    c.reverse.new.self.items c.len.result ends (omega arith) c.turn.ensures c.reverse.ensures.items
    c.in-Some.mark c.in-Some.ensures.items

pub returns-in-Some : goal.returns-in-Some
returns-in-Some c =
    let ends = all_ends c.pack.inside.marks.items c.pack.inside.start c.pack.inside.values.items c.clear.new.self
    c.pack.invariant.0 c.pack.invariant.1 c.pack.view_is c.len.result (omega arith)
    (ap (λ (p : Packed). p.hand) c.clear.ensures) in
    c.from_stack.ensures
    ∙ popped_calls c.pack.inside.marks.items c.turn.new.marks.items c.pop.new.self.items c.pack.inside.values.items
    c.reverse.new.self.items c.len.result ends (omega arith) c.turn.ensures c.reverse.ensures.items
    c.in-Some.mark c.in-Some.ensures.items ∙ ap (λ (p : Packed). p.frames) c.pack.view_is
    ∙ ap (λ (p : Packed). p.frames) c.clear.ensures

pub invariant_of-result : goal.invariant_of-result
invariant_of-result c =
    let ends = all_ends c.pack.inside.marks.items c.pack.inside.start c.pack.inside.values.items c.clear.new.self
    c.pack.invariant.0 c.pack.invariant.1 c.pack.view_is c.len.result (omega arith)
    (ap (λ (p : Packed). p.hand) c.clear.ensures) in
    let none = none_turned c.pack.inside.marks.items c.turn.new.marks.items c.pack.inside.values.items c.len.result
    ends (omega arith) c.turn.ensures (omega (arith, c.in-None.ensures.cases.0)) in (
      nil_from_length c.pop.new.self.items (omega (arith, c.in-None.ensures.cases.1)),
      c.reverse.ensures.items ∙ ap (λ (l : List Value). reverse l) none.1,
    )

pub returns-in-None : goal.returns-in-None
returns-in-None c =
    let ends = all_ends c.pack.inside.marks.items c.pack.inside.start c.pack.inside.values.items c.clear.new.self
    c.pack.invariant.0 c.pack.invariant.1 c.pack.view_is c.len.result (omega arith)
    (ap (λ (p : Packed). p.hand) c.clear.ensures) in
    let none = none_turned c.pack.inside.marks.items c.turn.new.marks.items c.pack.inside.values.items c.len.result
    ends (omega arith) c.turn.ensures (omega (arith, c.in-None.ensures.cases.0)) in
    ap (λ (l : List Mark). frames_in 0 l c.pack.inside.values.items) (sym none.0)
    ∙ ap (λ (p : Packed). p.frames) c.pack.view_is ∙ ap (λ (p : Packed). p.frames) c.clear.ensures
