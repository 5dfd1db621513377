use Rattle.std.proofs.Common.{◌∙◌, refl, ap, subst, sym, arith, length, List, []}
use Rattle.lsl_value.specs.declared.tagged.Value.{Value}
use Rattle.lsl_code.specs.declared.frames.Frame.{Frame}
use Rattle.lsl_code.specs.declared.frames.Mark.{Mark}
use Rattle.lsl_code.specs.Packs.{EndAt, packed}
use Rattle.lsl_code.proofs.OnStack.{no_call, some_fits, some_view}
use Rattle.lsl_code.proofs.Turning.{packed_ends, packed_view, whole_ends}
use Rattle.lsl_code.proofs.sacks.Sack.into_pack.Goals as goal

pub invariant_of-result : goal.invariant_of-result
invariant_of-result c =
    let none = no_call c.self.inside.top c.self.inside.outer.items c.self.inside.values.items c.in_default.is
    c.self.invariant in
    let zero = ap (λ (l : List Value). length l) none.1 in
    (subst (λ (l : List Mark). EndAt 0 l c.len-end.result) (sym none.0) (omega arith), omega arith)

pub turn-requires : goal.turn-requires
turn-requires c =
    let top = c.in-Some.top in
    let mark : Mark = record { function = top.function; point = top.point; end = c.len-end.result } in
    let fit = some_fits c.self.inside.top top c.self.inside.outer.items c.self.inside.values.items c.args.self
    c.self.view_is c.self.invariant c.in-Some.is in
    whole_ends c.self.inside.outer.items c.push.new.self.items mark c.self.inside.values.items c.len-end.result
    fit c.in_ok-push.ensures.items refl (omega arith)

pub invariant_of-result-2 : goal.invariant_of-result-2
invariant_of-result-2 c =
    let top = c.in-Some.top in
    let mark : Mark = record { function = top.function; point = top.point; end = c.len-end.result } in
    let fit = some_fits c.self.inside.top top c.self.inside.outer.items c.self.inside.values.items c.args.self
    c.self.view_is c.self.invariant c.in-Some.is in
    packed_ends c.self.inside.outer.items c.push.new.self.items mark c.self.inside.values.items c.len-end.result
    fit c.in_ok-push.ensures.items refl (omega arith)
    c.turn.new.marks.items c.reverse.new.self.items c.turn.ensures c.reverse.ensures.items

pub returns : goal.returns
returns c =
    let top = c.in-Some.top in
    let mark : Mark = record { function = top.function; point = top.point; end = c.len-end.result } in
    let fit = some_fits c.self.inside.top top c.self.inside.outer.items c.self.inside.values.items c.args.self
    c.self.view_is c.self.invariant c.in-Some.is in
    packed_view c.self.inside.outer.items c.push.new.self.items mark c.self.inside.values.items c.len-end.result
    fit c.in_ok-push.ensures.items refl (omega arith)
    c.turn.new.marks.items c.reverse.new.self.items c.turn.ensures c.reverse.ensures.items
    ∙ ap (λ (fs : List Frame). packed fs []) (some_view c.self.inside.top top c.self.inside.outer.items
    c.self.inside.values.items c.args.self c.self.view_is c.self.invariant c.in-Some.is)
