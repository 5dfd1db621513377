use Rattle.std.proofs.Common.{◌≡◌, ◌∙◌, ◌-◌, ◌≤◌, ap, sym, arith, List, length, take, drop, Some}
use Rattle.lsl_value.specs.declared.tagged.Value.{Value}
use Rattle.lsl_code.specs.declared.frames.Mark.{Mark}
use Rattle.lsl_code.specs.Packs.{end_in}
use Rattle.lsl_code.specs.Saving.{frame_of}
use Rattle.lsl_code.proofs.OnStack.{outer_call, outer_span, sack_count, top_within}
use Rattle.lsl_code.proofs.sacks.Sack.call.Goals as goal

pub overflow_sub-place : goal.overflow_sub-place
overflow_sub-place c =
    let some : c.self.inside.top ≡ Some c.in-Some.top = cc in
    let outer = c.self.inside.outer.items in
    let values = c.self.inside.values.items in
    let count = sack_count c.self.inside.top c.in-Some.top outer values c.args.self.now c.self.view_is c.self.invariant
    some in
    omega arith

pub offset_bounds-deref-start : goal.offset_bounds-deref-start
offset_bounds-deref-start c =
    let some : c.self.inside.top ≡ Some c.in-Some.top = cc in
    let outer = c.self.inside.outer.items in
    let values = c.self.inside.values.items in
    let place : c.len.result - c.args.number ≡ length outer - c.args.number = omega arith in
    let from = c.end_of-start.ensures
    ∙ ap (λ (l : List Mark). end_in 0 (take (c.len.result - c.args.number) l)) c.deref.ensures.value in
    let within = top_within c.self.inside.top c.in-Some.top outer values c.args.self.now c.self.view_is
    c.self.invariant some
    c.args.number (c.len.result - c.args.number) c.end_of-start.result place from c.if-number-eq0.true in
    let long = ap (λ (vs : List Value). length vs) c.deref-then-number-eq0.ensures.value in
    let small = c.deref-then-number-eq0.type_inv.1 in
    omega arith

pub slice_bounds-result-count : goal.slice_bounds-result-count
slice_bounds-result-count c =
    let some : c.self.inside.top ≡ Some c.in-Some.top = cc in
    let outer = c.self.inside.outer.items in
    let values = c.self.inside.values.items in
    let place : c.len.result - c.args.number ≡ length outer - c.args.number = omega arith in
    let from = c.end_of-start.ensures
    ∙ ap (λ (l : List Mark). end_in 0 (take (c.len.result - c.args.number) l)) c.deref.ensures.value in
    let within = top_within c.self.inside.top c.in-Some.top outer values c.args.self.now c.self.view_is
    c.self.invariant some
    c.args.number (c.len.result - c.args.number) c.end_of-start.result place from c.if-number-eq0.true in
    let long = ap (λ (vs : List Value). length vs) c.deref-then-number-eq0.ensures.value in
    omega arith

pub slice_bounds-result-start : goal.slice_bounds-result-start
slice_bounds-result-start c =
    let some : c.self.inside.top ≡ Some c.in-Some.top = cc in
    let outer = c.self.inside.outer.items in
    let values = c.self.inside.values.items in
    let place : c.len.result - c.args.number ≡ length outer - c.args.number = omega arith in
    let from = c.end_of-start.ensures
    ∙ ap (λ (l : List Mark). end_in 0 (take (c.len.result - c.args.number) l)) c.deref.ensures.value in
    let within = top_within c.self.inside.top c.in-Some.top outer values c.args.self.now c.self.view_is
    c.self.invariant some
    c.args.number (c.len.result - c.args.number) c.end_of-start.result place from c.if-number-eq0.true in
    let long = ap (λ (vs : List Value). length vs) c.deref-then-number-eq0.ensures.value in
    let le : c.end_of-start.result ≤ length c.deref-then-number-eq0.result.now = omega arith in
    le

pub offset_bounds-deref-start-2 : goal.offset_bounds-deref-start-2
offset_bounds-deref-start-2 c =
    let some : c.self.inside.top ≡ Some c.in-Some.top = cc in
    let outer = c.self.inside.outer.items in
    let values = c.self.inside.values.items in
    let place : c.len.result - c.args.number ≡ length outer - c.args.number = omega arith in
    let from = c.end_of-start.ensures
    ∙ ap (λ (l : List Mark). end_in 0 (take (c.len.result - c.args.number) l)) c.deref.ensures.value in
    let span = outer_span c.self.inside.top c.in-Some.top outer values c.args.self.now c.self.view_is
    c.self.invariant some
    c.args.number (c.len.result - c.args.number) c.end_of-start.result place from c.index-mark.result.now (omega arith)
    c.requires c.index-mark.ensures in
    let start = span.0 in
    let end = span.1 in
    let long = ap (λ (vs : List Value). length vs) c.deref-2.ensures.value in
    let small = c.deref-2.type_inv.1 in
    omega arith

pub slice_bounds-result-count-2 : goal.slice_bounds-result-count-2
slice_bounds-result-count-2 c =
    let some : c.self.inside.top ≡ Some c.in-Some.top = cc in
    let outer = c.self.inside.outer.items in
    let values = c.self.inside.values.items in
    let place : c.len.result - c.args.number ≡ length outer - c.args.number = omega arith in
    let from = c.end_of-start.ensures
    ∙ ap (λ (l : List Mark). end_in 0 (take (c.len.result - c.args.number) l)) c.deref.ensures.value in
    let span = outer_span c.self.inside.top c.in-Some.top outer values c.args.self.now c.self.view_is
    c.self.invariant some
    c.args.number (c.len.result - c.args.number) c.end_of-start.result place from c.index-mark.result.now (omega arith)
    c.requires c.index-mark.ensures in
    let start = span.0 in
    let end = span.1 in
    let long = ap (λ (vs : List Value). length vs) c.deref-2.ensures.value in
    start

pub slice_bounds-result-start-2 : goal.slice_bounds-result-start-2
slice_bounds-result-start-2 c =
    let some : c.self.inside.top ≡ Some c.in-Some.top = cc in
    let outer = c.self.inside.outer.items in
    let values = c.self.inside.values.items in
    let place : c.len.result - c.args.number ≡ length outer - c.args.number = omega arith in
    let from = c.end_of-start.ensures
    ∙ ap (λ (l : List Mark). end_in 0 (take (c.len.result - c.args.number) l)) c.deref.ensures.value in
    let span = outer_span c.self.inside.top c.in-Some.top outer values c.args.self.now c.self.view_is
    c.self.invariant some
    c.args.number (c.len.result - c.args.number) c.end_of-start.result place from c.index-mark.result.now (omega arith)
    c.requires c.index-mark.ensures in
    let start = span.0 in
    let end = span.1 in
    let long = ap (λ (vs : List Value). length vs) c.deref-2.ensures.value in
    start

pub slice_bounds-result-end-2 : goal.slice_bounds-result-end-2
slice_bounds-result-end-2 c =
    let some : c.self.inside.top ≡ Some c.in-Some.top = cc in
    let outer = c.self.inside.outer.items in
    let values = c.self.inside.values.items in
    let place : c.len.result - c.args.number ≡ length outer - c.args.number = omega arith in
    let from = c.end_of-start.ensures
    ∙ ap (λ (l : List Mark). end_in 0 (take (c.len.result - c.args.number) l)) c.deref.ensures.value in
    let span = outer_span c.self.inside.top c.in-Some.top outer values c.args.self.now c.self.view_is
    c.self.invariant some
    c.args.number (c.len.result - c.args.number) c.end_of-start.result place from c.index-mark.result.now (omega arith)
    c.requires c.index-mark.ensures in
    let start = span.0 in
    let end = span.1 in
    let long = ap (λ (vs : List Value). length vs) c.deref-2.ensures.value in
    let le : c.index-mark.result.now.end ≤ length c.deref-2.result.now = omega arith in
    le

pub returns : goal.returns
returns c =
    let some : c.self.inside.top ≡ Some c.in-Some.top = cc in
    let outer = c.self.inside.outer.items in
    let values = c.self.inside.values.items in
    let place : c.len.result - c.args.number ≡ length outer - c.args.number = omega arith in
    let from = c.end_of-start.ensures
    ∙ ap (λ (l : List Mark). end_in 0 (take (c.len.result - c.args.number) l)) c.deref.ensures.value in
    let mark = c.index-mark.result.now in
    outer_call c.self.inside.top c.in-Some.top outer values c.args.self.now c.self.view_is c.self.invariant some
    c.args.number (c.len.result - c.args.number) c.end_of-start.result place from mark (omega arith) c.requires
    c.index-mark.ensures
    ∙ ap (λ (vs : List Value). Some (frame_of mark.function mark.point
    (take (mark.end - c.end_of-start.result) (drop c.end_of-start.result vs)))) (sym c.deref-2.ensures.value)
