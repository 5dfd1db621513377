use Rattle.std.proofs.Common.{◌≡◌, ◌∙◌, sym, ap, ℕ, List, length, get_or, min, take, Some}
use Rattle.std.proofs.lemmas.List.{take_min}
use Rattle.std.proofs.lemmas.Option.{slice_get_within}
use Rattle.lsl_code.specs.declared.woven_functions.WovenCode.{WovenCode}
use Rattle.lsl_image.proofs.WroteLemmas.{item-at}
use Rattle.lsl_view.specs.Calls.{slot_count, slots_in}
use Rattle.lsl_view.proofs.calls.slots.Goals as goal

pub returns : goal.returns
returns c =
    let functions = c.args.unit.now.functions in
    let f = c.args.call.now.function in
    let values = c.args.call.now.values.now in
    let code = c.requires.0 in
    let function = c.index-as_slice-from.result in
    let is = c.index-as_slice-from.is
    ∙ ap (λ (l : List WovenCode). get_or l c.from.result function) c.as_slice.ensures
    ∙ ap (λ (n : ℕ). get_or functions n function) c.from.ensures in
    let there = item-at functions f function (slice_get_within functions f code c.requires.1) is in
    let same : Some code ≡ Some function = sym c.requires.1 ∙ sym there in
    let one : code ≡ function = cc in
    let count : slot_count functions f ≡ c.len.result = ap slots_in c.requires.1
    ∙ ap (λ (w : WovenCode). length w.slots) one ∙ sym c.len.ensures in
    ap (λ (n : ℕ). take n values) (c.min.ensures ∙ ap (λ (n : ℕ). min n (length values)) (sym count))
    ∙ take_min (slot_count functions f) values
