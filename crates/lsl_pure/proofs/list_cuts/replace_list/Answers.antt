use Rattle.std.proofs.Common.{◌≡◌, ◌∙◌, ◌<◌, List, IfErr, subst, sym, w32}
use Rattle.std.proofs.lemmas.Int.{to_z-of_z}
use Rattle.lsl_value.specs.Atoms.{list_charge_of}
use Rattle.lsl_value.specs.declared.list.Atom.{Atom}
use Rattle.lsl_pure.specs.declared.PureFault.TheVariants.{TooBig}
use Rattle.lsl_pure.proofs.RangeLemmas.{HasCuts-at, IfOk-same, left_inside, left_outside, replaced_straight, replaced_turned}
use Rattle.lsl_pure.proofs.list_cuts.replace_list.Goals as goal

pub returns-in_ok-rest-clause-ok : goal.returns-in_ok-rest-clause-ok
returns-in_ok-rest-clause-ok c =
    IfOk-same c.insert.result _ _
    (sym (replaced_turned c.args.items c.args.other c.in_ok-rest.rest _ _ c.args.first c.args.last c.len.result
    _ c.new-range.result.turned (to_z-of_z w32 c.args.first c.ranges.first)
    (to_z-of_z w32 c.args.last c.ranges.last)
    c.len.ensures.value c.new-range.ensures.turned c.if-range.true
    (c.in_ok-rest.ensures ∙ sym (left_inside c.args.items c.args.first c.args.last c.len.result
    c.new-range.result.start c.new-range.result.end c.new-range.result.turned c.len.ensures.value
    c.new-range.ensures.ordered c.new-range.ensures.within
    (HasCuts-at c.len.result _ _ c.args.first c.args.last _ _ _ (to_z-of_z w32 c.args.first c.ranges.first)
    (to_z-of_z w32 c.args.last c.ranges.last) c.new-range.ensures.same) c.if-range.true))
    c.len-len.ensures.value))
    c.insert.ensures.ok

pub returns-in_ok-rest-clause-too_big : goal.returns-in_ok-rest-clause-too_big
returns-in_ok-rest-clause-too_big c =
    let P : List Atom → Type 0 = λ xs. IfErr c.insert.result (λ fault. fault ≡ TooBig → 65536 < list_charge_of xs) in
    subst P
    (replaced_turned c.args.items c.args.other c.in_ok-rest.rest _ _ c.args.first c.args.last c.len.result _
    c.new-range.result.turned (to_z-of_z w32 c.args.first c.ranges.first)
    (to_z-of_z w32 c.args.last c.ranges.last)
    c.len.ensures.value c.new-range.ensures.turned c.if-range.true
    (c.in_ok-rest.ensures ∙ sym (left_inside c.args.items c.args.first c.args.last c.len.result
    c.new-range.result.start c.new-range.result.end c.new-range.result.turned c.len.ensures.value
    c.new-range.ensures.ordered c.new-range.ensures.within
    (HasCuts-at c.len.result _ _ c.args.first c.args.last _ _ _ (to_z-of_z w32 c.args.first c.ranges.first)
    (to_z-of_z w32 c.args.last c.ranges.last) c.new-range.ensures.same) c.if-range.true))
    c.len-len.ensures.value)
    c.insert.ensures.too_big

pub returns-in_ok-rest-2-clause-ok : goal.returns-in_ok-rest-2-clause-ok
returns-in_ok-rest-2-clause-ok c =
    IfOk-same c.insert-else-range.result _ _
    (sym (replaced_straight c.args.items c.args.other c.in_ok-rest-2.rest _ _ c.args.first c.args.last
    c.len.result _ c.new-range.result.turned (to_z-of_z w32 c.args.first c.ranges.first)
    (to_z-of_z w32 c.args.last c.ranges.last)
    c.len.ensures.value c.new-range.ensures.turned c.if-range.false
    (c.in_ok-rest-2.ensures ∙ sym (left_outside c.args.items c.args.first c.args.last c.len.result
    c.new-range.result.start c.new-range.result.end c.new-range.result.turned c.len.ensures.value
    c.new-range.ensures.ordered c.new-range.ensures.within
    (HasCuts-at c.len.result _ _ c.args.first c.args.last _ _ _ (to_z-of_z w32 c.args.first c.ranges.first)
    (to_z-of_z w32 c.args.last c.ranges.last) c.new-range.ensures.same) c.if-range.false))
    (c.new-range.ensures.start c.if-range.false)))
    c.insert-else-range.ensures.ok

pub returns-in_ok-rest-2-clause-too_big : goal.returns-in_ok-rest-2-clause-too_big
returns-in_ok-rest-2-clause-too_big c =
    let P : List Atom → Type 0 = λ xs. IfErr c.insert-else-range.result
    (λ fault. fault ≡ TooBig → 65536 < list_charge_of xs) in
    subst P
    (replaced_straight c.args.items c.args.other c.in_ok-rest-2.rest _ _ c.args.first c.args.last c.len.result _
    c.new-range.result.turned (to_z-of_z w32 c.args.first c.ranges.first)
    (to_z-of_z w32 c.args.last c.ranges.last)
    c.len.ensures.value c.new-range.ensures.turned c.if-range.false
    (c.in_ok-rest-2.ensures ∙ sym (left_outside c.args.items c.args.first c.args.last c.len.result
    c.new-range.result.start c.new-range.result.end c.new-range.result.turned c.len.ensures.value
    c.new-range.ensures.ordered c.new-range.ensures.within
    (HasCuts-at c.len.result _ _ c.args.first c.args.last _ _ _ (to_z-of_z w32 c.args.first c.ranges.first)
    (to_z-of_z w32 c.args.last c.ranges.last) c.new-range.ensures.same) c.if-range.false))
    (c.new-range.ensures.start c.if-range.false))
    c.insert-else-range.ensures.too_big
