use Rattle.std.proofs.Common.{pos, ◌+ℤ◌, rules, w32, w64, FitsSigned}
use Rattle.std.proofs.lemmas.Int.{to_z-of_z, ints}
use Rattle.lsl_pure.proofs.RangeLemmas.{range_inside, range_outside}
use Rattle.lsl_pure.proofs.ranges.Range.new.Goals as goal

pub returns-then-first-last-clause-same : goal.returns-then-first-last-clause-same
returns-then-first-last-clause-same c = λ k low.
    let first : FitsSigned w32 c.args.first = c.ranges.first in
    let last : FitsSigned w32 c.args.last = c.ranges.last in
    let first-place : FitsSigned w64 c.place-first.result = search rules in
    let last-place : FitsSigned w64 c.place-last.result = search rules in
    let behind : FitsSigned w64 (c.place-last.result +ℤ pos 1) = search (rules, ints) in
    range_inside c.args.n k c.args.first c.args.last c.place-first.result c.place-last.result
    c.clamp-before.result c.clamp-behind.result
    (simp to_z-of_z at c.place-first.ensures) (simp to_z-of_z at c.place-last.ensures)
    (simp to_z-of_z at c.if-first-last.true)
    (simp to_z-of_z at c.clamp-before.ensures.value) (simp to_z-of_z at c.clamp-behind.ensures.value) low

pub returns-else-first-last-clause-same : goal.returns-else-first-last-clause-same
returns-else-first-last-clause-same c = λ k low.
    let first : FitsSigned w32 c.args.first = c.ranges.first in
    let last : FitsSigned w32 c.args.last = c.ranges.last in
    let first-place : FitsSigned w64 c.place-first.result = search rules in
    let last-place : FitsSigned w64 c.place-last.result = search rules in
    let behind : FitsSigned w64 (c.place-last.result +ℤ pos 1) = search (rules, ints) in
    range_outside c.args.n k c.args.first c.args.last c.place-first.result c.place-last.result
    c.clamp-before.result c.clamp-behind.result
    (simp to_z-of_z at c.place-first.ensures) (simp to_z-of_z at c.place-last.ensures)
    (simp to_z-of_z at c.if-first-last.false)
    (simp to_z-of_z at c.clamp-before.ensures.value) (simp to_z-of_z at c.clamp-behind.ensures.value) low
