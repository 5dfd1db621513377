use Rattle.std.proofs.Common.{rules, arith, ◌≡◌, slice_get, ◌+◌, Some, [], ◌∷◌, ◌++◌, refl}
use Rattle.std.proofs.lemmas.Option.{slice_get_read}
use Rattle.lsl_weave.specs.Tables.{block_width}
use Rattle.lsl_weave.proofs.Sums.{table_starts, table_more, table_ends}
use Rattle.lsl_weave.proofs.tables.block_table.Goals as goal

pub loop-i-init : goal.loop-i-init
loop-i-init c = table_starts c.args.start (block_width c.args.slots c.args.extra) c.args.points.now _
    (search rules)

pub loop-i-preserved : goal.loop-i-preserved
loop-i-preserved c =
    let w = block_width c.args.slots c.args.extra in
    let xs = c.args.points.now in
    let x = c.index-points-i.result in
    let found : slice_get xs c.loop-i.i
    ≡ Some x = slice_get_read xs _ c.loop-i.i x refl c.loop-i-test.true c.index-points-i.is in
    let wide : c.in_ok-sum.sum ≡ c.loop-i.sum + w x =
    omega (arith, c.waiting_of.ensures, c.in_ok-plus.ensures, c.in_ok-plus-2.ensures, c.in_ok-sum.ensures) in
    let pushed : c.push.new.self.items ≡ c.loop-i.table.items ++ c.in_ok-sum.sum ∷ [] = search rules in
    table_more c.args.start w xs c.loop-i.i c.loop-i.table.items c.push.new.self.items c.loop-i.sum
    c.in_ok-sum.sum x
    c.loop-i.invariant found wide pushed

pub returns : goal.returns
returns c =
    table_ends c.args.start
    (block_width c.args.slots c.args.extra) c.args.points.now c.loop-i.i c.loop-i.table.items
    c.loop-i.sum c.loop-i.invariant (search rules)
