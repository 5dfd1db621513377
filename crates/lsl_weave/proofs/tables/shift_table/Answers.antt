use Rattle.std.proofs.Common.{rules, ◌≡◌, slice_get, ◌+◌, Some, [], ◌∷◌, ◌++◌, refl}
use Rattle.std.proofs.lemmas.Option.{slice_get_read}
use Rattle.lsl_weave.specs.Layout.{width}
use Rattle.lsl_weave.proofs.Sums.{table_starts, table_more, table_ends}
use Rattle.lsl_weave.proofs.tables.shift_table.Goals as goal

pub loop-i-init : goal.loop-i-init
loop-i-init c = table_starts 1 width c.args.code.now _ (search rules)

pub loop-i-preserved : goal.loop-i-preserved
loop-i-preserved c =
    let xs = c.args.code.now in
    let x = c.index-code-i.result in
    let found : slice_get xs c.loop-i.i
    ≡ Some x = slice_get_read xs _ c.loop-i.i x refl c.loop-i-test.true c.index-code-i.is in
    let wide : c.in_ok-sum.sum ≡ c.loop-i.sum + width x = search rules in
    let pushed : c.push.new.self.items ≡ c.loop-i.table.items ++ c.in_ok-sum.sum ∷ [] = search rules in
    table_more 1 width xs c.loop-i.i c.loop-i.table.items c.push.new.self.items c.loop-i.sum c.in_ok-sum.sum x
    c.loop-i.invariant found wide pushed

pub returns : goal.returns
returns c =
    table_ends 1 width c.args.code.now c.loop-i.i c.loop-i.table.items c.loop-i.sum c.loop-i.invariant
    (search rules)
