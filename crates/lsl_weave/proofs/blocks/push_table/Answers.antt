use Rattle.std.proofs.Common.{rules, ◌≡◌, ◌<◌, ◌++◌, length}
use Rattle.lsl_code.specs.Bodies.{plain_body}
use Rattle.lsl_weave.specs.Layout.{table}
use Rattle.lsl_weave.proofs.Emitting.{flat_more}
use Rattle.lsl_weave.proofs.Saved.{has_value}
use Rattle.lsl_weave.proofs.blocks.push_table.Goals as goal

pub loop-i-preserved : goal.loop-i-preserved
loop-i-preserved c =
    let b = plain_body c.args.function.now in
    let within : c.loop-i.i < length b.points = search rules in
    let x = has_value b.points c.loop-i.i within in
    let pushed : c.push.new.self ≡ c.loop-i.code ++ table b c.loop-i.i x.0 = search rules in
    flat_more (table b) b.points c.loop-i.i x.0 c.loop-i.code c.push.new.self _ x.1 pushed c.loop-i.invariant
