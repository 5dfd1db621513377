use Rattle.std.proofs.Common.{rules, ◌≡◌, [], ◌∷◌, ◌++◌}
use Rattle.lsl_code.specs.declared.instructions.Instr.TheVariants.{BackSlot, BackTop}
use Rattle.lsl_weave.specs.Layout.{back_slots, back_tops}
use Rattle.lsl_weave.proofs.Emitting.{back_slots_more, back_tops_more}
use Rattle.lsl_weave.proofs.blocks.push_back_block.Goals as goal

pub loop-i-preserved : goal.loop-i-preserved
loop-i-preserved c =
    let pushed : c.push.new.self ≡ c.loop-i.code ++ BackSlot c.loop-i.i ∷ [] = search rules in
    back_slots_more c.loop-i.code c.push.new.self c.len-slots.result c.loop-i.i
    (λ tail. c.args.code.now ++ back_slots 0 c.len-slots.result tail) c.loop-i-test.true pushed
    c.loop-i.invariant

pub loop-j-preserved : goal.loop-j-preserved
loop-j-preserved c =
    let pushed : c.push-in-loop-j.new.self ≡ c.loop-j.code ++ BackTop ∷ [] = search rules in
    back_tops_more c.loop-j.code c.push-in-loop-j.new.self c.waiting_of-waits.result c.loop-j.j
    (λ tail. c.args.code.now ++ back_slots 0 c.len-slots.result
    (back_tops c.waiting_of-waits.result tail)) c.loop-j-test.true pushed c.loop-j.invariant
