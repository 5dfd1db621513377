use Rattle.std.proofs.Common.{rules, ◌≡◌, ◌-◌, [], ◌∷◌, ◌++◌}
use Rattle.lsl_code.specs.declared.instructions.Instr.TheVariants.{KeepTop, KeepSlot}
use Rattle.lsl_weave.specs.Layout.{keep_tops, keep_slots}
use Rattle.lsl_weave.proofs.Emitting.{tops_more, slots_more}
use Rattle.lsl_weave.proofs.blocks.push_save_block.Goals as goal

pub loop-i-preserved : goal.loop-i-preserved
loop-i-preserved c =
    let pushed : c.push.new.self ≡ c.loop-i.code ++ KeepTop ∷ [] = search rules in
    tops_more c.loop-i.code c.push.new.self c.args.waits c.loop-i.i
    (λ tail. c.args.code.now ++ keep_tops c.args.waits tail) c.loop-i-test.true pushed c.loop-i.invariant

pub loop-j-preserved : goal.loop-j-preserved
loop-j-preserved c =
    let pushed : c.push-in-loop-j.new.self
    ≡ c.loop-j.code ++ KeepSlot (c.args.slots - 1 - c.loop-j.j) ∷ [] = search rules in
    slots_more c.loop-j.code c.push-in-loop-j.new.self c.args.slots c.loop-j.j
    (λ tail. c.args.code.now ++ keep_tops c.args.waits
    (keep_slots c.args.slots tail)) c.loop-j-test.true pushed c.loop-j.invariant
