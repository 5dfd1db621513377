use Rattle.std.proofs.Common.{refl, arith, ◌<◌, length, drop}
use Rattle.std.specs.Prelude.{vec_capacity}
use Rattle.lsl_code.specs.declared.instructions.Instr.TheVariants as instrs
use Rattle.lsl_running.specs.Calling.{parameter_count}
use Rattle.lsl_machine.proofs.Doing.{able_held}
use Rattle.lsl_machine.proofs.Parting.{asked_lays}
use Rattle.lsl_machine.proofs.running.Running.ask.Goals as goal

pub take_call-requires : goal.take_call-requires
take_call-requires c = able_held (instrs.Host c.args.id) _ c.requires

pub returns-in-Ok-reserve-clause-done : goal.returns-in-Ok-reserve-clause-done
returns-in-Ok-reserve-clause-done c bodies g f place sl ops outer h =
    let t = c.in-Ok.ensures.taken g f place sl ops outer h in
    let len = c.in-Ok-reserve.ensures.ok in
    let ok = c.reserve.new.self.ok.0 in
    let same = c.reserve.ensures.len in
    let room : length c.reserve.new.self.items < vec_capacity c.reserve.new.self = omega arith in (
      c.in-Ok.ensures.id,
      t.0,
      asked_lays c.take_call.new.self _ g f place sl (drop (parameter_count c.args.id) ops) outer t.1
          c.reserve.ensures.items refl refl refl refl refl,
      room,
    )
