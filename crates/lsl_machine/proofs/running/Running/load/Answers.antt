use Rattle.std.proofs.Common.{subst, ◌∷◌, get_or}
use Rattle.lsl_code.specs.Acts.{gives}
use Rattle.lsl_code.specs.Machine.{base}
use Rattle.lsl_machine.specs.Steps.{Does}
use Rattle.lsl_machine.proofs.Doing.{gives_lacks, able_held}
use Rattle.lsl_code.specs.declared.instructions.Instr.TheVariants as instrs
use Rattle.lsl_running.specs.Values.{absent}
use Rattle.lsl_machine.proofs.running.Running.load.Goals as goal

pub slot-requires : goal.slot-requires
slot-requires c = able_held (instrs.Load c.args.n) _ c.requires

pub give-requires : goal.give-requires
give-requires c = record { held = able_held (instrs.Load c.args.n) _ c.requires; place = c.requires.9.place }

pub returns-in-Ok-clause-done : goal.returns-in-Ok-clause-done
returns-in-Ok-clause-done c bodies g f place sl ops outer h =
    subst (λ w. Does (gives (base outer) sl (w ∷ ops) g) g f place sl outer c.give.result c.give.new.self)
    (c.in-Ok.ensures.same g f place sl ops outer h) (c.give.ensures.done g f place sl ops outer h)

pub returns-in-Err-clause-done : goal.returns-in-Err-clause-done
returns-in-Err-clause-done c bodies g f place sl ops outer h =
    gives_lacks g g f place sl sl (get_or sl c.args.n absent ∷ ops) outer _

pub returns-in-Err-clause-memory : goal.returns-in-Err-clause-memory
returns-in-Err-clause-memory c g f place sl ops outer h free room e =
    let ok = c.in-Err.ensures.memory g f place sl ops outer h free in absurd cc
