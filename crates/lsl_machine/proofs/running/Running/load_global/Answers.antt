use Rattle.std.proofs.Common.{◌∙◌, ap, subst, ◌∷◌, get_or}
use Rattle.lsl_code.specs.Acts.{gives}
use Rattle.lsl_code.specs.Machine.{base}
use Rattle.lsl_machine.specs.Steps.{Does}
use Rattle.lsl_machine.proofs.Doing.{gives_lacks, able_held}
use Rattle.lsl_code.specs.declared.instructions.Instr.TheVariants as instrs
use Rattle.lsl_running.specs.Values.{absent}
use Rattle.lsl_machine.proofs.running.Running.load_global.Goals as goal

pub give-requires : goal.give-requires
give-requires c = record { held = able_held (instrs.LoadGlobal c.args.n) _ c.requires; place = c.requires.9.place }

pub returns-in-Ok-clause-done : goal.returns-in-Ok-clause-done
returns-in-Ok-clause-done c bodies g f place sl ops outer h =
    subst (λ w. Does (gives (base outer) sl (w ∷ ops) g) g f place sl outer c.give.result c.give.new.self)
    (c.in-Ok.ensures.same ∙ ap (λ l. get_or l c.args.n absent) h.globals) (c.give.ensures.done g f place sl ops outer h)

pub returns-in-Err-clause-done : goal.returns-in-Err-clause-done
returns-in-Err-clause-done c bodies g f place sl ops outer h =
    gives_lacks g g f place sl sl (get_or g.globals c.args.n absent ∷ ops) outer _
