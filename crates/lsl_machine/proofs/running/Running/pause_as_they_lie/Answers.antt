use Rattle.std.proofs.Common.{◌∙◌, sym, ap, subst}
use Rattle.std.specs.Prelude.{IfSome}
use Rattle.lsl_code.specs.Weaves.{bodies_of}
use Rattle.lsl_machine.specs.declared.running.Running.{Running}
use Rattle.lsl_machine.specs.CallsSaved.{AreSaved}
use Rattle.lsl_machine.specs.Laid.{machine_of}
use Rattle.lsl_machine.specs.Layouts.{IsLayout}
use Rattle.lsl_machine.proofs.Settling.{settled_paused}
use Rattle.lsl_machine.proofs.running.Running.pause_as_they_lie.Goals as goal

pub returns-in-Some : goal.returns-in-Some
returns-in-Some c =
    let unit = c.args.unit.now in
    let bodies = bodies_of unit in
    let r = c.args.self.now in
    let before = c.take_callers-callers.new.self in
    let frames = c.take_sack-sack.result in
    let taken = c.take_sack-sack.ensures.left in
    let emptied = c.take_callers-callers.ensures.left in
    let saved = subst (AreSaved bodies (machine_of r).calls) (sym c.take_sack-sack.ensures.frames)
    c.requires.marks.saved in
    let laid : IsLayout bodies c.args.handler frames c.in-Some.layout =
    subst (λ o. IfSome o (IsLayout bodies c.args.handler frames)) c.in-Some.is c.in_ok-layout.ensures in
    settled_paused unit c.args.handler r before c.settle.new.self c.requires.laid c.requires.valid
    (ap (λ (x : Running). x.globals) emptied ∙ ap (λ (x : Running). x.globals) taken)
    (ap (λ (x : Running). x.global_charge) emptied ∙ ap (λ (x : Running). x.global_charge) taken)
    (ap (λ (x : Running). x.limit) emptied ∙ ap (λ (x : Running). x.limit) taken) frames saved c.in-Some.layout laid
    c.settle.result c.settle.ensures
