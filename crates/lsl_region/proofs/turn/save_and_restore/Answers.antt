use Rattle.std.proofs.Common.{OnOk, Result, Ok, Err, subst, sym}
use Rattle.std.specs.Prelude.{Option, Some}
use Rattle.lsl_script.specs.declared.live.Live.{Live}
use Rattle.lsl_region.specs.TurnEnds.{IsBehind}
use Rattle.lsl_region.proofs.Saves.{paused-behind}
use Rattle.lsl_region.proofs.turn.save_and_restore.Goals as goal

on-ok-then : {T E : Type 0} (r : Result T E) {P Q : Type 0} → (P → Q) → OnOk r P → OnOk r Q
on-ok-then (Ok x) f p = f p
on-ok-then (Err e) f p = tt

pub returns-clause-same : goal.returns-clause-same
returns-clause-same c = λ codes clock place grid w behind.
    let unit = c.args.unit.now in
    on-ok-then c.pause.result
    (λ same. subst (λ (l : Live). IsBehind codes unit clock place grid (Some l) w) (sym same)
    (paused-behind codes unit clock place grid w c.in-Some.awake c.pause.new.self.machine.room
    (subst (λ (l : Option Live). IsBehind codes unit clock place grid l w) c.in-Some.is behind)))
    c.pause.ensures.same
