use Rattle.std.proofs.Common.{List, sym, ap, ◌∙◌, Ok}
use Rattle.lsl_lines.specs.Reading.{with_prim}
use Rattle.lsl_lines.specs.declared.file.ObjectLine.{ObjectLine}
use Rattle.lsl_lines.proofs.LastLemmas.{at_last-ok, at_last-refused}
use Rattle.lsl_lines.proofs.lasts.add_last_prim.Goals as goal

pub returns-in_ok-push-in-Ok : goal.returns-in_ok-push-in-Ok
returns-in_ok-push-in-Ok c =
    at_last-ok (with_prim c.args.prim) c.args.objects.now c.pop.new.self c.in-Some.object c.add_prim.new.self
    c.in-Some.ensures.items c.in-Ok.ensures
    ∙ ap (λ (l : List ObjectLine). Ok l) (sym c.in_ok-push-in-Ok.ensures.ok)

pub returns-in-Err : goal.returns-in-Err
returns-in-Err c = at_last-refused (Unit {0}) (with_prim c.args.prim) c.args.objects.now c.pop.new.self
    c.in-Some.object c.add_prim.new.self c.pop.new.self c.in-Err.refusal c.in-Some.ensures.items
    c.in-Err.ensures
