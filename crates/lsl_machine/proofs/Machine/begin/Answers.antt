use Rattle.std.proofs.Common.{refl, slice_get, ap}
use Rattle.lsl_code.specs.Wholes.{told}
use Rattle.lsl_code.specs.Acts.{first_slots}
use Rattle.lsl_machine.specs.State.{bodies_of}
use Rattle.lsl_machine.proofs.Beginning.{body_of_arguments, has_begun, begun_laid}
use Rattle.lsl_machine.proofs.Chained.{laid_charge}
use Rattle.lsl_machine.proofs.Machine.begin.Goals as goal

pub invariant_of-result : goal.invariant_of-result
invariant_of-result c =
    let b = body_of_arguments (slice_get (bodies_of c.args.unit.now) c.args.handler) c.args.args c.requires.args in
    begun_laid c.args.handler c.args.limit c.args.globals (first_slots b.0 c.args.args) c.in_ok-running.running
    c.in_ok-running.standing (c.in_ok-running.ensures.begun b.0 b.1)

pub returns : goal.returns
returns c =
    let b = body_of_arguments (slice_get (bodies_of c.args.unit.now) c.args.handler) c.args.args c.requires.args in
    let h = has_begun c.args.unit.now c.args.handler c.args.limit c.args.globals c.args.args b.0
    c.in_ok-running.running c.in_ok-running.standing b.1 c.requires.globals b.2
    (c.in_ok-running.ensures.begun b.0 b.1) c.in_ok-running.ensures.entered in
    record {
      runs = h.runs;
      whole = λ t a. ap (told (bodies_of c.args.unit.now)) (h.runs t a);
      silent = refl;
      ready = h.ready;
      behind = h.behind;
      of = h.of;
      chained = h.chained;
      charged = laid_charge c.in_ok-running.running c.in_ok-running.standing (invariant_of-result c);
    }
