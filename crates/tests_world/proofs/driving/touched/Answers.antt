use Rattle.std.proofs.Common.{◌∙◌, ap, sym}
use Rattle.lsl_code.specs.Kinds.{kinds_of}
use Rattle.tests_world.proofs.Touching.{touch_takes}
use Rattle.tests_world.proofs.driving.touched.Goals as goal

pub begin-requires-clause-args : goal.begin-requires-clause-args
begin-requires-clause-args c =
    touch_takes c.args.unit.now c.in-Some.handler c.from_vec-args.result (sym c.in-Some.ensures)
    (ap kinds_of (c.from_vec-args.ensures ∙ c.in_ok-vec.ensures.items))
