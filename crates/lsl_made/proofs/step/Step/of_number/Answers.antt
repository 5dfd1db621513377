use Rattle.std.proofs.Common.{◌/◌, arith}
use Rattle.lsl_made.proofs.Rows.{step_of-row}
use Rattle.lsl_made.proofs.step.Step.of_number.Goals as goal

pub returns-in-0 : goal.returns-in-0
returns-in-0 c = let e = step_of-row c.args.place (c.args.number / 65536) 0 (omega arith) in cc

pub returns-in-1 : goal.returns-in-1
returns-in-1 c = let e = step_of-row c.args.place (c.args.number / 65536) 1 (omega arith) in cc

pub returns-in-2 : goal.returns-in-2
returns-in-2 c = let e = step_of-row c.args.place (c.args.number / 65536) 2 (omega arith) in cc

pub returns-in-3 : goal.returns-in-3
returns-in-3 c = let e = step_of-row c.args.place (c.args.number / 65536) 3 (omega arith) in cc

pub returns-in-4 : goal.returns-in-4
returns-in-4 c = let e = step_of-row c.args.place (c.args.number / 65536) 4 (omega arith) in cc

pub returns-in-5 : goal.returns-in-5
returns-in-5 c = let e = step_of-row c.args.place (c.args.number / 65536) 5 (omega arith) in cc

pub returns-in-6 : goal.returns-in-6
returns-in-6 c = let e = step_of-row c.args.place (c.args.number / 65536) 6 (omega arith) in cc

pub returns-in_default : goal.returns-in_default
returns-in_default c = let e = step_of-row c.args.place (c.args.number / 65536) 7 (omega arith) in cc
