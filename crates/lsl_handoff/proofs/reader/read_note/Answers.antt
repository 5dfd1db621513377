use Rattle.std.proofs.Common.{arith}
use Rattle.lsl_handoff.proofs.AnswerLemmas.{every-of, found-of}
use Rattle.lsl_handoff.proofs.reader.read_note.Goals as goal

pub returns-clause-found : goal.returns-clause-found
returns-clause-found c = found-of c.args.objects c.args.regions c.args.bytes.now
    (λ i. omega (arith, c.type_inv.bytes i))
    c.parse.result c.parse.ensures

pub returns-clause-every : goal.returns-clause-every
returns-clause-every c = every-of c.args.objects c.args.regions c.args.bytes.now (omega (arith, c.ranges.objects))
    (omega (arith, c.ranges.regions)) (omega arith) c.parse.result c.parse.ensures
