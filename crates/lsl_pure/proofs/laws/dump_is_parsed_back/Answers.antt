use Rattle.lsl_pure.proofs.LawRoundTrips.{parsed-dumped}
use Rattle.lsl_pure.proofs.laws.dump_is_parsed_back.Goals as goal

pub returns : goal.returns
returns c = parsed-dumped c.args.items.now c.args.separator c.requires.some c.requires.apart
