use Rattle.lsl_bodies.proofs.PlaceLemmas.{texts_written, written}
use Rattle.lsl_bodies.proofs.places.set.Goals as goal

pub returns-clause-texts : goal.returns-clause-texts
returns-clause-texts c = texts_written c.args.table.now c.args.place c.args.latest

pub returns-clause-updates : goal.returns-clause-updates
returns-clause-updates c =
    let e = c.pair_mut.ensures in
    written c.args.table.now c.args.place c.args.latest _ _ e.unique e.value
