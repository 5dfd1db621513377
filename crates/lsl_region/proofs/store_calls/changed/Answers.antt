use Rattle.lsl_region.proofs.Calls.{fits-by, other-by, storing-only}
use Rattle.lsl_region.proofs.Results.{OnOk-any}
use Rattle.lsl_region.proofs.store_calls.changed.Goals as goal

pub returns-in-LinksetDataWrite-clause-change : goal.returns-in-LinksetDataWrite-clause-change
returns-in-LinksetDataWrite-clause-change c = rw c.in-LinksetDataWrite.is c.written.ensures.change

pub returns-in-LinksetDataDelete-clause-change : goal.returns-in-LinksetDataDelete-clause-change
returns-in-LinksetDataDelete-clause-change c = rw c.in-LinksetDataDelete.is c.deleted.ensures.change

pub returns-in-LinksetDataReset-clause-change : goal.returns-in-LinksetDataReset-clause-change
returns-in-LinksetDataReset-clause-change c = rw c.in-LinksetDataReset.is c.emptied.ensures.change

pub returns-in-LinksetDataWrite-clause-pairs : goal.returns-in-LinksetDataWrite-clause-pairs
returns-in-LinksetDataWrite-clause-pairs c = rw c.in-LinksetDataWrite.is c.written.ensures.pairs

pub returns-in-LinksetDataDelete-clause-pairs : goal.returns-in-LinksetDataDelete-clause-pairs
returns-in-LinksetDataDelete-clause-pairs c = rw c.in-LinksetDataDelete.is c.deleted.ensures.pairs

pub returns-in-LinksetDataReset-clause-pairs : goal.returns-in-LinksetDataReset-clause-pairs
returns-in-LinksetDataReset-clause-pairs c =
    rw c.in-LinksetDataReset.is (OnOk-any c.emptied.result _ c.emptied.ensures.pairs)

pub returns-in-LinksetDataWrite-clause-fits : goal.returns-in-LinksetDataWrite-clause-fits
returns-in-LinksetDataWrite-clause-fits c =
    fits-by c.written.result c.args.id c.args.args.now c.args.store.now c.requires
    (returns-in-LinksetDataWrite-clause-change c)

pub returns-in-LinksetDataDelete-clause-fits : goal.returns-in-LinksetDataDelete-clause-fits
returns-in-LinksetDataDelete-clause-fits c =
    fits-by c.deleted.result c.args.id c.args.args.now c.args.store.now c.requires
    (returns-in-LinksetDataDelete-clause-change c)

pub returns-in-LinksetDataReset-clause-fits : goal.returns-in-LinksetDataReset-clause-fits
returns-in-LinksetDataReset-clause-fits c =
    fits-by c.emptied.result c.args.id c.args.args.now c.args.store.now c.requires
    (returns-in-LinksetDataReset-clause-change c)

pub returns-in-LinksetDataWrite-clause-other : goal.returns-in-LinksetDataWrite-clause-other
returns-in-LinksetDataWrite-clause-other c =
    other-by c.written.result c.args.id c.args.args.now c.args.store.now
    (returns-in-LinksetDataWrite-clause-change c)

pub returns-in-LinksetDataDelete-clause-other : goal.returns-in-LinksetDataDelete-clause-other
returns-in-LinksetDataDelete-clause-other c =
    other-by c.deleted.result c.args.id c.args.args.now c.args.store.now
    (returns-in-LinksetDataDelete-clause-change c)

pub returns-in-LinksetDataReset-clause-other : goal.returns-in-LinksetDataReset-clause-other
returns-in-LinksetDataReset-clause-other c =
    other-by c.emptied.result c.args.id c.args.args.now c.args.store.now
    (returns-in-LinksetDataReset-clause-change c)

pub unreachable-requires : goal.unreachable-requires
unreachable-requires c =
    storing-only c.args.id c.requires c.in_default.not-LinksetDataWrite c.in_default.not-LinksetDataDelete
    c.in_default.not-LinksetDataReset
