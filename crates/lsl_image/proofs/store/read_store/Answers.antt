use Rattle.lsl_image.proofs.StoreLemmas.{store-none, store-some}
use Rattle.lsl_image.proofs.LeadingLemmas.{leads-exits, leads-reads, leads-then}
use Rattle.lsl_image.proofs.store.read_store.Goals as goal

pub returns-then-version-eq1 : goal.returns-then-version-eq1
returns-then-version-eq1 c = store-none c.args.bytes.now c.args.version c.args.place _ c.if-version-eq1.true
    c.new.ensures

pub returns-in_err-count : goal.returns-in_err-count
returns-in_err-count c =
    leads-exits _ _ _ _ (store-some c.args.bytes.now c.args.version c.args.place c.if-version-eq1.false)
    c.in_err-count.ensures c.from_residual.ensures.1

pub returns : goal.returns
returns c =
    leads-reads _ (leads-then _ _ (store-some c.args.bytes.now c.args.version c.args.place c.if-version-eq1.false)
    c.in_ok-count.ensures) c.read_pairs.ensures
