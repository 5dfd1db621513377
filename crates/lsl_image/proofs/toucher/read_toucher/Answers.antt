use Rattle.lsl_image.specs.Script.{flag, flagged_toucher, toucher}
use Rattle.lsl_image.proofs.LeadingLemmas.{leads-all, leads-exits, leads-reads, leads-then}
use Rattle.lsl_image.proofs.toucher.read_toucher.Goals as goal

pub returns-in_err-flag : goal.returns-in_err-flag
unfolding toucher
returns-in_err-flag c = leads-exits flag flagged_toucher _ _ (leads-all c.args.bytes.now toucher c.args.place)
    c.in_err-flag.ensures c.from_residual.ensures.1

pub returns : goal.returns
unfolding toucher
returns c = leads-reads _ (leads-then flag flagged_toucher (leads-all c.args.bytes.now toucher c.args.place)
    c.in_ok-flag.ensures) c.flagged.ensures
