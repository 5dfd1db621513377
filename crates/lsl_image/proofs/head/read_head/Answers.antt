use Rattle.lsl_image.specs.Object.{head}
use Rattle.lsl_image.proofs.LeadingLemmas.{leads-all, leads-ends, leads-exits, leads-then}
use Rattle.lsl_image.proofs.head.read_head.Goals as goal

pub returns-in_err-_magic : goal.returns-in_err-_magic
unfolding head
returns-in_err-_magic c =
    leads-exits _ _ _ _ (leads-all c.args.bytes.now (head c.args.letters.now) 0) c.in_err-_magic.ensures
    c.from_residual.ensures.1

pub returns-in_err-version : goal.returns-in_err-version
unfolding head
returns-in_err-version c =
    leads-exits _ _ _ _ (leads-then _ _ (leads-all c.args.bytes.now (head c.args.letters.now) 0) c.in_ok-_magic.ensures)
    c.in_err-version.ensures c.from_residual-in_err-version.ensures.1

pub returns-in_err-_size : goal.returns-in_err-_size
unfolding head
returns-in_err-_size c =
    leads-exits _ _ _ _ (leads-then _ _ (leads-then _ _
    (leads-all c.args.bytes.now (head c.args.letters.now) 0) c.in_ok-_magic.ensures) c.in_ok-version.ensures)
    c.in_err-_size.ensures c.from_residual-in_err-_size.ensures.1

pub returns : goal.returns
unfolding head
returns c = leads-ends (leads-then _ _ (leads-then _ _ (leads-then _ _
    (leads-all c.args.bytes.now (head c.args.letters.now) 0) c.in_ok-_magic.ensures) c.in_ok-version.ensures)
    c.in_ok-_size.ensures)
