use Rattle.std.proofs.Common.{w32}
use Rattle.std.proofs.lemmas.Int.{to_z-of_z}
use Rattle.lsl_image.specs.Script.{listen_behind}
use Rattle.lsl_image.proofs.FieldLemmas.{i32-fits_that}
use Rattle.lsl_image.proofs.LeadingLemmas.{leads-all, leads-ends, leads-exits, leads-then}
use Rattle.lsl_image.proofs.listens.read_listen.Goals as goal

pub returns-in_err-number : goal.returns-in_err-number
unfolding listen_behind
returns-in_err-number c =
    leads-exits _ _ _ _ (leads-all c.args.bytes.now (listen_behind c.args.before.now) c.args.place)
    c.in_err-number.ensures c.from_residual.ensures.1

pub returns-in_err-flag : goal.returns-in_err-flag
unfolding listen_behind
returns-in_err-flag c =
    leads-exits _ _ _ _ (leads-then _ _ (leads-all c.args.bytes.now (listen_behind c.args.before.now) c.args.place)
    c.in_ok-number.ensures) c.in_err-flag.ensures c.from_residual-in_err-flag.ensures.1

pub returns-in_err-asked : goal.returns-in_err-asked
unfolding listen_behind
returns-in_err-asked c =
    leads-exits _ _ _ _ (leads-then _ _ (leads-then _ _
    (leads-all c.args.bytes.now (listen_behind c.args.before.now) c.args.place) c.in_ok-number.ensures)
    c.in_ok-flag.ensures) c.in_err-asked.ensures c.from_residual-in_err-asked.ensures.1

pub returns : goal.returns
unfolding listen_behind
returns c =
    let same = to_z-of_z w32 c.in_ok-number.number (i32-fits_that c.args.bytes.now _ c.args.place c.in_ok-number.number
    c.in_ok-number.middle c.in_ok-number.ensures) in
    rw (c.listen_with.ensures, same) (leads-ends (leads-then _ _
    (leads-then _ _ (leads-then _ _ (leads-all c.args.bytes.now (listen_behind c.args.before.now) c.args.place)
    c.in_ok-number.ensures) c.in_ok-flag.ensures) c.in_ok-asked.ensures))
