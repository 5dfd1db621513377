use Rattle.std.proofs.Common.{◌∙◌, ap, sym, length, nat_lt, ◌&&◌}
use Rattle.lsl_image.specs.Object.{pair_behind}
use Rattle.lsl_image.proofs.FieldLemmas.{leads-fails, leads-passes, leads-refused, leads-tested}
use Rattle.lsl_image.proofs.LeadingLemmas.{leads-all, leads-exits, leads-here, leads-then}
use Rattle.lsl_image.proofs.PairLemmas.{room-left}
use Rattle.lsl_image.proofs.store.read_pair.Goals as goal

pub returns-in_err-name-clause-read : goal.returns-in_err-name-clause-read
unfolding pair_behind
returns-in_err-name-clause-read c =
    leads-exits _ _ _ _ (leads-here _ (leads-all c.args.bytes.now (pair_behind c.args.before.now) c.args.place))
    c.in_err-name.ensures c.from_residual.ensures.1

pub returns-then-not-is_new_name-clause-read : goal.returns-then-not-is_new_name-clause-read
unfolding pair_behind
returns-then-not-is_new_name-clause-read c =
    rw c.wrong.ensures (leads-refused _ _ _ _ (sym c.is_new_name.ensures ∙ c.if-not-is_new_name.true)
    (leads-then _ _ (leads-here _ (leads-all c.args.bytes.now (pair_behind c.args.before.now) c.args.place))
    c.in_ok-name.ensures))

pub returns-in_err-value-clause-read : goal.returns-in_err-value-clause-read
unfolding pair_behind
returns-in_err-value-clause-read c =
    leads-exits _ _ _ _ (leads-tested _ _ _ _ (sym c.is_new_name.ensures ∙ c.if-not-is_new_name.false)
    (leads-then _ _ (leads-here _ (leads-all c.args.bytes.now (pair_behind c.args.before.now) c.args.place))
    c.in_ok-name.ensures)) c.in_err-value.ensures
    c.from_residual-in_err-value.ensures.1

pub returns-then-not-fits-clause-read : goal.returns-then-not-fits-clause-read
unfolding pair_behind
returns-then-not-fits-clause-read c =
    rw c.wrong-then-not-fits.ensures (leads-fails _ _ _
    (ap (λ b. nat_lt 0 (length c.in_ok-value.value) && b) (sym (room-left c.args.before.now _ c.args.room c.requires))
    ∙ sym c.fits.ensures ∙ c.if-not-fits.true)
    (leads-then _ _ (leads-tested _ _ _ _ (sym c.is_new_name.ensures ∙ c.if-not-is_new_name.false)
    (leads-then _ _ (leads-here _ (leads-all c.args.bytes.now (pair_behind c.args.before.now) c.args.place))
    c.in_ok-name.ensures)) c.in_ok-value.ensures))

pub returns-clause-read : goal.returns-clause-read
unfolding pair_behind
returns-clause-read c =
    leads-passes _ _ _
    (ap (λ b. nat_lt 0 (length c.in_ok-value.value) && b) (sym (room-left c.args.before.now _ c.args.room c.requires))
    ∙ sym c.fits.ensures ∙ c.if-not-fits.false)
    (leads-then _ _ (leads-tested _ _ _ _ (sym c.is_new_name.ensures ∙ c.if-not-is_new_name.false)
    (leads-then _ _ (leads-here _ (leads-all c.args.bytes.now (pair_behind c.args.before.now) c.args.place))
    c.in_ok-name.ensures)) c.in_ok-value.ensures)
