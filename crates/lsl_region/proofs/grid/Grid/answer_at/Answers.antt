use Rattle.std.proofs.Common.{sym}
use Rattle.lsl_region.proofs.grid.Grid.answer_at.Goals as goal

-- ---- any call but one that says something to the owner

pub returns-in_default-clause-does : goal.returns-in_default-clause-does
returns-in_default-clause-does c = λ m f of w lent.
    rw (sym c.id.ensures) (rw (sym c.args-in_default.ensures) (c.answer_by_home.ensures.does m f of w lent))

pub returns-in_default-clause-fits : goal.returns-in_default-clause-fits
returns-in_default-clause-fits c = rw (sym c.id.ensures) c.answer_by_home.ensures.fits

pub returns-in_default-clause-stop : goal.returns-in_default-clause-stop
returns-in_default-clause-stop c =
    rw (sym c.id.ensures) (rw (sym c.args-in_default.ensures) c.answer_by_home.ensures.stop)
