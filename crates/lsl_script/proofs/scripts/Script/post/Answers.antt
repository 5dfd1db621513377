use Rattle.std.proofs.Common.{◌≡◌, ◌∙◌, sym, ap, subst}
use Rattle.lsl_post.specs.Mailbox.{with_posted}
use Rattle.lsl_script.specs.Fitting.{FitsUnit}
use Rattle.lsl_script.proofs.Fits.{posted_fits_unit}
use Rattle.lsl_script.proofs.scripts.Script.post.Goals as goal

pub returns-clause-fits : goal.returns-clause-fits
returns-clause-fits c =
    let at : c.deref_mut.result.now ≡ c.args.self.now = c.deref_mut.ensures.value ∙ c.self.view_is in
    subst (FitsUnit c.args.unit.now)
    (sym (c.post.ensures.parts ∙ ap (with_posted c.args.unit.now.states c.args.event) at))
    (posted_fits_unit c.args.unit.now c.args.self.now c.args.event c.requires.other c.requires.fits)
