use Rattle.std.proofs.Common.{◌≡◌, arith, ◌+◌, ◌-◌, drop, length, map}
use Rattle.std.proofs.lemmas.List.{length-drop}
use Rattle.lsl_code.specs.Frames.{FitsFrame, points_of}
use Rattle.lsl_code.specs.Laid.{frame_laid}
use Rattle.lsl_code.specs.WovenBodies.{woven_body}
use Rattle.lsl_code.proofs.Fitting.{fit_on, off_at, refuted, unfit_here}
use Rattle.lsl_code.proofs.checking.first_unfit.Goals as goal

pub returns-then-not-fits : goal.returns-then-not-fits
returns-then-not-fits c =
    let points = points_of (map woven_body c.args.unit.now.functions) in
    let frames = c.args.sack.now in
    let at = c.loop-i.i in
    let frame = frame_laid c.call-call.result in
    let outer = drop (at + 1) frames in
    let long = length-drop (at + 1) frames in
    let many : length outer ≡ c.len-count.result - 1 - at = omega arith in
    let front = off_at frames at frame c.call-call.ensures in
    unfit_here points c.args.handler c.loop-i.callee frames at frame outer front c.loop-i.invariant
    (refuted c.fits.result (FitsFrame points c.args.handler c.loop-i.callee frame outer) (c.fits.ensures outer many)
    c.if-not-fits.true)

pub loop-i-preserved : goal.loop-i-preserved
loop-i-preserved c =
    let points = points_of (map woven_body c.args.unit.now.functions) in
    let frames = c.args.sack.now in
    let at = c.loop-i.i in
    let frame = frame_laid c.call-call.result in
    let outer = drop (at + 1) frames in
    let long = length-drop (at + 1) frames in
    let many : length outer ≡ c.len-count.result - 1 - at = omega arith in
    let front = off_at frames at frame c.call-call.ensures in
    fit_on points c.args.handler c.loop-i.callee frames at frame outer front c.loop-i.invariant
    ((c.fits.ensures outer many).0 c.if-not-fits.false)
