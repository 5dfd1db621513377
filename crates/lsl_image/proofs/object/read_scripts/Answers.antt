use Rattle.std.proofs.Common.{slice_get}
use Rattle.lsl_image.specs.Object.{script_of}
use Rattle.std.proofs.lemmas.List.{drop_more}
use Rattle.lsl_image.proofs.EachLemmas.{each-full, each-more, each-start, each-stops}
use Rattle.lsl_image.proofs.object.read_scripts.Goals as goal

pub loop-number-init : goal.loop-number-init
loop-number-init c = each-start c.args.bytes.now (λ number. script_of c.args.version number
    (slice_get c.args.library.now number)) c.args.units.now c.args.place _ c.new-scripts.ensures

pub loop-number-preserved : goal.loop-number-preserved
loop-number-preserved c =
    each-more (λ number. script_of c.args.version number (slice_get c.args.library.now number)) c.args.units.now
    c.loop-number.scripts c.push.new.self
    c.loop-number.number-index _ c.in_ok-script.script (drop_more c.args.units.now c.loop-number.number-index 0
    c.loop-number-test.true) c.in_ok-push.ensures.ok
    c.loop-number.invariant c.in_ok-script.ensures

pub returns-in_err-script : goal.returns-in_err-script
returns-in_err-script c =
    each-stops (λ number. script_of c.args.version number (slice_get c.args.library.now number)) c.args.units.now
    c.loop-number.scripts c.loop-number.number-index _ _ _
    (drop_more c.args.units.now c.loop-number.number-index 0 c.loop-number-test.true) c.loop-number.invariant
    c.in_err-script.ensures c.from_residual.ensures.1

pub returns : goal.returns
returns c = each-full (λ number. script_of c.args.version number (slice_get c.args.library.now number)) c.args.units.now
    c.loop-number.scripts c.loop-number.number-index
    c.loop-number-test.false c.loop-number.invariant
