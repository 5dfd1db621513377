use Rattle.lsl_image.specs.Layout.{TextForm, field}
use Rattle.lsl_image.proofs.LeadingLemmas.{leads-full, leads-more, leads-start, leads-stops}
use Rattle.lsl_image.proofs.object.read_names.Goals as goal

pub loop-i-init : goal.loop-i-init
loop-i-init c = leads-start c.args.bytes.now (λ before. field TextForm) c.args.count c.args.place _ c.new-names.ensures

pub loop-i-preserved : goal.loop-i-preserved
loop-i-preserved c =
    leads-more (λ before. field TextForm) c.loop-i.names c.push.new.self c.args.count c.loop-i.i c.in_ok-name.name
    c.loop-i-test.true c.in_ok-push.ensures.ok c.loop-i.invariant c.in_ok-name.ensures

pub returns-in_err-name : goal.returns-in_err-name
returns-in_err-name c =
    leads-stops (λ before. field TextForm) c.loop-i.names c.args.count c.loop-i.i _ _ c.loop-i-test.true
    c.loop-i.invariant c.in_err-name.ensures c.from_residual.ensures.1

pub returns : goal.returns
returns c = leads-full (λ before. field TextForm) c.loop-i.names c.args.count c.loop-i.i c.loop-i-test.false
    c.loop-i.invariant
