use Rattle.std.proofs.Common.{List, Err, subst}
use Rattle.lsl_post.specs.declared.listen.Listen.{Listen}
use Rattle.lsl_image.specs.Reading.{Gives, Reads}
use Rattle.lsl_image.specs.Script.{listen_behind}
use Rattle.lsl_image.proofs.LeadingLemmas.{leads-full, leads-more, leads-start, leads-stops}
use Rattle.lsl_image.proofs.listens.read_list.Goals as goal

pub loop-i-init : goal.loop-i-init
loop-i-init c = leads-start c.args.bytes.now listen_behind c.args.count c.args.place _ c.new-list.ensures

pub loop-i-preserved : goal.loop-i-preserved
loop-i-preserved c =
    leads-more listen_behind c.loop-i.list c.push.new.self c.args.count c.loop-i.i c.in_ok-listen.listen
    c.loop-i-test.true c.in_ok-push.ensures.ok c.loop-i.invariant (subst (λ (ls : List Listen).
    Gives c.args.bytes.now (listen_behind ls) c.loop-i.next c.in_ok-listen.listen c.in_ok-listen.behind)
    c.as_slice.ensures c.in_ok-listen.ensures)

pub returns-in_err-listen : goal.returns-in_err-listen
returns-in_err-listen c =
    leads-stops listen_behind c.loop-i.list c.args.count c.loop-i.i _ _ c.loop-i-test.true c.loop-i.invariant
    (subst (λ (ls : List Listen). Reads c.args.bytes.now (listen_behind ls) c.loop-i.next
    (Err c.in_err-listen.field-0.0))
    c.as_slice.ensures c.in_err-listen.ensures) c.from_residual.ensures.1

pub returns : goal.returns
returns c = leads-full listen_behind c.loop-i.list c.args.count c.loop-i.i c.loop-i-test.false c.loop-i.invariant
