use Rattle.lsl_image.proofs.ChargeLemmas.{charged-more}
use Rattle.lsl_image.proofs.KindedLemmas.{values-end, values-exit, values-next}
use Rattle.lsl_image.proofs.values.read_others.Goals as goal

pub loop-at-preserved : goal.loop-at-preserved
loop-at-preserved c = record {
  leads = λ start leads. values-next c.args.bytes.now c.args.kinds.now c.loop-at.at c.loop-at.next
      c.loop-at.values.items start c.in_ok-value.value c.in_ok-value.behind _ c.loop-at-test.true
      c.in_ok-push.ensures.items (c.loop-at.invariant.leads start leads) c.in_ok-value.ensures;
  charged = λ before so. charged-more before c.loop-at.charged c.loop-at.values.items c.push.new.self.items
      c.in_ok-value.value _ _ c.in_ok-push.ensures.items c.charge.ensures c.saturating_add.ensures
      (c.loop-at.invariant.charged before so);
}

pub returns-in_err-value-clause-reads : goal.returns-in_err-value-clause-reads
returns-in_err-value-clause-reads c start leads = values-exit c.args.bytes.now c.args.kinds.now c.loop-at.at
    c.loop-at.next c.loop-at.values.items start _ _ c.loop-at-test.true (c.loop-at.invariant.leads start leads)
    c.in_err-value.ensures c.from_residual.ensures.1

pub returns-clause-reads : goal.returns-clause-reads
returns-clause-reads c start leads = rw c.from_vec.ensures
    (values-end c.args.bytes.now c.args.kinds.now c.loop-at.at c.loop-at.next c.loop-at.values.items start
    c.loop-at-test.false (c.loop-at.invariant.leads start leads))

pub returns-clause-charged : goal.returns-clause-charged
returns-clause-charged c before so = rw c.from_vec.ensures (c.loop-at.invariant.charged before so)
