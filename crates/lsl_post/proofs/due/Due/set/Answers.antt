use Rattle.std.proofs.Common.{Some, sym, ap, subst, ◌∙◌, arith}
use Rattle.lsl_post.specs.Due.{IsIndex}
use Rattle.lsl_post.proofs.DueOrder.{insert-scripts, remove-scripts}
use Rattle.lsl_post.proofs.DuePuts.{put-again, put-first, put-same}
use Rattle.lsl_post.proofs.DueTimes.{are_times-put, index-from, puts-from, timed-from}
use Rattle.lsl_post.proofs.due.Due.set.Goals as goal

pub returns-then-old-due-clause-ok : goal.returns-then-old-due-clause-ok
returns-then-old-due-clause-ok c =
    rw (← c.self.view_is)
    (puts-from c.args.script (Some c.args.due) c.self.inside.order c.self.inside.order
    (put-same c.args.script (Some c.args.due) c.self.inside.order c.self.inside.times c.self.invariant.same
    (sym c.in-Some.ensures ∙ ap (λ at. Some at) c.if-old-due.true)))

pub returns-then-old-due-clause-index : goal.returns-then-old-due-clause-index
returns-then-old-due-clause-index c =
    subst IsIndex c.self.view_is (index-from c.self.inside.order c.self.inside.times c.self.invariant)

pub returns-in_err-add-in-Some-clause-index : goal.returns-in_err-add-in-Some-clause-index
returns-in_err-add-in-Some-clause-index c =
    subst IsIndex (sym c.in_err-add-in-Some.ensures.order_unchanged)
    (index-from c.self.inside.order c.self.inside.times c.self.invariant)

pub invariant_of-self-in-Some : goal.invariant_of-self-in-Some
invariant_of-self-in-Some c =
    are_times-put c.args.script (Some c.args.due) c.self.inside.order c.remove.new.self c.self.inside.times
    c.add.new.times c.self.invariant
    (put-again c.args.script c.args.due c.in-Some.old c.self.inside.order c.add.new.order c.remove.new.self
    c.self.inside.times c.self.invariant.same (sym c.in-Some.ensures) (λ e. absurd (omega arith))
    c.in_ok-add-in-Some.ensures.order c.remove.ensures.updates)
    (timed-from c.args.script (Some c.args.due) c.self.inside.times c.add.new.times
    c.in_ok-add-in-Some.ensures.times)
    c.remove.ensures.ordered
    (remove-scripts c.in-Some.old c.args.script c.add.new.order c.remove.new.self
    (insert-scripts c.args.due c.args.script c.self.inside.order c.add.new.order c.self.invariant.scripts
    (omega arith) c.in_ok-add-in-Some.ensures.keys)
    c.remove.ensures.keys)

pub returns-in_ok-add-in-Some-clause-ok : goal.returns-in_ok-add-in-Some-clause-ok
returns-in_ok-add-in-Some-clause-ok c =
    rw (← c.self.view_is)
    (puts-from c.args.script (Some c.args.due) c.self.inside.order c.remove.new.self
    (put-again c.args.script c.args.due c.in-Some.old c.self.inside.order c.add.new.order c.remove.new.self
    c.self.inside.times c.self.invariant.same (sym c.in-Some.ensures) (λ e. absurd (omega arith))
    c.in_ok-add-in-Some.ensures.order c.remove.ensures.updates))

pub returns-in_ok-add-in-Some-clause-index : goal.returns-in_ok-add-in-Some-clause-index
returns-in_ok-add-in-Some-clause-index c =
    index-from c.remove.new.self c.add.new.times (invariant_of-self-in-Some c)

pub returns-in_err-add-in-None-clause-index : goal.returns-in_err-add-in-None-clause-index
returns-in_err-add-in-None-clause-index c =
    subst IsIndex (sym c.in_err-add-in-None.ensures.order_unchanged)
    (index-from c.self.inside.order c.self.inside.times c.self.invariant)

pub invariant_of-self-in-None : goal.invariant_of-self-in-None
invariant_of-self-in-None c =
    are_times-put c.args.script (Some c.args.due) c.self.inside.order c.add-in-None.new.order c.self.inside.times
    c.add-in-None.new.times c.self.invariant
    (put-first c.args.script c.args.due c.self.inside.order c.add-in-None.new.order c.self.inside.times
    c.self.invariant.same (sym c.in-None.ensures) c.in_ok-add-in-None.ensures.order)
    (timed-from c.args.script (Some c.args.due) c.self.inside.times c.add-in-None.new.times
    c.in_ok-add-in-None.ensures.times)
    c.add-in-None.ensures.rising
    (insert-scripts c.args.due c.args.script c.self.inside.order c.add-in-None.new.order c.self.invariant.scripts
    (omega arith) c.in_ok-add-in-None.ensures.keys)

pub returns-in_ok-add-in-None-clause-ok : goal.returns-in_ok-add-in-None-clause-ok
returns-in_ok-add-in-None-clause-ok c =
    rw (← c.self.view_is)
    (puts-from c.args.script (Some c.args.due) c.self.inside.order c.add-in-None.new.order
    (put-first c.args.script c.args.due c.self.inside.order c.add-in-None.new.order c.self.inside.times
    c.self.invariant.same (sym c.in-None.ensures) c.in_ok-add-in-None.ensures.order))

pub returns-in_ok-add-in-None-clause-index : goal.returns-in_ok-add-in-None-clause-index
returns-in_ok-add-in-None-clause-index c =
    index-from c.add-in-None.new.order c.add-in-None.new.times (invariant_of-self-in-None c)
