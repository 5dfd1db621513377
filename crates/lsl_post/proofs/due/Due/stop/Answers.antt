use Rattle.std.proofs.Common.{None, sym}
use Rattle.lsl_post.proofs.DueOrder.{remove-scripts}
use Rattle.lsl_post.proofs.DuePuts.{put-gone, put-same}
use Rattle.lsl_post.proofs.DueTimes.{are_times-put, index-from, puts-from, timed-from}
use Rattle.lsl_post.proofs.due.Due.stop.Goals as goal

pub invariant_of-self : goal.invariant_of-self
invariant_of-self c =
    are_times-put c.args.script None c.self.inside.order c.remove-in-Some.new.self c.self.inside.times c.remove.new.self
    c.self.invariant
    (put-gone c.args.script c.in-Some.old c.self.inside.order c.remove-in-Some.new.self c.self.inside.times
    c.self.invariant.same (sym c.in-Some.ensures.value) c.remove-in-Some.ensures.updates)
    (timed-from c.args.script None c.self.inside.times c.remove.new.self c.in-Some.ensures.updates)
    c.remove-in-Some.ensures.ordered
    (remove-scripts c.in-Some.old c.args.script c.self.inside.order c.remove-in-Some.new.self c.self.invariant.scripts
    c.remove-in-Some.ensures.keys)

pub returns-in-Some-clause-puts : goal.returns-in-Some-clause-puts
returns-in-Some-clause-puts c =
    rw (← c.self.view_is)
    (puts-from c.args.script None c.self.inside.order c.remove-in-Some.new.self
    (put-gone c.args.script c.in-Some.old c.self.inside.order c.remove-in-Some.new.self c.self.inside.times
    c.self.invariant.same (sym c.in-Some.ensures.value) c.remove-in-Some.ensures.updates))

pub returns-in-Some-clause-index : goal.returns-in-Some-clause-index
returns-in-Some-clause-index c = index-from c.remove-in-Some.new.self c.remove.new.self (invariant_of-self c)

pub returns-in-None-clause-puts : goal.returns-in-None-clause-puts
returns-in-None-clause-puts c =
    rw (← c.self.view_is)
    (puts-from c.args.script None c.self.inside.order c.self.inside.order
    (put-same c.args.script None c.self.inside.order c.self.inside.times c.self.invariant.same
    (sym c.in-None.ensures.value)))

pub returns-in-None-clause-index : goal.returns-in-None-clause-index
returns-in-None-clause-index c = index-from c.self.inside.order c.self.inside.times c.self.invariant
