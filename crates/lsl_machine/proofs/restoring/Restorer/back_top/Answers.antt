use Rattle.std.proofs.Common.{◌≤◌, refl, rules, vec_capacity}
use Rattle.lsl_machine.proofs.Putting.{top_put}
use Rattle.lsl_machine.proofs.restoring.Restorer.back_top.Goals as goal

pub returns : goal.returns
returns c bodies m outer p hand sack h =
    let room : vec_capacity c.args.self.now.stack ≤ vec_capacity c.push.new.self = search rules in
    top_put c.args.self.now _ c.in-Some.value c.in-Some.ensures.hand c.in_ok-push.ensures.items room refl
    refl refl c.in-Some.ensures.frames bodies m outer p hand sack h
