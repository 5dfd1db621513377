use Rattle.std.proofs.Common.{◌≡◌, ◌∙◌, refl, ap, ◌++◌, Some, length, map, option_map, slice_get, rules}
use Rattle.std.proofs.lemmas.Option.{slice_get-map}
use Rattle.lsl_running.specs.Values.{empty_of}
use Rattle.lsl_code.specs.Weaves.{bodies_of}
use Rattle.lsl_code.specs.WovenBodies.{woven_body}
use Rattle.lsl_machine.specs.declared.running.Activation.{Activation}
use Rattle.lsl_machine.proofs.Waking.{entered_again}
use Rattle.lsl_machine.proofs.restoring.Restorer.again.Goals as goal

pub returns : goal.returns
returns c m outer p hand sack h =
    let w = woven_body c.in-Some.function.now in
    let there : slice_get c.args.unit.now.functions c.args.callee ≡ Some c.in-Some.function.now = search rules in
    let found : slice_get (bodies_of c.args.unit.now) c.args.callee ≡ Some w =
    slice_get-map woven_body c.args.unit.now.functions c.args.callee ∙ ap (option_map woven_body) there in
    let pushed : c.push_empties.new.stack.items ≡ c.land.new.self.stack.items ++ map empty_of w.slots =
    c.in_ok-push_empties.ensures.pushed
    ∙ ap (λ l. c.land.new.self.stack.items ++ map empty_of l) c.as_slice.ensures in
    let base : c.len-base.result ≡ length c.land.new.self.stack.items =
    c.len-base.ensures ∙ c.land.new.self.stack.ok.0 in
    let floor : c.len.result ≡ length c.push_empties.new.stack.items =
    c.len.ensures ∙ c.push_empties.new.stack.ok.0 in
    entered_again (bodies_of c.args.unit.now) c.args.self.now c.land.new.self _ c.args.callee c.charge-charge.result w
    c.land.ensures found (λ m outer p hand sack h. c.charge-charge.ensures (bodies_of c.args.unit.now) m outer p hand
    sack h) pushed c.in_ok-push_empties.ensures.room c.in_ok-push_empties.ensures.kept c.in_ok-push.ensures.items
    (ap {B = Activation} (λ x. record {
      function = c.args.callee;
      place = 0;
      base = x;
      floor = c.len.result;
      charge = c.charge-charge.result;
    }) base
    ∙ ap {B = Activation} (λ x. record {
      function = c.args.callee;
      place = 0;
      base = length c.land.new.self.stack.items;
      floor = x;
      charge = c.charge-charge.result;
    }) floor) refl refl m outer p hand sack h
