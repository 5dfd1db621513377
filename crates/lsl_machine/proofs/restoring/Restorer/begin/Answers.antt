use Rattle.std.proofs.Common.{◌≡◌, ◌∙◌, refl, ap, subst, ◌++◌, [], Some, length, map, option_map, slice_get, rules}
use Rattle.std.proofs.lemmas.Option.{slice_get-map}
use Rattle.lsl_running.specs.Values.{empty_of}
use Rattle.lsl_code.specs.Bodies.{Body}
use Rattle.lsl_code.specs.Packs.{Packed}
use Rattle.lsl_code.specs.Restoring.{blank}
use Rattle.lsl_code.specs.Weaves.{bodies_of}
use Rattle.lsl_code.specs.WovenBodies.{woven_body}
use Rattle.lsl_machine.specs.CallsRestored.{IsRestoring}
use Rattle.lsl_machine.specs.declared.restoring.Restorer.{Restorer}
use Rattle.lsl_machine.specs.declared.running.Activation.{Activation}
use Rattle.lsl_machine.proofs.Putting.{begun_restoring}
use Rattle.lsl_machine.proofs.restoring.Restorer.begin.Goals as goal

pub returns : goal.returns
returns c body given =
    let w = woven_body c.in-Some.function.now in
    let there : slice_get c.args.unit.now.functions c.args.handler ≡ Some c.in-Some.function.now = search rules in
    let found : slice_get (bodies_of c.args.unit.now) c.args.handler ≡ Some w =
    slice_get-map woven_body c.args.unit.now.functions c.args.handler ∙ ap (option_map woven_body) there in
    let same : w ≡ body = cc (found, given) in
    let floor : c.len.result ≡ length c.push_empties.new.stack.items =
    c.len.ensures ∙ c.push_empties.new.stack.ok.0 in
    let r : Restorer =
    record {
      alloc = c.args.alloc;
      active = record { function = c.args.handler; place = 0; base = 0; floor = c.len.result; charge = 1024 };
      callers = c.in_ok-callers.callers;
      stack = c.push_empties.new.stack;
      point = 0;
      pack = c.in_ok-pack.pack;
    } in
    let slots : c.push_empties.new.stack.items ≡ map empty_of w.slots =
    c.in_ok-push_empties.ensures.pushed
    ∙ ap (λ l. l ++ map empty_of c.as_slice.result.now) c.new-stack.ensures.items
    ∙ ap (map empty_of) c.as_slice.ensures in
    subst (λ (b : Body). IsRestoring (bodies_of c.args.unit.now) r (blank c.args.handler b) [] 0 []
    c.args.sack) same
    (begun_restoring (bodies_of c.args.unit.now) r c.args.handler w c.args.sack found slots
    c.in_ok-callers.ensures.items (ap {B = Activation} (λ x. record {
      function = c.args.handler;
      place = 0;
      base = 0;
      floor = x;
      charge = 1024;
    }) floor) refl (ap (λ (x : Packed). x.hand) c.in_ok-pack.ensures)
    (ap (λ (x : Packed). x.frames) c.in_ok-pack.ensures) c.in_ok-push_empties.ensures.room)
