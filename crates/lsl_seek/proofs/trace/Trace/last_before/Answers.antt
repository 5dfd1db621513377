use Rattle.std.proofs.Common.{◌≡◌, ℕ, ◌+◌, ◌-◌, ◌<◌, min, List, length, get_or, sym, ap, subst, ◌∙◌, arith}
use Rattle.std.proofs.lemmas.List.{get_or-take, length-take}
use Rattle.lsl_seek.specs.Finding.{LastUpTo}
use Rattle.lsl_seek.specs.Moments.{moments, up_to}
use Rattle.lsl_seek.specs.Watches.{Watches}
use Rattle.lsl_seek.proofs.Watching.{length-moments, passed-last, passed-watch, up_to-none}
use Rattle.lsl_seek.proofs.trace.Trace.last_before.Goals as goal

pub moments-init : goal.moments-init
moments-init c = record {
  places = c.before-place-items.ensures;
  watch = subst (λ p. Watches c.args.aim.now c.new-watch.result p) (sym (up_to-none (moments c.args.self.now))) (c.new-watch.ensures c.args.aim.now);
  last = λ a k low high. absurd (omega arith);
}

pub moments-preserved : goal.moments-preserved
moments-preserved c =
    let trace = c.args.self.now in
    let items = c.before-place-items.result.now in
    let lengths = ap length c.moments.invariant.places in
    let taken = length-take (c.args.from - 1) trace.places.items in
    let bound : c.moments.i < length trace.places.items = omega (arith, lengths, taken) in
    let early : c.moments.i < c.args.from - 1 = omega (arith, lengths, taken) in
    let is : get_or items c.moments.i 0 ≡ get_or trace.places.items c.moments.i 0 =
    ap (λ (xs : List ℕ). get_or xs c.moments.i 0) c.moments.invariant.places ∙ get_or-take (c.args.from - 1) trace.places.items c.moments.i 0 early in
    let step = c.in_ok-is_met.ensures (up_to (moments trace) c.moments.i) c.moments.invariant.watch in
    record {
      places = c.moments.invariant.places;
      watch = passed-watch trace c.args.aim.now c.args.from c.moments.i (get_or items c.moments.i 0) bound is c.passes.new.watch step.0;
      last = λ a. subst (LastUpTo trace c.args.aim.now (c.moments.i + 1)) (sym c.latest-found.ensures)
          (passed-last trace c.args.aim.now c.args.from c.moments.i (get_or items c.moments.i 0) bound is c.in_ok-is_met.is_met c.moments.found (step.1 a) (c.moments.invariant.last a));
    }

pub returns : goal.returns
returns c = λ a.
    let lengths = ap length c.moments.invariant.places in
    let taken = length-take (c.args.from - 1) c.args.self.now.places.items in
    let all = length-moments c.args.self.now in
    let upto : c.moments.i ≡ min (c.args.from - 1) (length (moments c.args.self.now)) = omega (arith, lengths, taken, all) in
    subst (λ n. LastUpTo c.args.self.now c.args.aim.now n c.moments.found) upto (c.moments.invariant.last a)
