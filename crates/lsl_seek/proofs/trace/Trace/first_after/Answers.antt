use Rattle.std.proofs.Common.{◌≡◌, ℕ, ◌<◌, List, length, get_or, sym, ap, subst, arith}
use Rattle.lsl_seek.specs.Moments.{moments, up_to}
use Rattle.lsl_seek.specs.Watches.{Watches}
use Rattle.lsl_seek.proofs.Watching.{length-moments, passed-first, passed-none, passed-watch, up_to-none}
use Rattle.lsl_seek.proofs.trace.Trace.first_after.Goals as goal

pub moments-init : goal.moments-init
moments-init c = record {
  places = c.deref-place-items.ensures.value;
  watch = subst (λ p. Watches c.args.aim.now c.new-watch.result p) (sym (up_to-none (moments c.args.self.now))) (c.new-watch.ensures c.args.aim.now);
  none = λ a k low high. absurd (omega arith);
}

pub returns-then-is_met : goal.returns-then-is_met
returns-then-is_met c =
    let trace = c.args.self.now in
    let items = c.deref-place-items.result.now in
    let same : items ≡ trace.places.items = c.moments.invariant.places in
    let within : c.moments.i < length items = omega arith in
    let bound : c.moments.i < length trace.places.items = subst (λ (xs : List ℕ). c.moments.i < length xs) same within in
    let is : get_or items c.moments.i 0 ≡ get_or trace.places.items c.moments.i 0 = ap (λ (xs : List ℕ). get_or xs c.moments.i 0) same in
    let step = c.in_ok-is_met.ensures (up_to (moments trace) c.moments.i) c.moments.invariant.watch in
    λ a. passed-first trace c.args.aim.now c.args.from c.moments.i (get_or items c.moments.i 0) bound is c.in_ok-is_met.is_met c.if-is_met.true (step.1 a) (c.moments.invariant.none a)

pub moments-preserved : goal.moments-preserved
moments-preserved c =
    let trace = c.args.self.now in
    let items = c.deref-place-items.result.now in
    let same : items ≡ trace.places.items = c.moments.invariant.places in
    let within : c.moments.i < length items = omega arith in
    let bound : c.moments.i < length trace.places.items = subst (λ (xs : List ℕ). c.moments.i < length xs) same within in
    let is : get_or items c.moments.i 0 ≡ get_or trace.places.items c.moments.i 0 = ap (λ (xs : List ℕ). get_or xs c.moments.i 0) same in
    let step = c.in_ok-is_met.ensures (up_to (moments trace) c.moments.i) c.moments.invariant.watch in
    record {
      places = same;
      watch = passed-watch trace c.args.aim.now c.args.from c.moments.i (get_or items c.moments.i 0) bound is c.passes.new.watch step.0;
      none = λ a. passed-none trace c.args.aim.now c.args.from c.moments.i (get_or items c.moments.i 0) bound is c.in_ok-is_met.is_met c.if-is_met.false (step.1 a) (c.moments.invariant.none a);
    }

pub returns : goal.returns
returns c = λ a k low high.
    let lengths = ap length c.moments.invariant.places in
    let all = length-moments c.args.self.now in
    c.moments.invariant.none a k low (omega (arith, lengths, all))
