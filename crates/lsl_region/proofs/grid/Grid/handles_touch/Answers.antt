use Rattle.std.proofs.Common.{◌<◌, ◌≤◌, List, length, ap, sym, ◌∙◌, arith}
use Rattle.std.specs.Prelude.{◌&&◌, None}
use Rattle.std.specs.List.{list_any}
use Rattle.std.proofs.Math.ListN.{drop_of_length-le}
use Rattle.lsl_region.specs.Arrivals.{handles_touch, is_in_prim}
use Rattle.lsl_region.specs.Worlds.{Member}
use Rattle.lsl_region.proofs.Placed.{stands-length}
use Rattle.lsl_region.proofs.Touches.{any-here, any-on, found-at}
use Rattle.lsl_region.proofs.grid.Grid.handles_touch.Goals as goal

pub returns-then-handles_touch_at : goal.returns-then-handles_touch_at
returns-then-handles_touch_at c = λ m clock w st.
    let codes = c.args.library.now in
    let self = c.args.self.now in
    let place = c.loop-place.place in
    let h : place < length self.seats = omega (arith, c.loop-place.invariant.end, c.loop-place-test.true) in
    let k = found-at codes m clock self w place c.args.object c.args.prim c.handles_touch_at.result st c.requires h
    c.handles_touch_at.ensures in
    sym (c.loop-place.invariant.none m clock w st
    ∙ any-here (λ n. is_in_prim c.args.object c.args.prim w n && handles_touch m.rules n) w.members place k.member k.at
    (sym k.is ∙ c.if-handles_touch_at.true))

pub loop-place-preserved : goal.loop-place-preserved
loop-place-preserved c =
    let codes = c.args.library.now in
    let self = c.args.self.now in
    let place = c.loop-place.place in
    let h : place < length self.seats = omega (arith, c.loop-place.invariant.end, c.loop-place-test.true) in
    record {
      end = c.loop-place.invariant.end;
      none = λ m clock w st.
          let k = found-at codes m clock self w place c.args.object c.args.prim c.handles_touch_at.result st c.requires
          h
          c.handles_touch_at.ensures in
          c.loop-place.invariant.none m clock w st
          ∙ any-on (λ n. is_in_prim c.args.object c.args.prim w n && handles_touch m.rules n) w.members place k.member
          k.at
          (sym k.is ∙ c.if-handles_touch_at.false);
    }

pub returns : goal.returns
returns c = λ m clock w st.
    let codes = c.args.library.now in
    let self = c.args.self.now in
    let few : length w.members ≤ c.loop-place.place =
    omega (arith, c.loop-place.invariant.end, c.loop-place-test.false, stands-length codes None clock self w st) in
    sym (c.loop-place.invariant.none m clock w st
    ∙ ap (λ (ms : List Member). list_any (λ n. is_in_prim c.args.object c.args.prim w n && handles_touch m.rules n) ms)
    (drop_of_length-le w.members few))
