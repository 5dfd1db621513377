use Rattle.std.proofs.Common.{◌≤◌, sym, ap, subst, arith, length, List, ℕ}
use Rattle.lsl_notes.specs.Places.{HavePlaces}
use Rattle.lsl_notes.proofs.LinePlaces.{place-first, place-next, one-more, all-counted, have-none, left}
use Rattle.lsl_notes.proofs.places.places_of.Goals as goal

pub loop-place-init : goal.loop-place-init
loop-place-init c =
    record {
      here = place-first c.args.text.now c.utf8.text;
      have = subst (λ (e : List ℕ). HavePlaces c.args.text.now e 0) (sym c.new-eighths.ensures.items)
          (have-none c.args.text.now);
      within = omega arith;
      some = omega arith;
    }

pub loop-place-preserved : goal.loop-place-preserved
loop-place-preserved c =
    let was = c.loop-place.invariant in
    let line = c.line_length-place.ensures in
    let rest = left c.args.text.now c.as_bytes-bytes.result.now c.loop-place.place c.as_bytes-bytes.ensures.value in
    record {
      here = place-next c.args.text.now _ c.loop-place.count c.loop-place.place c.line_length-place.result
          c.utf8.text was.here rest line.some line.within line.first line.ends;
      have = c.in_ok-add.ensures c.args.text.now was.here was.have;
      within = omega (arith, was.within, line.some);
      some = one-more c.args.text.now _ c.loop-place.count c.loop-place.place c.line_length-place.result
          was.here rest line.first;
    }

pub returns : goal.returns
returns c =
    let was = c.loop-place.invariant in
    let past : length c.args.text.now ≤ c.loop-place.place =
    omega (arith, c.loop-place-test.false, ap length c.as_bytes-bytes.ensures.value) in
    record {
      short = c.requires;
      counted = all-counted c.args.text.now c.loop-place.count c.loop-place.place was.here past was.some;
      have = was.have;
    }
