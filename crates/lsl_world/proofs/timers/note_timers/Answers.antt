use Rattle.std.proofs.Common.{◌∙◌, arith, sym}
use Rattle.std.proofs.lemmas.List.{length-map}
use Rattle.lsl_region.proofs.Placed.{stands-length}
use Rattle.std.specs.Prelude.{None}
use Rattle.lsl_world.specs.Timers.{timing_in, timings_of}
use Rattle.lsl_world.proofs.Indexing.{noted-all, noted-none, noted-put, noted_in-all, noted_in-none, noted_in-put}
use Rattle.lsl_world.proofs.timers.note_timers.Goals as goal

pub loop-place-init : goal.loop-place-init
loop-place-init c = record {
  few = c.scripts-place-end.ensures.within;
  numbered = c.requires.numbered;
  noted = λ codes clock w st. noted-none (timings_of w) c.args.due.now;
  seated = noted_in-none c.args.grid.now.seats c.args.due.now;
}

pub note_timer-requires-clause-script : goal.note_timer-requires-clause-script
note_timer-requires-clause-script c =
    (omega arith, omega (arith, c.scripts-place-end.ensures.value, c.loop-place-test.true))

pub loop-place-preserved : goal.loop-place-preserved
loop-place-preserved c = record {
  few = c.loop-place.invariant.few;
  numbered = c.note_timer.ensures.numbered;
  noted = λ codes clock w st.
      noted-put (timings_of w) c.loop-place.place c.loop-place.due c.note_timer.new.due
      (c.loop-place.invariant.noted codes clock w st) (c.in_ok-note_timer.ensures.puts codes clock w st);
  seated = noted_in-put c.args.grid.now.seats c.loop-place.place c.loop-place.due c.note_timer.new.due
      c.loop-place.invariant.seated c.in_ok-note_timer.ensures.seat;
}

pub returns-clause-exact : goal.returns-clause-exact
returns-clause-exact c = λ codes clock w st.
    noted-all (timings_of w) c.scripts-place-end.result c.loop-place.place c.loop-place.due
    (length-map w.members timing_in ∙ sym (stands-length codes None clock c.args.grid.now w st)
    ∙ sym c.scripts-place-end.ensures.value) c.loop-place-test.false
    (λ at number h. let k = c.loop-place.invariant.numbered at number h in
    (k.0, omega (arith, k.1, c.scripts-place-end.ensures.value))) (c.loop-place.invariant.noted codes clock w st)

pub returns-clause-index : goal.returns-clause-index
returns-clause-index c =
    noted_in-all c.args.grid.now.seats c.loop-place.place c.loop-place.due
    (omega (arith, c.loop-place-test.false, c.scripts-place-end.ensures.value)) c.loop-place.invariant.numbered
    c.loop-place.invariant.seated
