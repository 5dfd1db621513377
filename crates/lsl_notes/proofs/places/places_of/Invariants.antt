use Rattle.std.proofs.Common.{length, ◌-◌, ◌≤◌}
use Rattle.std.specs.Str.Lines.{lines}
use Rattle.lsl_notes.specs.Places.{HavePlaces, IsPlace}
use Rattle.lsl_notes.proofs.places.places_of.Given as goal

abbrev pub invariant-loop-place : goal.invariant-loop-place
invariant-loop-place l =
    record {
      here : IsPlace l.text l.count l.place;
      have : HavePlaces l.text l.eighths.items l.count;
      within : l.count ≤ l.place;
      some : l.count ≤ length (lines l.text);
    }

abbrev pub decreases-loop-place : goal.decreases-loop-place
decreases-loop-place l = length l.bytes - l.place
