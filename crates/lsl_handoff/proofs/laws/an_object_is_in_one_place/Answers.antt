use Rattle.std.proofs.Common.{[], length}
use Rattle.lsl_handoff.specs.Runs.{after, last_parcel, start}
use Rattle.lsl_handoff.proofs.RunLemmas.{run-keeps}
use Rattle.lsl_handoff.proofs.StartLemmas.{in-one-place, numbers-start, object-start}
use Rattle.lsl_handoff.proofs.laws.an_object_is_in_one_place.Goals as goal

pub returns : goal.returns
returns c homes regions events object are may there =
    in-one-place regions (after (start homes regions) events) object
    (last_parcel object (start homes regions) events [])
    (run-keeps regions (length homes) events (start homes regions) object [] (numbers-start homes regions are)
    (object-start homes regions are object there) may)
