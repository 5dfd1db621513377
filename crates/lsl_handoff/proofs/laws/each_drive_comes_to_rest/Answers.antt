use Rattle.std.specs.Prelude.{Contains}
use Rattle.lsl_handoff.proofs.RestLemmas.{came-of, drive-rests, handed-so}
use Rattle.lsl_handoff.proofs.laws.each_drive_comes_to_rest.Goals as goal

pub returns : goal.returns
returns c field place way parcel handed trips has rest home fine past obeys faithful none =
    let end = drive-rests field place way parcel (Contains handed) has rest home fine past trips obeys
    (came-of trips handed (Contains handed) (λ n is. is) faithful) none in
    record {
      rests = end.rests;
      as_parcel = end.as_parcel;
      after = end.after;
      others = end.others;
      past = λ n is. end.past n (handed-so trips handed (Contains handed) (λ x was. was) n is);
      landed_is = end.landed_is;
    }
