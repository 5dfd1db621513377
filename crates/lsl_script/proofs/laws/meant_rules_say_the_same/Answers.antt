use Rattle.lsl_script.proofs.Meant.{ended_same, failed_same, flight_same, fresh_same}
use Rattle.lsl_script.proofs.laws.meant_rules_say_the_same.Goals as goal

pub returns : goal.returns
returns c = λ codes m. record {
  flights = flight_same codes m;
  starts = fresh_same codes m;
  ends = ended_same codes m;
  faults = failed_same codes m;
}
