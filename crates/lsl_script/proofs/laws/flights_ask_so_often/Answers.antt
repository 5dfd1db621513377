use Rattle.lsl_script.proofs.Comes.{flights_ask_so_often}
use Rattle.lsl_script.proofs.laws.flights_ask_so_often.Goals as goal

pub returns : goal.returns
returns c = flights_ask_so_often
