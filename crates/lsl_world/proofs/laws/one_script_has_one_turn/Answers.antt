use Rattle.lsl_world.proofs.Alone.{rounds-alone}
use Rattle.lsl_world.proofs.laws.one_script_has_one_turn.Goals as goal

pub returns : goal.returns
returns c = rounds-alone
