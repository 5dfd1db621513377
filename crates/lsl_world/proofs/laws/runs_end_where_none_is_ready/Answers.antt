use Rattle.lsl_world.proofs.Ending.{runs-end}
use Rattle.lsl_world.proofs.laws.runs_end_where_none_is_ready.Goals as goal

pub returns : goal.returns
returns c = runs-end
