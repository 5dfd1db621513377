use Rattle.std.proofs.Common.{refl}
use Rattle.lsl_script.specs.Scripts.{handles}
use Rattle.lsl_script.specs.Handlers.{going_of, gone}
use Rattle.lsl_value.specs.declared.names.EventId.TheVariants as event
use Rattle.lsl_script.proofs.laws.charge_comes_first.Goals as goal

pub returns : goal.returns
returns c = λ r number s kept o. (
  (gone r number (record s { kept = kept })
      (going_of s.leaving s.state (handles r s.code s.state event.StateExit) o)).entries,
  refl,
)
