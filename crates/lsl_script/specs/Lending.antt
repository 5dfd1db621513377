-- A script's timer is set in place.
use Rattle.std.specs.Borrow.{Lends, MutBor, Fml}
use Rattle.lsl_post.specs.declared.parts.ScriptParts.{ScriptParts}
use Rattle.lsl_post.specs.declared.timer.Timer.{Timer}
use Rattle.lsl_post.specs.contracts.timer.Timer as timer_type
use Rattle.lsl_script.specs.contracts.scripts.Script.{the_row}

abbrev pub parts_with_timer : Timer → ScriptParts → ScriptParts
parts_with_timer timer parts = record parts { timer = timer }

abbrev pub LendsPartsTimer : MutBor ScriptParts → MutBor Timer → Fml
LendsPartsTimer s r = Lends the_row timer_type.the_row s r (λ timer. parts_with_timer timer s.now)
