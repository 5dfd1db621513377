use Rattle.std.specs.Prelude.{ℕ, Some}
use Rattle.std.specs.Borrow.{Lends, MutBor, Fml}
use Rattle.lsl_machine.specs.declared.standing.Halt.{Halt}
use Rattle.lsl_machine.specs.declared.standing.Halt.TheVariants as halt
use Rattle.lsl_post.specs.declared.timer.Timer.{Timer}
use Rattle.lsl_post.specs.contracts.timer.Timer as timer_type
use Rattle.lsl_post.specs.contracts.listens.Listens as listens_type
use Rattle.lsl_post.specs.Listens.{Standing}
use Rattle.lsl_post.specs.Timing.{Timing}
use Rattle.lsl_script.specs.declared.live.Live.{Live}
use Rattle.lsl_script.specs.declared.live.Turn.{Turn}
use Rattle.lsl_script.specs.declared.live.Turn.TheVariants as turn
use Rattle.lsl_script.specs.contracts.live.Live.{the_row}
use Rattle.lsl_script.specs.Scripts.{Script}

abbrev pub with_listens : Standing → Live → Live
with_listens listens live = record live { parts = record live.parts { listens = listens } }

abbrev pub with_timer : Timer → Live → Live
with_timer timer live = record live { parts = record live.parts { timer = timer } }

abbrev pub with_wake : ℕ → Live → Live
with_wake wake live = record live { parts = record live.parts { wake = wake } }

abbrev pub listening : Standing → Script → Script
listening listens s = record s { mailbox = record s.mailbox { listens = listens } }

abbrev pub ticking : Timing → Script → Script
ticking timing s = record s { mailbox = record s.mailbox { timing = timing } }

abbrev pub LendsListens : MutBor Live → MutBor Standing → Fml
LendsListens s r = Lends the_row listens_type.the_row s r (λ listens. with_listens listens s.now)

abbrev pub LendsTimer : MutBor Live → MutBor Timer → Fml
LendsTimer s r = Lends the_row timer_type.the_row s r (λ timer. with_timer timer s.now)

-- what a halt of the machine is to the script
abbrev pub turn_of : Halt → Turn
turn_of (halt.Asks call) = turn.Asks call
turn_of halt.AtTick = turn.AtTick
turn_of (halt.Ended way) = turn.Ended
turn_of (halt.Faulted fault) = turn.Faulted fault
turn_of halt.NoMemory = turn.NoMemory

abbrev pub with_halt : Halt → Live → Live
with_halt (halt.Ended way) live = record live { outcome = Some way }
with_halt h live = live
