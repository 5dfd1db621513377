-- What a host call does to the mailbox of the script that asks, and when it stops the script.
use Rattle.std.specs.Prelude.{◌≡◌, ℤ, List, Option, Some, None}
use Rattle.lsl_value.specs.declared.names.BuiltinId.{BuiltinId}
use Rattle.lsl_value.specs.declared.names.BuiltinId.TheVariants.{Listen}
use Rattle.lsl_value.specs.declared.tagged.Value.{Value}
use Rattle.lsl_running.specs.declared.ends.Fault.{Fault}
use Rattle.lsl_running.specs.declared.ends.Fault.TheVariants.{TooManyListens}
use Rattle.lsl_running.specs.declared.host.Reply.{Reply}
use Rattle.lsl_running.specs.declared.host.Reply.TheVariants as reply
use Rattle.lsl_code.specs.declared.woven_units.Woven.{Woven as Code}
use Rattle.lsl_post.specs.Listens.{Standing}
use Rattle.lsl_script.specs.declared.live.Live.{Live}
use Rattle.lsl_script.specs.Awake.{IsAwake}
use Rattle.lsl_script.specs.Lives.{Waits}
use Rattle.lsl_script.specs.Scripts.{Flight, Script}
use Rattle.lsl_region.specs.Answers.{listen_among}

-- the script that it represents changes this way
abbrev pub Becomes : Live → Live → (Script → Script) → Type 0
Becomes old new change =
    (codes : List Code) (unit : Code) (s : Script) (f : Flight) (id : BuiltinId) → Waits codes unit s f id old
    → Waits codes unit (change s) f id new

-- it stays awake, and its machine is as it was
pub record Keeps (old new : Live) : Type 0 where
  pub awake : (unit : Code) → IsAwake unit old → IsAwake unit new
  pub machine : new.machine ≡ old.machine

-- the fault that stops the script with this answer
abbrev pub stop_of : Reply → Option Fault
stop_of (reply.Value v) = None
stop_of (reply.Stop fault) = Some fault

abbrev pub stop_without : Option (ℤ × Standing) → Option Fault
stop_without None = Some TooManyListens
stop_without (Some given) = None

-- the fault that stops the script with these listens: it asks for one that it can't have
abbrev pub stop_for : BuiltinId → List Value → Standing → Option Fault
stop_for Listen args listens = stop_without (listen_among args listens)
stop_for id args listens = None
