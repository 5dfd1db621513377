-- A script's listens and its timer are its source's, and whatever is done to them in place is done to the source's.
use Rattle.std.specs.Prelude.{◌≡◌, List}
use Rattle.lsl_value.specs.declared.names.BuiltinId.{BuiltinId}
use Rattle.lsl_code.specs.declared.woven_units.Woven.{Woven as Code}
use Rattle.lsl_post.specs.declared.parts.ScriptParts.{ScriptParts}
use Rattle.lsl_post.specs.declared.timer.Timer.{Timer}
use Rattle.lsl_post.specs.Listens.{Standing}
use Rattle.lsl_post.specs.Timer.{timing_of}
use Rattle.lsl_script.specs.declared.live.Live.{Live}
use Rattle.lsl_script.specs.Awake.{IsAwake}
use Rattle.lsl_script.specs.Codes.{rules_of}
use Rattle.lsl_script.specs.Fitting.{FitsUnit}
use Rattle.lsl_script.specs.Lawful.{Lawful}
use Rattle.lsl_script.specs.Lending.{parts_with_timer}
use Rattle.lsl_script.specs.Lives.{Waits}
use Rattle.lsl_script.specs.Mailing.{listening, ticking, with_listens, with_timer}
use Rattle.lsl_script.specs.Parts.{parts_of}
use Rattle.lsl_script.specs.Scripts.{Flight, Script}

pub record HasListens (codes : List Code) (unit : Code) (s : Script) (f : Flight) (id : BuiltinId) (live : Live) :
    Type 0
  where
    pub same : live.parts.listens ≡ s.mailbox.listens
    pub changed : (listens : Standing) → Waits codes unit (listening listens s) f id (with_listens listens live)

abbrev pub ListensAreIts : Type 0
ListensAreIts =
    (codes : List Code) (unit : Code) (s : Script) (f : Flight) (id : BuiltinId) (live : Live)
    → Waits codes unit s f id live → HasListens codes unit s f id live

pub record HasTimer (codes : List Code) (unit : Code) (s : Script) (f : Flight) (id : BuiltinId) (live : Live) : Type 0
  where
    pub same : timing_of live.parts.timer ≡ s.mailbox.timing
    pub changed : (timer : Timer) → Waits codes unit (ticking (timing_of timer) s) f id (with_timer timer live)

abbrev pub TimerIsIts : Type 0
TimerIsIts =
    (codes : List Code) (unit : Code) (s : Script) (f : Flight) (id : BuiltinId) (live : Live)
    → Waits codes unit s f id live → HasTimer codes unit s f id live

-- and it stays a script of its unit
abbrev pub StaysAwake : Type 0
StaysAwake =
    (unit : Code) (live : Live) → IsAwake unit live
    → ((listens : Standing) → IsAwake unit (with_listens listens live))
    × ((timer : Timer) → IsAwake unit (with_timer timer live))

-- the same between turns
pub record RestsWithTimer (codes : List Code) (s : Script) (parts : ScriptParts) : Type 0 where
  pub same : timing_of parts.timer ≡ s.mailbox.timing
  pub changed : (timer : Timer) → parts_with_timer timer parts ≡ parts_of codes (ticking (timing_of timer) s)
  pub lawful : (timer : Timer) → Lawful (rules_of codes) (ticking (timing_of timer) s)

abbrev pub RestingTimerIsIts : Type 0
RestingTimerIsIts =
    (codes : List Code) (s : Script) (parts : ScriptParts) → parts ≡ parts_of codes s → Lawful (rules_of codes) s
    → RestsWithTimer codes s parts

abbrev pub StaysFitting : Type 0
StaysFitting =
    (unit : Code) (parts : ScriptParts) (timer : Timer) → FitsUnit unit parts
    → FitsUnit unit (parts_with_timer timer parts)
