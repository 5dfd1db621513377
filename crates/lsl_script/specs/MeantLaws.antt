-- Rules that mean what the units' rules mean say the same of scripts of these units.
use Rattle.std.specs.Prelude.{◌≡◌, ℕ, ◌<◌, List, length}
use Rattle.lsl_running.specs.declared.ends.Fault.{Fault}
use Rattle.lsl_running.specs.declared.ends.Outcome.{Outcome}
use Rattle.lsl_running.specs.declared.host.Reply.{Reply}
use Rattle.lsl_running.specs.declared.kept.Kept.{Kept}
use Rattle.lsl_code.specs.declared.woven_units.Woven.{Woven as Code}
use Rattle.lsl_script.specs.Codes.{Meant, rules_of}
use Rattle.lsl_script.specs.Handlers.{ended, failed}
use Rattle.lsl_script.specs.Lawful.{flight_whole}
use Rattle.lsl_script.specs.Scripts.{Flight, Script, fresh}

pub record SaysTheSame (codes : List Code) (m : Meant codes) : Type 0 where
  pub flights : (code state : ℕ) (f : Flight) (ticks : ℕ) (answers : List Reply) → code < length codes
      → flight_whole m.rules code state f ticks answers ≡ flight_whole (rules_of codes) code state f ticks answers
  pub starts : (code wake : ℕ) → code < length codes → fresh m.rules code wake ≡ fresh (rules_of codes) code wake
  pub ends : (number : ℕ) (s : Script) (kept : Kept) (way : Outcome) → s.code < length codes
      → ended m.rules number s kept way ≡ ended (rules_of codes) number s kept way
  pub faults : (number : ℕ) (s : Script) (fault : Fault) → s.code < length codes
      → failed m.rules number s fault ≡ failed (rules_of codes) number s fault

abbrev pub MeantSaysTheSame : Type 0
MeantSaysTheSame = (codes : List Code) (m : Meant codes) → SaysTheSame codes m
