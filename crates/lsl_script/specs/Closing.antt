-- What a handler's end does to a script's parts, and the result.
use Rattle.std.specs.Prelude.{◌≡◌, ℕ, List, [], length, Option, Some, None}
use Rattle.lsl_value.specs.declared.names.EventId.TheVariants as event
use Rattle.lsl_running.specs.declared.ends.Outcome.{Outcome}
use Rattle.lsl_running.specs.declared.kept.Kept.{Kept}
use Rattle.lsl_running.specs.Charging.{default_limit}
use Rattle.lsl_code.specs.declared.functions.StateCode.{StateCode}
use Rattle.lsl_code.specs.declared.woven_units.Woven.{Woven as Code}
use Rattle.lsl_post.specs.declared.parts.ScriptParts.{ScriptParts}
use Rattle.lsl_post.specs.Listens.{no_listens, standing}
use Rattle.lsl_post.specs.Mailbox.{with_posted}
use Rattle.lsl_post.specs.Timing.{stopped}
use Rattle.lsl_post.specs.declared.events.Event.{Event}
use Rattle.lsl_script.specs.declared.closing.Closed.{Closed}
use Rattle.lsl_script.specs.declared.going.Going.{Going}
use Rattle.lsl_script.specs.declared.going.Going.TheVariants.{Stays, Leaves, Enters, Restarts}
use Rattle.lsl_script.specs.Codes.{rules_of}
use Rattle.lsl_script.specs.Fitting.{has_handler}
use Rattle.lsl_script.specs.Handlers.{ended, going_of}
use Rattle.lsl_script.specs.Lawful.{Lawful}
use Rattle.lsl_script.specs.Lives.{entries_of_closing}
use Rattle.lsl_script.specs.Parts.{parts_of, timer_of}
use Rattle.lsl_script.specs.Scripts.{Script, state_entry}

abbrev pub initial_of : Code → Kept
initial_of unit = record { globals = unit.globals; limit = default_limit }

-- all that waits, the listens and the timer go
abbrev pub forgotten : ScriptParts → ScriptParts
forgotten parts = record parts { queue = []; listens = no_listens; timer = timer_of stopped }

abbrev pub entering : List StateCode → ℕ → ScriptParts → ScriptParts
entering states to parts =
    with_posted states state_entry (record parts {
      state = to;
      leaving = None;
      listens = standing parts.listens.next [];
      queue = [];
    })

abbrev pub begun_again : Code → ScriptParts → ScriptParts
begun_again unit parts =
    with_posted unit.states state_entry (record parts {
      globals = unit.globals;
      limit = default_limit;
      state = 0;
      leaving = None;
      queue = [];
      listens = no_listens;
      timer = timer_of stopped;
    })

abbrev pub gone_parts : Code → Going → ScriptParts → ScriptParts
gone_parts unit Stays parts = parts
gone_parts unit (Leaves to) parts = record parts { leaving = Some to }
gone_parts unit (Enters to) parts = entering unit.states to parts
gone_parts unit Restarts parts = begun_again unit parts

-- where a script goes after its handler ended this way
abbrev pub going_after : Code → ScriptParts → Outcome → Going
going_after unit parts way =
    going_of parts.leaving parts.state (has_handler unit.states parts.state event.StateExit) way

-- how many events went, if any could: the script is in a new state, or began again
abbrev pub count_gone : Going → List Event → Option ℕ
count_gone Stays queue = None
count_gone (Leaves to) queue = None
count_gone (Enters to) queue = Some (length queue)
count_gone Restarts queue = Some (length queue)

-- the script, the charge and the events that went are those of the source script after its handler ended this way and
-- left this
pub record ClosesAs (codes : List Code) (number : ℕ) (s : Script) (kept : Kept) (way : Outcome) (closed : Closed)
    : Type 0 where
  pub script : closed.script ≡ parts_of codes (ended (rules_of codes) number s kept way).value
  pub lawful : Lawful (rules_of codes) (ended (rules_of codes) number s kept way).value
  pub entries : (ended (rules_of codes) number s kept way).entries
      ≡ entries_of_closing number closed.charge closed.cleared
