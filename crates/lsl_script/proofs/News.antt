-- A script at its start.
use Rattle.std.proofs.Common.{◌≡◌, ℕ, List, [], Bool, Option, None, sym, ap, ◌∙◌}
use Rattle.std.specs.Prelude.{is_some}
use Rattle.lsl_value.specs.declared.names.EventId.TheVariants as event
use Rattle.lsl_value.specs.declared.tagged.Value.{Value}
use Rattle.lsl_running.specs.Charging.{default_limit}
use Rattle.lsl_code.specs.declared.woven_units.Woven.{Woven as Code}
use Rattle.lsl_post.specs.declared.events.Event.{Event}
use Rattle.lsl_post.specs.declared.parts.Rest.TheVariants.{Idle}
use Rattle.lsl_post.specs.declared.parts.ScriptParts.{ScriptParts}
use Rattle.lsl_post.specs.declared.timer.Timer.{Timer}
use Rattle.lsl_post.specs.Listens.{Standing, no_listens}
use Rattle.lsl_post.specs.Mailbox.{queue_after, with_posted}
use Rattle.lsl_post.specs.Timer.{timing_of}
use Rattle.lsl_post.specs.Timing.{stopped}
use Rattle.lsl_script.specs.Codes.{HasUnit, globals_in, rules_of}
use Rattle.lsl_script.specs.Parts.{parts_of, timer_of}
use Rattle.lsl_script.specs.Scripts.{new_script, state_entry}
use Rattle.lsl_script.proofs.Posting.{handler_is}
use Rattle.lsl_script.proofs.Timers.{timer_by}

abbrev pub first_parts : ℕ → List Value → List Event → Standing → Timer → ScriptParts
first_parts number globals queue listens timer = record {
  unit = number;
  globals = globals;
  limit = default_limit;
  state = 0;
  leaving = None;
  queue = queue;
  listens = listens;
  timer = timer;
  wake = 0;
  rest = Idle;
}

pub new_is : (codes : List Code) (unit : Code) (number : ℕ) (globals : List Value) (queue : List Event)
    (listens : Standing) (timer : Timer) (e : Event) → HasUnit codes number unit → globals ≡ unit.globals → queue ≡ []
    → listens ≡ no_listens → timing_of timer ≡ stopped → e ≡ state_entry
    → with_posted unit.states e (first_parts number globals queue listens timer)
    ≡ parts_of codes (new_script (rules_of codes) number)
new_is codes unit number globals queue listens timer e known g q l t is =
    ap (λ x. with_posted unit.states x (first_parts number globals queue listens timer)) is
    ∙ ap (λ x. with_posted unit.states state_entry (first_parts number x queue listens timer))
    (g ∙ sym (ap (λ (o : Option Code). globals_in o) known))
    ∙ ap (λ x. with_posted unit.states state_entry (first_parts number ((rules_of codes).initial number) x listens
    timer)) q
    ∙ ap (λ x. with_posted unit.states state_entry (first_parts number ((rules_of codes).initial number) [] x timer)) l
    ∙ ap (λ x. with_posted unit.states state_entry (first_parts number ((rules_of codes).initial number) []
    no_listens x))
    (timer_by timer stopped t)
    ∙ ap {A = Bool} {B = ScriptParts}
    (λ heard. first_parts number ((rules_of codes).initial number) (queue_after heard state_entry []) no_listens
    (timer_of stopped))
    (ap is_some (sym (handler_is codes number 0 event.StateEntry unit known)))
