-- Rules that mean what the units' rules mean say the same of scripts of these units.
use Rattle.std.proofs.Common.{◌≡◌, ℕ, ◌<◌, List, [], ◌∷◌, Bool, Option, None, Some, length, refl, ap, ◌∙◌}
use Rattle.std.specs.Prelude.{is_some}
use Rattle.lsl_value.specs.declared.names.EventId.{EventId}
use Rattle.lsl_value.specs.declared.names.EventId.TheVariants as event
use Rattle.lsl_value.specs.declared.tagged.Value.{Value}
use Rattle.lsl_running.specs.declared.ends.Fault.{Fault}
use Rattle.lsl_running.specs.declared.ends.Outcome.{Outcome}
use Rattle.lsl_running.specs.declared.host.Reply.{Reply}
use Rattle.lsl_running.specs.declared.kept.Kept.{Kept}
use Rattle.lsl_running.specs.Charging.{default_limit}
use Rattle.lsl_code.specs.declared.woven_units.Woven.{Woven as Code}
use Rattle.lsl_post.specs.declared.entries.Entry.TheVariants as entry
use Rattle.lsl_post.specs.Mailbox.{new_mailbox, posted}
use Rattle.lsl_post.specs.Told.{Told, lead}
use Rattle.lsl_script.specs.declared.going.Going.{Going}
use Rattle.lsl_script.specs.declared.going.Going.TheVariants.{Stays, Leaves, Enters, Restarts}
use Rattle.lsl_script.specs.Codes.{Meant, rules_of}
use Rattle.lsl_script.specs.Handlers.{emptied, ended, failed, going_of, gone, resting_charge}
use Rattle.lsl_script.specs.Lawful.{flight_whole}
use Rattle.lsl_script.specs.Rules.{initial_kept, whole_in}
use Rattle.lsl_script.specs.Scripts.{Flight, Resting, Script, Stopped, fresh, handles, state_entry}

module _ (codes : List Code) (m : Meant codes) where
  handles_same : (code state : ℕ) (id : EventId) → code < length codes
      → handles m.rules code state id ≡ handles (rules_of codes) code state id
  handles_same code state id known = ap is_some (m.handler code state id known)

  kept_same : (code : ℕ) → code < length codes → initial_kept m.rules code ≡ initial_kept (rules_of codes) code
  kept_same code known = ap {A = List Value} {B = Kept} (λ g. record { globals = g; limit = default_limit })
      (m.initial code known)

  in_routine : (code : ℕ) (f : Flight) (ticks : ℕ) (answers : List Reply) → code < length codes → (o : Option ℕ)
      → whole_in m.rules code o f.kept f.event.args ticks answers
      ≡ whole_in (rules_of codes) code o f.kept f.event.args ticks answers
  in_routine code f ticks answers known None = refl
  in_routine code f ticks answers known (Some routine) = m.whole code routine f.kept f.event.args ticks answers known

  -- the result of a flight
  pub flight_same : (code state : ℕ) (f : Flight) (ticks : ℕ) (answers : List Reply) → code < length codes
      → flight_whole m.rules code state f ticks answers ≡ flight_whole (rules_of codes) code state f ticks answers
  flight_same code state f ticks answers known =
      ap (λ o. whole_in m.rules code o f.kept f.event.args ticks answers) (m.handler code state f.event.id known)
      ∙ in_routine code f ticks answers known ((rules_of codes).handler code state f.event.id)

  -- a script at its start
  pub fresh_same : (code wake : ℕ) → code < length codes → fresh m.rules code wake ≡ fresh (rules_of codes) code wake
  fresh_same code wake known =
      ap {A = Bool} {B = Script}
      (λ heard. record (fresh m.rules code wake) { mailbox = posted heard state_entry new_mailbox })
      (handles_same code 0 event.StateEntry known)
      ∙ ap {A = Kept} {B = Script} (λ k. record (fresh (rules_of codes) code wake) { kept = k }) (kept_same code known)

  gone_same : (number : ℕ) (s : Script) → s.code < length codes → (going : Going)
      → gone m.rules number s going ≡ gone (rules_of codes) number s going
  gone_same number s known Stays = refl
  gone_same number s known (Leaves to) = refl
  gone_same number s known (Enters to) =
      ap {A = Bool} {B = Told Script}
      (λ heard. record {
        value = record s {
          state = to;
          leaving = None;
          mailbox = posted heard state_entry (emptied s.mailbox);
          doing = Resting;
        };
        entries = entry.Clear number (length s.mailbox.queue) ∷ [];
      }) (handles_same s.code to event.StateEntry known)
  gone_same number s known Restarts =
      ap {A = Script} {B = Told Script}
      (λ t. record { value = t; entries = entry.Clear number (length s.mailbox.queue) ∷ [] })
      (fresh_same s.code s.wake known)

  -- a handler's end
  pub ended_same : (number : ℕ) (s : Script) (kept : Kept) (way : Outcome) → s.code < length codes
      → ended m.rules number s kept way ≡ ended (rules_of codes) number s kept way
  ended_same number s kept way known =
      let done = entry.Done number (resting_charge kept) ∷ [] in
      ap (λ exits. lead done (gone m.rules number (record s { kept = kept }) (going_of s.leaving s.state exits way)))
      (handles_same s.code s.state event.StateExit known)
      ∙ ap (lead done) (gone_same number (record s { kept = kept }) known
      (going_of s.leaving s.state (handles (rules_of codes) s.code s.state event.StateExit) way))

  -- a stop for good
  pub failed_same : (number : ℕ) (s : Script) (fault : Fault) → s.code < length codes
      → failed m.rules number s fault ≡ failed (rules_of codes) number s fault
  failed_same number s fault known =
      ap {A = Kept} {B = Told Script}
      (λ k. record {
        value = record s { kept = k; leaving = None; mailbox = new_mailbox; doing = Stopped fault };
        entries = entry.Stopped number fault ∷ [];
      }) (kept_same s.code known)
