-- Parts stay valid for their unit.
use Rattle.std.proofs.Common.{◌≡◌, ℕ, ◌<◌, List, [], ◌∷◌, ◌++◌, Bool, true, false, not, ◌&&◌, None, length, refl, sym, subst, arith}
use Rattle.std.specs.Prelude.{All, if◌then◌else◌, slice_index_or}
use Rattle.std.proofs.lemmas.List.Elements.{All-append}
use Rattle.lsl_code.specs.declared.functions.StateCode.{StateCode}
use Rattle.lsl_code.specs.declared.woven_units.Woven.{Woven as Code}
use Rattle.lsl_post.specs.declared.events.Event.{Event}
use Rattle.lsl_post.specs.declared.parts.ScriptParts.{ScriptParts}
use Rattle.lsl_post.specs.Mailbox.{is_alive as rest_alive, takes, with_posted}
use Rattle.lsl_post.specs.Queue.{has_room, has_timer, is_timer, with_event}
use Rattle.lsl_script.specs.declared.live.Live.{Live}
use Rattle.lsl_script.specs.Awake.{IsAwake}
use Rattle.lsl_script.specs.Fitting.{CanLeave, CanWait, FitsStates, FitsUnit, has_handler, is_exit}
use Rattle.lsl_script.specs.Scripts.{state_entry}

one_waits : (states : List StateCode) (state : ℕ) (e : Event) → CanWait states state e
    → All (CanWait states state) (e ∷ [])
one_waits states state e w k d lt = let n : k ≡ 0 = omega arith in
    subst (λ i. CanWait states state (slice_index_or (e ∷ []) i d)) (sym n) w

put_waits : (states : List StateCode) (state : ℕ) (e : Event) (queue : List Event) (room : Bool)
    → All (CanWait states state) queue → CanWait states state e
    → All (CanWait states state) (if room then queue ++ e ∷ [] else queue)
put_waits states state e queue true all w =
    All-append (CanWait states state) queue (e ∷ []) all (one_waits states state e w)
put_waits states state e queue false all w = all

after_waits : (states : List StateCode) (state : ℕ) (e : Event) (queue : List Event) (taken new : Bool)
    → All (CanWait states state) queue → (taken ≡ true → CanWait states state e)
    → All (CanWait states state) (if taken && new then with_event e queue else queue)
after_waits states state e queue true true all w = put_waits states state e queue (has_room queue) all (w refl)
after_waits states state e queue true false all w = all
after_waits states state e queue false true all w = all
after_waits states state e queue false false all w = all

taken_handler : (alive handled : Bool) → (alive && handled) ≡ true → handled ≡ true
taken_handler true handled e = e
taken_handler false handled e = absurd cc

-- an event that isn't an exit is posted
pub posted_fits : (states : List StateCode) (parts : ScriptParts) (e : Event) → is_exit e ≡ false
    → FitsStates states parts.state parts.leaving parts.queue
    → FitsStates states parts.state parts.leaving (with_posted states e parts).queue
posted_fits states parts e other fits = record {
  stands = fits.stands;
  leaves = fits.leaves;
  waits = after_waits states parts.state e parts.queue (takes states parts e) (not (is_timer e && has_timer
      parts.queue))
      fits.waits
      (λ taken. record {
        handled = taken_handler (rest_alive parts.rest) (has_handler states parts.state e.id) taken;
        other = other;
      });
}

pub posted_fits_unit : (unit : Code) (parts : ScriptParts) (e : Event) → is_exit e ≡ false → FitsUnit unit parts
    → FitsUnit unit (with_posted unit.states e parts)
posted_fits_unit unit parts e other fits = record {
  states = posted_fits unit.states parts e other fits.states;
  globals = fits.globals;
  least = fits.least;
  limit = fits.limit;
  rest = fits.rest;
}

pub posted_awake : (unit : Code) (live : Live) (e : Event) → is_exit e ≡ false → IsAwake unit live
    → IsAwake unit (record live { parts = with_posted unit.states e live.parts })
posted_awake unit live e other a = record {
  states = posted_fits unit.states live.parts e other a.states;
  idle = a.idle;
  event = a.event;
  machine = a.machine;
  silent = a.silent;
  running = a.running;
  begun = a.begun;
}

-- a state with nothing that waits but its entry
pub entered_fits : (states : List StateCode) (parts : ScriptParts) → parts.state < length states → parts.leaving ≡ None
    → parts.queue ≡ [] → FitsStates states parts.state parts.leaving (with_posted states state_entry parts).queue
entered_fits states parts stands leaving queue =
    posted_fits states parts state_entry refl (record {
      stands = stands;
      leaves = subst (CanLeave states parts.state) (sym leaving) tt;
      waits = subst (All (CanWait states parts.state)) (sym queue) (λ k d lt. absurd (omega arith));
    })
