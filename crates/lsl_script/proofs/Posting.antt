-- An event that is posted to a script's parts is posted to the source script.
use Rattle.std.proofs.Common.{◌≡◌, ℕ, Bool, ◌&&◌, List, Option, refl, sym, ap, ◌∙◌}
use Rattle.std.specs.Prelude.{is_some}
use Rattle.lsl_value.specs.declared.names.EventId.{EventId}
use Rattle.lsl_code.specs.declared.woven_units.Woven.{Woven as Code}
use Rattle.lsl_code.specs.Units.{handler_of}
use Rattle.lsl_post.specs.declared.events.Event.{Event}
use Rattle.lsl_post.specs.declared.parts.ScriptParts.{ScriptParts}
use Rattle.lsl_post.specs.Mailbox.{is_alive as rest_alive, posting, posted_to, queue_after, takes as parts_take, with_posted}
use Rattle.lsl_script.specs.Codes.{HasUnit, handler_in_unit, rules_of}
use Rattle.lsl_script.specs.Parts.{parts_of, rest_of}
use Rattle.lsl_script.specs.Scripts.{Doing, Resting, Flying, Stopped, Script, entries_of_posting, is_alive, post_to, takes}

pub alive_is : (codes : List Code) (code state : ℕ) (d : Doing) → rest_alive (rest_of codes code state d) ≡ is_alive d
alive_is codes code state Resting = refl
alive_is codes code state (Flying f) = refl
alive_is codes code state (Stopped fault) = refl

pub handler_is : (codes : List Code) (code state : ℕ) (id : EventId) (unit : Code) → HasUnit codes code unit
    → (rules_of codes).handler code state id ≡ handler_of unit.states state id
handler_is codes code state id unit known = ap (λ (o : Option Code). handler_in_unit o state id) known

pub takes_is : (codes : List Code) (s : Script) (unit : Code) (e : Event) → HasUnit codes s.code unit
    → parts_take unit.states (parts_of codes s) e ≡ takes (rules_of codes) s e
takes_is codes s unit e known =
    ap (λ a. a && is_some (handler_of unit.states s.state e.id)) (alive_is codes s.code s.state s.doing)
    ∙ ap (λ (o : Option ℕ). is_alive s.doing && is_some o) (sym (handler_is codes s.code s.state e.id unit known))

pub posted_is : (codes : List Code) (s : Script) (unit : Code) (e : Event) (number : ℕ) → HasUnit codes s.code unit
    → with_posted unit.states e (parts_of codes s) ≡ parts_of codes (post_to (rules_of codes) number e s).value
posted_is codes s unit e number known =
    ap {A = Bool} {B = ScriptParts}
    (λ heard. record (parts_of codes s) { queue = queue_after heard e s.mailbox.queue }) (takes_is codes s unit e known)

pub posted_told : (codes : List Code) (s : Script) (unit : Code) (e : Event) (number : ℕ) → HasUnit codes s.code unit
    → (post_to (rules_of codes) number e s).entries ≡ entries_of_posting number (posted_to unit.states e
    (parts_of codes s))
posted_told codes s unit e number known =
    ap (λ heard. entries_of_posting number (posting heard e s.mailbox.queue)) (sym (takes_is codes s unit e known))
