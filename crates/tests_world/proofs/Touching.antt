-- The handler of a touch takes one integer.
use Rattle.std.proofs.Common.{◌≡◌, ℕ, List, [], ◌∷◌, Option, Some, None, Bool, true, false, cond, slice_get, refl, sym, ap, ◌∙◌, subst, suc, arith}
use Rattle.std.specs.List.{All}
use Rattle.lsl_value.specs.declared.names.EventId.{EventId}
use Rattle.lsl_value.specs.declared.names.EventId.TheVariants.{TouchStart}
use Rattle.lsl_value.specs.declared.tagged.Kind.TheVariants as kind
use Rattle.lsl_value.specs.declared.tagged.Value.{Value}
use Rattle.lsl_table.specs.Events.{signature_of}
use Rattle.lsl_code.specs.declared.functions.Handler.{Handler}
use Rattle.lsl_code.specs.declared.functions.StateCode.{StateCode}
use Rattle.lsl_code.specs.declared.woven_units.Woven.{Woven}
use Rattle.lsl_code.specs.Bodies.{Body}
use Rattle.lsl_code.specs.Kinds.{kinds_of}
use Rattle.lsl_code.specs.Units.{same_event, handler_in, handler_of}
use Rattle.lsl_code.specs.Weaves.{bodies_of}
use Rattle.lsl_code.specs.WellFormed.{HasFunction, IsWellFormedState}
use Rattle.lsl_code.proofs.UnitTold.{woven_tells}
use Rattle.lsl_machine.specs.State.{AreArguments}

touch_is : (event : EventId) → same_event event TouchStart ≡ true → event ≡ TouchStart
touch_is TouchStart h = refl
touch_is event h = absurd cc

module _ (bodies : List Body) (f : ℕ) (args : List Value) (ones : kinds_of args ≡ kind.Int ∷ []) where
  takes_as : (h : Handler) → HasFunction bodies h → h.event ≡ TouchStart → h.function ≡ f
      → AreArguments (slice_get bodies f) args
  takes_as h has event number =
      subst (λ n. AreArguments (slice_get bodies n) args) number
      (subst (λ o. AreArguments o args) (sym has.1) (ones ∙ sym (has.2 ∙ ap signature_of event)))

  takes_in : (hs : List Handler) → All (HasFunction bodies) hs → handler_in hs TouchStart ≡ Some f
      → AreArguments (slice_get bodies f) args
  takes_in [] all e = absurd cc
  takes_in (h ∷ hs) all e =
      first (takes_in hs (λ k d lt. all (suc k) d (omega arith))) (same_event h.event TouchStart) refl e
    where
      first : (handler_in hs TouchStart ≡ Some f → AreArguments (slice_get bodies f) args) → (t : Bool)
          → same_event h.event TouchStart ≡ t → cond t (Some h.function) (handler_in hs TouchStart) ≡ Some f
          → AreArguments (slice_get bodies f) args
      first rest true same here = takes_as h (all 0 h (omega arith)) (touch_is h.event same) cc
      first rest false same there = rest there

  takes_of : (states : List StateCode) → All (IsWellFormedState bodies) states
      → handler_of states 0 TouchStart ≡ Some f → AreArguments (slice_get bodies f) args
  takes_of [] each e = absurd cc
  takes_of (s ∷ states) each e = takes_in s.handlers (each 0 s (omega arith)).handlers e

pub touch_takes : (unit : Woven) (f : ℕ) (args : List Value) → handler_of unit.states 0 TouchStart ≡ Some f
    → kinds_of args ≡ kind.Int ∷ [] → AreArguments (slice_get (bodies_of unit) f) args
touch_takes unit f args e ones =
    takes_of (bodies_of unit) f args ones unit.states
    (woven_tells unit.globals unit.states (bodies_of unit) unit.woven).each_state e
