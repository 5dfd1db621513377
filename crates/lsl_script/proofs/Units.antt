-- What the type of a unit says of its machines.
use Rattle.std.proofs.Common.{◌≡◌, ℕ, suc, ◌-◌, ◌<◌, List, [], ◌∷◌, Bool, true, false, cond, Option, None, Some, length, refl, sym, ap, ◌∙◌, subst, slice_get, get_or, arith}
use Rattle.std.specs.Prelude.{All}
use Rattle.lsl_value.specs.declared.names.EventId.{EventId}
use Rattle.lsl_value.specs.declared.tagged.Value.{Value}
use Rattle.lsl_table.specs.Events.{events, signature_of}
use Rattle.lsl_value.specs.declared.names.EventId.TheVariants as event
use Rattle.std.proofs.lemmas.Bool.Decides.{nat_tests}
use Rattle.lsl_running.specs.declared.host.Reply.{Reply}
use Rattle.lsl_running.specs.declared.kept.Kept.{Kept}
use Rattle.lsl_code.specs.declared.functions.Handler.{Handler}
use Rattle.lsl_code.specs.declared.functions.StateCode.{StateCode}
use Rattle.lsl_code.specs.declared.woven_units.Woven.{Woven as Code}
use Rattle.lsl_code.specs.Acts.{first_slots}
use Rattle.lsl_code.specs.Bodies.{Body}
use Rattle.lsl_code.specs.Forward.{Forward}
use Rattle.lsl_code.specs.Frames.{frames_of}
use Rattle.lsl_code.specs.Kinded.{IsAnsweredIn, IsKindedMachine, IsKindedNext}
use Rattle.lsl_code.specs.Kinds.{kinds_of}
use Rattle.lsl_code.specs.Machine.{Machine, step}
use Rattle.lsl_code.specs.Standing.{HasFrames, IsAtTick, IsChain}
use Rattle.lsl_code.specs.Units.{event_number, handler_at, handler_in, handler_of, same_event}
use Rattle.lsl_code.specs.WellFormed.{HasFunction, IsWellFormedState}
use Rattle.lsl_code.specs.Wholes.{begun}
use Rattle.lsl_code.proofs.MachineKinds.{begins_kinded, nothing_is_stuck}
use Rattle.lsl_code.proofs.Sames.{sames_are}
use Rattle.lsl_code.proofs.Stood.{ticks_have_frames}
use Rattle.lsl_post.specs.declared.events.Event.{Event}
use Rattle.std.proofs.lemmas.Option.{get_or_from_slice_get, slice_get_within}
use Rattle.lsl_code.proofs.UnitTold.{woven_tells}
use Rattle.lsl_machine.specs.State.{bodies_of}

pub record IsSound (unit : Code) : Type 0 where
  pub forward : Forward (bodies_of unit)
  pub steps : (m : Machine) → IsKindedMachine (kinds_of unit.globals) (bodies_of unit) m
      → IsAnsweredIn (bodies_of unit) m.calls m.answers
      → IsKindedNext (kinds_of unit.globals) (length unit.states) (bodies_of unit) (step (bodies_of unit) m)
  pub begins : (f : ℕ) (w : Body) (kept : Kept) (args : List Value) (answers : List Reply)
      → slice_get (bodies_of unit) f ≡ Some w → kinds_of kept.globals ≡ kinds_of unit.globals → kinds_of args ≡ w.params
      → IsKindedMachine (kinds_of unit.globals) (bodies_of unit) (begun f kept (first_slots w args) answers)
  pub frames : (handler : ℕ) (m : Machine) → IsKindedMachine (kinds_of unit.globals) (bodies_of unit) m
      → IsChain (bodies_of unit) handler m.calls → IsAtTick (bodies_of unit) m.calls
      → HasFrames (bodies_of unit) handler m.calls (frames_of (bodies_of unit) m.calls)
  pub some_state : 0 < length unit.states
  pub each_state : All (IsWellFormedState (bodies_of unit)) unit.states

pub sound : (unit : Code) → IsSound unit
sound unit =
    let told = woven_tells unit.globals unit.states (bodies_of unit) unit.woven in
    record {
      forward = told.forward;
      steps = nothing_is_stuck unit.globals unit.states (bodies_of unit) told;
      begins = begins_kinded unit.globals unit.states (bodies_of unit) told;
      frames = ticks_have_frames unit.globals unit.states (bodies_of unit) told;
      some_state = omega (arith, told.some_state);
      each_state = told.each_state;
    }

event_is : (a : EventId) → get_or events (event_number a - 1) event.StateEntry ≡ a
event_is event.StateEntry = refl
event_is event.StateExit = refl
event_is event.TouchStart = refl
event_is event.Touch = refl
event_is event.TouchEnd = refl
event_is event.Listen = refl
event_is event.Timer = refl
event_is event.LinkMessage = refl
event_is event.Changed = refl
event_is event.OnRez = refl
event_is event.Dataserver = refl
event_is event.LinksetData = refl

-- events with one number are the same
event_same : (a b : EventId) → same_event a b ≡ true → a ≡ b
event_same a b e =
    let number : event_number a ≡ event_number b = grind (arith, nat_tests) in
    sym (event_is a) ∙ ap (λ n. get_or events (n - 1) event.StateEntry) number ∙ event_is b

-- a handler's function has the parameters of its event

handler_found : (bodies : List Body) (hs : List Handler) (id : EventId) (f : ℕ) → All (HasFunction bodies) hs
    → handler_in hs id ≡ Some f → (w : Body) × (slice_get bodies f ≡ Some w) × (w.params ≡ signature_of id)
handler_found bodies [] id f all e = absurd cc
handler_found bodies (h ∷ hs) id f all e =
    go (same_event h.event id) refl (handler_found bodies hs id f (λ k d lt. all (suc k) d (omega arith))) e
  where
    go : (b : Bool) → same_event h.event id ≡ b
        → (handler_in hs id ≡ Some f → (w : Body) × (slice_get bodies f ≡ Some w) × (w.params ≡ signature_of id))
        → cond b (Some h.function) (handler_in hs id) ≡ Some f
        → (w : Body) × (slice_get bodies f ≡ Some w) × (w.params ≡ signature_of id)
    go true same later e =
        let has = all 0 h (omega arith) in
        let number : h.function ≡ f = cc in
        (has.0, ap (slice_get bodies) (sym number) ∙ has.1, has.2 ∙ ap signature_of (event_same h.event id same))
    go false differs later e = later e

handler_there : (bodies : List Body) (states : List StateCode) (state : ℕ) (o : Option StateCode) (id : EventId) (f : ℕ)
    → slice_get states state ≡ o → All (IsWellFormedState bodies) states → handler_at o id ≡ Some f
    → (w : Body) × (slice_get bodies f ≡ Some w) × (w.params ≡ signature_of id)
handler_there bodies states state None id f is all e = absurd cc
handler_there bodies states state (Some s) id f is all e =
    let within : state < length states = slice_get_within states state s is in
    let here : get_or states state s ≡ s = get_or_from_slice_get states state s s is in
    handler_found bodies s.handlers id f (subst (λ x. IsWellFormedState bodies x) here (all state s within)).handlers e

-- the arguments of an event have the kinds that its handler wants
pub arguments_fit : (unit : Code) (state f : ℕ) (e : Event) → handler_of unit.states state e.id ≡ Some f
    → (w : Body) × (slice_get (bodies_of unit) f ≡ Some w) × (kinds_of e.args ≡ w.params)
arguments_fit unit state f e found =
    let w = handler_there (bodies_of unit) unit.states state (slice_get unit.states state) e.id f refl
    (sound unit).each_state found in
    (w.0, w.1, sames_are (kinds_of e.args) (signature_of e.id) e.fits ∙ sym w.2)
