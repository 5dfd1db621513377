-- The result of a handler is the same with more ticks if it isn't cut, and with further answers if it doesn't ask.
use Rattle.std.proofs.Common.{◌≡◌, ◌≢◌, ℕ, ◌+◌, List, ◌++◌, Bool, true, false, cond, Option, None, Some, refl, ap, ◌∙◌, slice_get}
use Rattle.lsl_value.specs.declared.names.BuiltinId.{BuiltinId}
use Rattle.lsl_value.specs.declared.tagged.Value.{Value}
use Rattle.lsl_running.specs.declared.ends.Fault.TheVariants.{StackHeap}
use Rattle.lsl_running.specs.declared.host.Reply.{Reply}
use Rattle.lsl_running.specs.declared.kept.Kept.{Kept}
use Rattle.lsl_running.specs.Charging.{script_charge, used, is_within}
use Rattle.lsl_running.specs.Results.{ActiveCall, Cut, Asks}
use Rattle.lsl_code.specs.Acts.{first_slots}
use Rattle.lsl_code.specs.Bodies.{Body}
use Rattle.lsl_code.specs.Forward.{Forward}
use Rattle.lsl_code.specs.Laws.{after_ticks, after_answers, TicksChangeNothing, AnswersChangeNothing}
use Rattle.lsl_code.specs.Machine.{Faulted}
use Rattle.lsl_code.specs.Runs.{Halt, Over, AskAt, CutAt, run}
use Rattle.lsl_code.specs.Wholes.{active_calls, told, begun, started}
use Rattle.lsl_code.proofs.Further.{answers_law}
use Rattle.lsl_code.proofs.Resuming.{ticks_law}

module _ (bodies : List Body) (forward : Forward bodies) (f : ℕ) (kept : Kept) where
  told_ticks : (k : ℕ) (h : Halt) → ((calls : List ActiveCall) → told bodies h ≢ Cut calls)
      → told bodies (after_ticks bodies k h) ≡ told bodies h
  told_ticks k (Over e) loose = refl
  told_ticks k (AskAt id args m t) loose = refl
  told_ticks k (CutAt m) loose = absurd (loose (active_calls bodies m.calls) refl)

  told_answers : (further : List Reply) (h : Halt)
      → ((id : BuiltinId) (asked : List Value) → told bodies h ≢ Asks id asked)
      → told bodies (after_answers bodies further h) ≡ told bodies h
  told_answers further (Over e) loose = refl
  told_answers further (AskAt id args m t) loose = absurd (loose id args refl)
  told_answers further (CutAt m) loose = refl

  begun_ticks : (ticks more : ℕ) (slots : List Value) (answers : List Reply) (b : Bool)
      → ((calls : List ActiveCall)
      → told bodies (cond b (run bodies ticks (begun f kept slots answers)) (Over (Faulted StackHeap))) ≢ Cut calls)
      → told bodies (cond b (run bodies (ticks + more) (begun f kept slots answers)) (Over (Faulted StackHeap)))
      ≡ told bodies (cond b (run bodies ticks (begun f kept slots answers)) (Over (Faulted StackHeap)))
  begun_ticks ticks more slots answers true loose =
      ap (told bodies) (ticks_law bodies forward ticks (ticks + more) more (begun f kept slots answers) refl)
      ∙ told_ticks more (run bodies ticks (begun f kept slots answers)) loose
  begun_ticks ticks more slots answers false loose = refl

  started_ticks : (o : Option Body) (args : List Value) (ticks more : ℕ) (answers : List Reply)
      → ((calls : List ActiveCall) → told bodies (started o bodies f kept args ticks answers) ≢ Cut calls)
      → told bodies (started o bodies f kept args (ticks + more) answers)
      ≡ told bodies (started o bodies f kept args ticks answers)
  started_ticks None args ticks more answers loose = refl
  started_ticks (Some body) args ticks more answers loose =
      let slots = first_slots body args in
      begun_ticks ticks more slots answers (is_within kept (used script_charge slots kept)) loose

  begun_answers : (ticks : ℕ) (slots : List Value) (answers further : List Reply) (b : Bool)
      → ((id : BuiltinId) (asked : List Value)
      → told bodies (cond b (run bodies ticks (begun f kept slots answers)) (Over (Faulted StackHeap))) ≢ Asks id asked)
      → told bodies (cond b (run bodies ticks (begun f kept slots (answers ++ further))) (Over (Faulted StackHeap)))
      ≡ told bodies (cond b (run bodies ticks (begun f kept slots answers)) (Over (Faulted StackHeap)))
  begun_answers ticks slots answers further true loose =
      ap (told bodies) (answers_law bodies further forward ticks (begun f kept slots answers))
      ∙ told_answers further (run bodies ticks (begun f kept slots answers)) loose
  begun_answers ticks slots answers further false loose = refl

  started_answers : (o : Option Body) (args : List Value) (ticks : ℕ) (answers further : List Reply)
      → ((id : BuiltinId) (asked : List Value)
      → told bodies (started o bodies f kept args ticks answers) ≢ Asks id asked)
      → told bodies (started o bodies f kept args ticks (answers ++ further))
      ≡ told bodies (started o bodies f kept args ticks answers)
  started_answers None args ticks answers further loose = refl
  started_answers (Some body) args ticks answers further loose =
      let slots = first_slots body args in
      begun_answers ticks slots answers further (is_within kept (used script_charge slots kept)) loose

pub ticks_change_nothing : TicksChangeNothing
ticks_change_nothing bodies forward f kept args ticks more answers loose =
    started_ticks bodies forward f kept (slice_get bodies f) args ticks more answers loose

pub answers_change_nothing : AnswersChangeNothing
answers_change_nothing bodies forward f kept args ticks answers further loose =
    started_answers bodies forward f kept (slice_get bodies f) args ticks answers further loose
