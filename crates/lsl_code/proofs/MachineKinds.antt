-- A step of a well-formed unit's machine leads from right kinds to right kinds.
use Rattle.std.proofs.Common.{◌≡◌, ℕ, ◌+◌, ◌<◌, List, [], ◌∷◌, ◌++◌, length, map, take, drop, Option, Some, None, option_map, true, false, cond, refl, sym, ap, ap₂, ◌∙◌, subst, arith, slice_get}
use Rattle.std.proofs.lemmas.List.{take-append-drop}
use Rattle.std.proofs.lemmas.Option.{slice_get_within}
use Rattle.lsl_value.specs.Values.{kind_of}
use Rattle.lsl_value.specs.declared.names.BuiltinId.{BuiltinId}
use Rattle.lsl_value.specs.declared.tagged.Kind.{Kind}
use Rattle.lsl_value.specs.declared.tagged.Value.{Value}
use Rattle.lsl_table.specs.Calls.{row_of}
use Rattle.lsl_code.specs.declared.instructions.Instr.{Instr}
use Rattle.lsl_code.specs.declared.instructions.Instr.TheVariants.{Host}
use Rattle.lsl_code.specs.Bodies.{Body}
use Rattle.lsl_code.specs.Drafts.{next}
use Rattle.lsl_code.specs.Effects.{pushed, is_asked}
use Rattle.lsl_code.specs.Fits.{finds, goes_on}
use Rattle.lsl_code.specs.Kinds.{kinds_of, scope}
use Rattle.lsl_running.specs.declared.ends.Fault.TheVariants.{StackHeap}
use Rattle.lsl_running.specs.declared.host.Reply.{Reply}
use Rattle.lsl_running.specs.declared.host.Reply.TheVariants as reply
use Rattle.lsl_running.specs.declared.kept.Kept.{Kept}
use Rattle.lsl_running.specs.Calling.{call_form}
use Rattle.lsl_running.specs.Charging.{is_within}
use Rattle.lsl_running.specs.Values.{empty_of}
use Rattle.lsl_code.specs.Acts.{Did, Goes, Jumps, Enters, Leaves, Passes, Asks, Ends, Fails, Stuck, first_slots}
use Rattle.lsl_code.specs.Machine.{MachineCall, Machine, Faulted, Lost, Next, On, Halts, base, used_in, put, checked, left_to, replied, answered, after, done_by, step_in}
use Rattle.lsl_code.specs.declared.functions.StateCode.{StateCode}
use Rattle.lsl_code.specs.Bodies.{instruction_in, instruction_at}
use Rattle.lsl_code.specs.Kinded.{IsKindedCall, AreWaiting, AreKindedCalls, IsKindedMachine, Answers, IsAnsweredIn, IsKindedNext, NothingIsStuck, BeginsKinded}
use Rattle.lsl_code.specs.Kinds.{names_in}
use Rattle.lsl_code.specs.WellFormed.{StandsWith, IsWellFormedUnit}
use Rattle.lsl_code.proofs.ActKinds.{DidFit, act_fits}
use Rattle.lsl_code.proofs.Acts.{By, act_by}
use Rattle.lsl_code.proofs.Told.{finds_told}
use Rattle.lsl_code.proofs.ValueKinds.{kinds_append, empties_kinds}
use Rattle.lsl_code.proofs.Following.{straight_finds, jump_finds, answer_taken, some_within}

module _ (globals : List Value) (states : List StateCode) (bodies : List Body)
    (ok : IsWellFormedUnit globals states bodies) where
  abbrev kept_kinds : List Kind
  kept_kinds = kinds_of globals

  abbrev IsRight : Next → Type 0
  IsRight x = IsKindedNext kept_kinds (length states) bodies x

  checked_right : (m : Machine) → IsKindedMachine kept_kinds bodies m → IsRight (checked m)
  checked_right m h =
      elim (is_within m.kept (used_in m.calls m.kept)) as
      (λ b. IsRight (cond b (On m) (Halts (Faulted StackHeap)))) [ true ↦ h | false ↦ tt ]

  left_right : (result : Option Kind) (outer : List MachineCall) (g : Kept) (a : List Reply)
      (given : Option Value) → kinds_of g.globals ≡ kept_kinds → AreWaiting bodies result outer
      → result ≡ option_map kind_of given → IsRight (left_to outer g a given)
  left_right result [] g a given kg waits e = (kg, tt)
  left_right result (c ∷ outer) g a None kg waits e =
      let stands = subst (λ o. StandsWith waits.0 c.place (pushed o (kinds_of c.operands))) e waits.2.1 in
      record { kept = kg; calls = (waits.0, waits.1, (waits.2.0, stands), waits.3) }
  left_right result (c ∷ outer) g a (Some v) kg waits e =
      let stands = subst (λ o. StandsWith waits.0 c.place (pushed o (kinds_of c.operands))) e waits.2.1 in
      checked_right (put g a c.function c.place c.slots (v ∷ c.operands) outer)
      (record { kept = kg; calls = (waits.0, waits.1, (waits.2.0, stands), waits.3) })

  module _ (f : ℕ) (w : Body) (there : slice_get bodies f ≡ Some w) (outer : List MachineCall)
      (waits : AreWaiting bodies w.result outer) where
    put_right : (g : Kept) (a : List Reply) (place : ℕ) (sl ops : List Value) (js : List Kind)
        → kinds_of g.globals ≡ kept_kinds → kinds_of sl ≡ w.slots → kinds_of ops ≡ js → finds w place js ≡ true
        → IsKindedMachine kept_kinds bodies (put g a f place sl ops outer)
    put_right g a place sl ops js kg ks ko on =
        record {
          kept = kg;
          calls = (
            w,
            there,
            (ks, subst (λ l. StandsWith w place l) (sym ko) (finds_told w place js on)),
            waits,
          );
        }

    replied_right : (id : BuiltinId) (r : Reply) (g : Kept) (a : List Reply) (place : ℕ) (sl rest : List Value)
        (js : List Kind) → kinds_of g.globals ≡ kept_kinds → kinds_of sl ≡ w.slots
        → pushed (row_of id).result (kinds_of rest) ≡ js → finds w place js ≡ true → Answers id r
        → IsRight (replied r g a f place sl rest outer)
    replied_right id (reply.Value (Some v)) g a place sl rest js kg ks e on h =
        checked_right (put g a f place sl (v ∷ rest) outer)
        (put_right g a place sl (v ∷ rest) js kg ks (ap (λ o. pushed o (kinds_of rest)) h ∙ e) on)
    replied_right id (reply.Value None) g a place sl rest js kg ks e on h =
        put_right g a place sl rest js kg ks (ap (λ o. pushed o (kinds_of rest)) h ∙ e) on
    replied_right id (reply.Stop fault) g a place sl rest js kg ks e on h = tt

    module _ (place : ℕ) (i : Instr) (g : Kept) (sl ops : List Value) (js : List Kind)
        (kg : kinds_of g.globals ≡ kept_kinds) (ks : kinds_of sl ≡ w.slots) (on : goes_on w place i js ≡ true)
      where
        answered_right : (a : List Reply) (id : BuiltinId) (args rest : List Value) → is_asked (call_form id) ≡ true
            → kinds_of args ≡ (row_of id).params → pushed (row_of id).result (kinds_of rest) ≡ js
            → finds w (place + 1) js ≡ true → ((r : Reply) (more : List Reply) → a ≡ r ∷ more → Answers id r)
            → IsRight (answered a id args (λ r more. replied r g more f (place + 1) sl rest outer))
        answered_right [] id args rest asked ka kr next fits = (asked, ka)
        answered_right (r ∷ more) id args rest asked ka kr next fits =
            let h = fits r more refl in
            subst (λ b. IsRight (cond b (replied r g more f (place + 1) sl rest outer) (Halts Lost)))
            (sym (answer_taken (row_of id).result r id refl h))
            (replied_right id r g more (place + 1) sl rest js kg ks kr next h)

        after_right : (d : Did) (a : List Reply) → By bodies i d
            → DidFit bodies (scope (names_in globals states bodies) w.slots w.result) ops d js
            → ((id : BuiltinId) (r : Reply) (more : List Reply) → i ≡ Host id → a ≡ r ∷ more → Answers id r)
            → IsRight (after d g a f place sl ops outer)
        after_right (Goes slots operands kept) a by fit fits =
            put_right kept a (place + 1) slots operands js fit.0 fit.1 fit.2 (straight_finds w place i js by on)
        after_right (Jumps to operands) a by fit fits =
            put_right g a to sl operands js kg ks fit (jump_finds w place to i js by on)
        after_right (Enters callee slots rest) a by fit fits =
            let next : finds w (place + 1) js ≡ true = subst (λ x. goes_on w place x js ≡ true) by.1 on in
            record {
              kept = kg;
              calls = (
                fit.0,
                fit.1,
                (fit.2, (ok.functions callee fit.0 fit.1).first),
                (
                  w,
                  there,
                  (
                    ks,
                    subst (λ l. StandsWith w (place + 1) l) (sym fit.3)
                        (finds_told w (place + 1) js next),
                  ),
                  waits,
                ),
              );
            }
        after_right (Leaves None) a by fit fits = left_right w.result outer g a None kg waits fit
        after_right (Leaves (Some v)) a by fit fits = left_right w.result outer g a (Some v) kg waits fit
        after_right Passes a by fit fits =
            put_right g a (place + 1) sl ops js kg ks fit (subst (λ x. goes_on w place x js ≡ true) by.1 on)
        after_right (Asks id args rest) a by fit fits =
            answered_right a id args rest fit.0 fit.1 fit.2 (subst (λ x. goes_on w place x js ≡ true) by on)
            (λ r more e. fits id r more by e)
        after_right (Ends way) a by fit fits = (kg, fit)
        after_right (Fails fault) a by fit fits = tt
        after_right Stuck a by fit fits = fit

  params_told : (f : ℕ) (w : Body) → slice_get bodies f ≡ Some w → take (length w.params) w.slots ≡ w.params
  params_told f w there = (ok.functions f w there).params

  within_code : (f : ℕ) (w : Body) (place : ℕ) (ks : List Kind) → slice_get bodies f ≡ Some w
      → StandsWith w place ks → place < length w.code
  within_code f w place ks there stands =
      omega (arith, slice_get_within w.stacks place _ stands, (ok.functions f w there).stacks)

  module _ (g : Kept) (a : List Reply) (c : MachineCall) (outer : List MachineCall) (w : Body)
      (kg : kinds_of g.globals ≡ kept_kinds) (there : slice_get bodies c.function ≡ Some w)
      (call : IsKindedCall w c (kinds_of c.operands)) (waits : AreWaiting bodies w.result outer)
      (fits : IsAnsweredIn bodies (c ∷ outer) a) where
    is_at : (o : Option Instr) → slice_get w.code c.place ≡ o → instruction_at bodies c.function c.place ≡ o
    is_at o e = ap (λ b. instruction_in b c.place) there ∙ e

    right_at : (i : Instr) → slice_get w.code c.place ≡ Some i
        → IsRight (done_by bodies (Some i) g a c.function c.place c.slots c.operands outer)
    right_at i here =
        let told = (ok.functions c.function w there).finds c.place i (kinds_of c.operands) here call.1 in
        let s = scope (names_in globals states bodies) w.slots w.result in
        after_right c.function w there outer waits c.place i g c.slots c.operands told.0 kg call.0 told.2 _ a
        (act_by bodies i g (base outer) c.slots c.operands)
        (act_fits bodies s refl params_told g (base outer) c.slots told.0 kg call.0 i c.operands told.1)
        (λ id r more is e. fits id r more (is_at (Some i) here ∙ ap Some is) e)

    by_instruction : (o : Option Instr) → slice_get w.code c.place ≡ o → IsRight (step_in bodies g a (c ∷ outer))
    by_instruction None e =
        absurd
        (some_within w.code c.place (within_code c.function w c.place (kinds_of c.operands) there call.1) e)
    by_instruction (Some i) e =
        subst (λ o. IsRight (done_by bodies o g a c.function c.place c.slots c.operands outer))
        (sym (is_at (Some i) e)) (right_at i e)

  step_right : (g : Kept) (a : List Reply) (calls : List MachineCall) → kinds_of g.globals ≡ kept_kinds
      → AreKindedCalls bodies calls → IsAnsweredIn bodies calls a → IsRight (step_in bodies g a calls)
  step_right g a [] kg kinded fits = absurd kinded
  step_right g a (c ∷ outer) kg kinded fits =
      by_instruction g a c outer kinded.0 kg kinded.1 kinded.2 kinded.3 fits (slice_get kinded.0.code c.place) refl

pub nothing_is_stuck : NothingIsStuck
nothing_is_stuck globals states bodies ok m kinded answered =
    step_right globals states bodies ok m.kept m.answers m.calls kinded.kept
    kinded.calls answered

pub begins_kinded : BeginsKinded
begins_kinded globals states bodies ok f w kept args answers there kg ka =
    let told = ok.functions f w there in
    let slots : kinds_of (first_slots w args) ≡ w.slots =
    kinds_append args (map empty_of (drop (length w.params) w.slots))
    ∙ ap₂ (λ a b. a ++ b) (ka ∙ sym told.params) (empties_kinds (drop (length w.params) w.slots))
    ∙ take-append-drop (length w.params) w.slots in
    record { kept = kg; calls = (w, there, (slots, told.first), tt) }
