-- While a woven unit's machine saves, the operands have the kinds that its functions declare.
use Rattle.std.proofs.Common.{◌≡◌, ℕ, zero, suc, ◌+◌, List, [], ◌∷◌, ◌++◌, length, drop, map, reverse, Option, Some, None, true, option_map, refl, sym, ap, ◌∙◌, subst, arith, slice_get}
use Rattle.std.specs.Prelude.{option_and_then}
use Rattle.std.proofs.lemmas.Option.{slice_get-map, none-some}
use Rattle.lsl_value.specs.declared.tagged.Kind.{Kind}
use Rattle.lsl_value.specs.declared.tagged.Value.{Value}
use Rattle.lsl_code.specs.declared.frames.Frame.{Frame}
use Rattle.lsl_code.specs.declared.functions.Point.{Point}
use Rattle.lsl_code.specs.declared.functions.StateCode.{StateCode}
use Rattle.lsl_code.specs.declared.instructions.Instr.{Instr}
use Rattle.lsl_code.specs.declared.instructions.Instr.TheVariants.{Jump, TestSave, KeepSlot, KeepTop, Seal}
use Rattle.lsl_code.specs.declared.woven_functions.WovenCode.{WovenCode}
use Rattle.lsl_code.specs.Bodies.{Body, instruction_in}
use Rattle.lsl_code.specs.Fits.{all_places, has_kinds}
use Rattle.lsl_code.specs.Kinds.{kinds_of}
use Rattle.lsl_code.specs.Machine.{MachineCall}
use Rattle.lsl_code.specs.ModeStacks.{Stop, flat, saves_on, save_stops, behind_point, stops_behind, saving_stops, saving_of, are_there, tells_modes}
use Rattle.lsl_code.specs.Modes.{at_place, repeat}
use Rattle.lsl_code.specs.SaveWays.{waiting_kinds}
use Rattle.lsl_code.specs.Saving.{Saving, saving, SaveAct, Keeps, Seals, NoSave, keeps_slot, keeps_top, save_act, save_after, save_step, begins_saving}
use Rattle.lsl_code.specs.Standing.{point_instr}
use Rattle.lsl_code.specs.Woven.{is_woven}
use Rattle.lsl_code.specs.WovenBodies.{woven_body}
use Rattle.lsl_code.proofs.Sames.{both_true, shape_is}
use Rattle.lsl_code.proofs.Tested.{both}
use Rattle.lsl_code.proofs.Told.{all_at}
use Rattle.lsl_weave.specs.WovenCalls.{IsAt, WaitAtCalls, RestAtTick}
use Rattle.lsl_weave.specs.ToldLaws.{AreAsTold, SavingIsTold}
use Rattle.lsl_weave.proofs.SavingOn.{OnSaveWay, SaveGoesOn, kept_ok, save_begins, save_goes_on, save_not_over}

there_front : (all : List (Option (List Kind))) (a b : List Stop) → are_there all (a ++ b) ≡ true
    → (are_there all a ≡ true) × (are_there all b ≡ true)
there_front all [] b h = (refl, h)
there_front all (stop ∷ a) b h =
    let t = both_true (has_kinds (slice_get all stop.place) stop.kinds) _ h in
    let r = there_front all a b t.1 in
    (both _ _ t.0 r.0, r.1)

pub there_at : {A : Type 0} (all : List (Option (List Kind))) (g : ℕ → A → List Stop) (i : ℕ) (xs : List A) (k : ℕ)
    (x : A) → are_there all (flat g i xs) ≡ true → slice_get xs k ≡ Some x → are_there all (g (i + k) x) ≡ true
there_at all g i [] k x h e = absurd cc
there_at all g i (y ∷ xs) zero x h e =
    let same : y ≡ x = cc in
    let z : i ≡ i + 0 = omega arith in
    subst (λ n. are_there all (g n x) ≡ true) z
    (subst (λ v. are_there all (g i v) ≡ true) same (there_front all (g i y) (flat g (suc i) xs) h).0)
there_at all g i (y ∷ xs) (suc k) x h e =
    let z : suc i + k ≡ i + suc k = omega arith in
    subst (λ n. are_there all (g n x) ≡ true) z
    (there_at all g (suc i) xs k x (there_front all (g i y) (flat g (suc i) xs) h).1 e)

-- a call that continues to save continues to its next stop
act_stop : (all : List (Option (List Kind))) (go : ℕ → List Kind → List Stop) (o : Option Instr) (c d : MachineCall)
    (hand hand' : List Value) → save_act o c hand ≡ Keeps d hand'
    → are_there all (saves_on go c.place (kinds_of c.operands) o) ≡ true
    → are_there all (go d.place (kinds_of d.operands)) ≡ true
act_stop all go (Some (TestSave t)) c d hand hand' e h =
    let same : at_place c t c.operands ≡ d = cc in
    subst (λ (x : MachineCall). are_there all (go x.place (kinds_of x.operands)) ≡ true) same h
act_stop all go (Some (Jump t)) c d hand hand' e h =
    let same : at_place c t c.operands ≡ d = cc in
    subst (λ (x : MachineCall). are_there all (go x.place (kinds_of x.operands)) ≡ true) same h
act_stop all go (Some (KeepSlot n)) c d hand hand' e h = by_slot (slice_get c.slots n) e
  where
    by_slot : (o : Option Value)
        → keeps_slot o (λ v. Keeps (at_place c (c.place + 1) c.operands) (v ∷ hand)) ≡ Keeps d hand'
        → are_there all (go d.place (kinds_of d.operands)) ≡ true
    by_slot None e = absurd cc
    by_slot (Some v) e =
        let same : at_place c (c.place + 1) c.operands ≡ d = cc in
        subst (λ (x : MachineCall). are_there all (go x.place (kinds_of x.operands)) ≡ true) same h
act_stop all go (Some KeepTop) c d hand hand' e h = by_top c.operands refl e
  where
    by_top : (ops : List Value) → c.operands ≡ ops
        → keeps_top ops (λ v rest. Keeps (at_place c (c.place + 1) rest) (v ∷ hand)) ≡ Keeps d hand'
        → are_there all (go d.place (kinds_of d.operands)) ≡ true
    by_top [] is e = absurd cc
    by_top (v ∷ rest) is e =
        let same : at_place c (c.place + 1) rest ≡ d = cc in
        subst (λ (x : MachineCall). are_there all (go x.place (kinds_of x.operands)) ≡ true) same
        (subst (λ l. are_there all (go (c.place + 1) (drop 1 (kinds_of l))) ≡ true) is h)
act_stop all go (Some (Seal p)) c d hand hand' e h = absurd cc
act_stop all go o c d hand hand' e h = absurd cc

-- a function's body is that of its woven code
pub code_of : (functions : List WovenCode) (f : ℕ) (w : Body) → slice_get (map woven_body functions) f ≡ Some w
    → (code : WovenCode) × (slice_get functions f ≡ Some code) × (woven_body code ≡ w)
code_of functions f w e =
    by_code (slice_get functions f) refl (sym (slice_get-map woven_body functions f) ∙ e)
  where
    by_code : (o : Option WovenCode) → slice_get functions f ≡ o → option_map woven_body o ≡ Some w
        → (code : WovenCode) × (slice_get functions f ≡ Some code) × (woven_body code ≡ w)
    by_code None is e = absurd cc
    by_code (Some code) is e = let same : woven_body code ≡ w = cc in (code, is, same)

module _ (globals : List Value) (states : List StateCode) (functions : List WovenCode)
    (ok : is_woven globals states (map woven_body functions) ≡ true)
    (modes : all_places tells_modes 0 functions ≡ true) (h : ℕ) where
  abbrev bodies : List Body
  bodies = map woven_body functions

  all_told : (f : ℕ) (code : WovenCode) → slice_get functions f ≡ Some code
      → are_there (saving_of code) (saving_stops code.slots code.points code.code) ≡ true
  all_told f code e =
      (both_true _ _ (all_at tells_modes functions f code modes e)).0

  -- the call is on its way, and stops where its function declares
  record IsSaving (c : MachineCall) (hand : List Value) : Type 0 where
    code : WovenCode
    found : slice_get functions c.function ≡ Some code
    point : ℕ
    kinds : List Kind
    left : ℕ
    on : OnSaveWay (woven_body code) point kinds left c hand
    told : are_there (saving_of code) (save_stops code.code left c.place (kinds_of c.operands)) ≡ true

  behind_told : (code : WovenCode) (k p : ℕ) (callee : Option ℕ) (pt : Point)
      → are_there (saving_of code) (stops_behind code.slots code.points code.code k (point_instr callee p)) ≡ true
      → slice_get code.points p ≡ Some pt
      → are_there (saving_of code) (save_stops code.code (length code.code) (k + 1) (waiting_kinds code.slots pt)) ≡ true
  behind_told code k p None pt t e =
      subst (λ o. are_there (saving_of code) (behind_point code.slots code.code k o) ≡ true) e t
  behind_told code k p (Some g) pt t e =
      subst (λ o. are_there (saving_of code) (behind_point code.slots code.code k o) ≡ true) e t

  begins : (c : MachineCall) (k : ℕ) (callee : Option ℕ) (p x : ℕ) → IsAt bodies c k callee p → x ≡ k + 1
      → IsSaving (at_place c x c.operands) []
  begins c k callee p x fit e =
      let r = code_of functions c.function fit.body fit.found in
      let code = r.0 in
      let here = ap (λ (w : Body). slice_get w.code k) r.2 ∙ fit.here in
      let mapped = ap (λ (w : Body). slice_get w.points p) r.2 ∙ fit.mapped in
      let z : 0 + k ≡ k = omega arith in
      let all = there_at (saving_of code) (stops_behind code.slots code.points code.code) 0 code.code k
      (point_instr callee p) (all_told c.function code r.1) here in
      let stop = subst (λ n. are_there (saving_of code) (stops_behind code.slots code.points code.code n
      (point_instr callee p)) ≡ true) z all in
      let behind = behind_told code k p callee fit.point stop mapped in
      let operands : kinds_of c.operands ≡ waiting_kinds code.slots fit.point =
      fit.operands ∙ sym (ap (λ (w : Body). waiting_kinds w.slots fit.point) r.2) in
      let begin = save_begins bodies c k callee p fit x e
      (kept_ok globals states bodies ok c.function fit.body fit.found) in
      record {
        code = code;
        found = r.1;
        point = p;
        kinds = fit.point.kinds;
        left = length code.code;
        on = subst (λ (w : Body). OnSaveWay w p fit.point.kinds (length w.code) (at_place c x c.operands) []) (sym r.2)
            begin;
        told =
            subst (λ l. are_there (saving_of code) (save_stops code.code (length code.code) x l) ≡ true) (sym operands)
            (subst (λ n. are_there (saving_of code) (save_stops code.code (length code.code) n
            (waiting_kinds code.slots fit.point)) ≡ true) (sym e) behind);
      }

  abbrev AreSaving : List MachineCall → List Value → Type 0
  AreSaving [] hand = Unit {0}
  AreSaving (c ∷ outer) hand = IsSaving c hand × WaitAtCalls bodies h outer c.function

  outer_saves : (outer : List MachineCall) (g : ℕ) → WaitAtCalls bodies h outer g → AreSaving outer []
  outer_saves [] g w = tt
  outer_saves (c ∷ outer) g w = (begins c w.0 (Some g) w.1 c.place w.3 w.2, w.4)

  module _ (c : MachineCall) (hand : List Value) (outer : List MachineCall) (sack : List Frame)
      (waits : WaitAtCalls bodies h outer c.function) where
    act_saves : (code : WovenCode) → slice_get functions c.function ≡ Some code → (p f : ℕ) (kinds : List Kind)
        → are_there (saving_of code) (saves_on (save_stops code.code f) c.place (kinds_of c.operands)
        (slice_get code.code c.place)) ≡ true
        → (a : SaveAct) → save_act (slice_get code.code c.place) c hand ≡ a
        → SaveGoesOn (woven_body code) p kinds f c.function a
        → (s : Saving) → save_after a outer sack ≡ Some s → AreSaving s.calls s.hand
    act_saves code found p f kinds more (Keeps d hand') is g s e =
        let same : saving (d ∷ outer) hand' sack ≡ s = cc in
        let next : IsSaving d hand' =
        record {
          code = code;
          found = ap (slice_get functions) g.0 ∙ found;
          point = p;
          kinds = kinds;
          left = f;
          on = g.1;
          told =
              act_stop (saving_of code) (save_stops code.code f) (slice_get code.code c.place) c d hand hand' is more;
        } in
        subst (λ (x : Saving). AreSaving x.calls x.hand) same
        (next, subst (WaitAtCalls bodies h outer) (sym g.0) waits)
    act_saves code found p f kinds more (Seals frame) is g s e =
        let same : saving outer [] (sack ++ frame ∷ []) ≡ s = cc in
        subst (λ (x : Saving). AreSaving x.calls x.hand) same (outer_saves outer c.function waits)
    act_saves code found p f kinds more NoSave is g s e = absurd g

    on_saves : (left : ℕ) (code : WovenCode) → slice_get functions c.function ≡ Some code → (p : ℕ) (kinds : List Kind)
        → OnSaveWay (woven_body code) p kinds left c hand
        → are_there (saving_of code) (save_stops code.code left c.place (kinds_of c.operands)) ≡ true
        → (s : Saving) → save_step bodies (saving (c ∷ outer) hand sack) ≡ Some s → AreSaving s.calls s.hand
    on_saves zero code found p kinds on told s e = absurd (save_not_over (woven_body code) p kinds c hand on)
    on_saves (suc f) code found p kinds on told s e =
        let at = slice_get-map woven_body functions c.function ∙ ap (option_map woven_body) found in
        let step = ap (λ o. save_after (save_act (instruction_in o c.place) c hand) outer sack) (sym at) ∙ e in
        let t = both_true (has_kinds (slice_get (saving_of code) c.place) (kinds_of c.operands)) _ told in
        act_saves code found p f kinds t.1 (save_act (slice_get code.code c.place) c hand) refl
        (save_goes_on (woven_body code) p kinds f c hand on) s step

  step_saves : (s t : Saving) → AreSaving s.calls s.hand → save_step bodies s ≡ Some t → AreSaving t.calls t.hand
  step_saves s t are e = by_calls s.calls s.hand s.sack are e
    where
      by_calls : (calls : List MachineCall) (hand : List Value) (sack : List Frame) → AreSaving calls hand
          → save_step bodies (saving calls hand sack) ≡ Some t → AreSaving t.calls t.hand
      by_calls [] hand sack are e = absurd cc
      by_calls (c ∷ outer) hand sack are e =
          let i = are.0 in
          on_saves c hand outer sack are.1 i.left i.code i.found i.point i.kinds i.on i.told t e

  steps_save : (n : ℕ) (s t : Saving) → AreSaving s.calls s.hand → repeat (save_step bodies) n s ≡ Some t
      → AreSaving t.calls t.hand
  steps_save zero s t are e = let same : s ≡ t = cc in subst (λ (x : Saving). AreSaving x.calls x.hand) same are
  steps_save (suc n) s t are e =
      by_step (save_step bodies s) refl (λ x more ran. steps_save n x t more ran) e
    where
      by_step : (o : Option Saving) → save_step bodies s ≡ o
          → ((x : Saving) → AreSaving x.calls x.hand → repeat (save_step bodies) n x ≡ Some t
          → AreSaving t.calls t.hand)
          → option_and_then (repeat (save_step bodies) n) o ≡ Some t → AreSaving t.calls t.hand
      by_step None is go e = absurd (none-some t e)
      by_step (Some x) is go e = go x (step_saves s x are is) e

  is_told : (left : ℕ) (code : WovenCode) (p : ℕ) (kinds : List Kind) (c : MachineCall) (hand : List Value)
      → OnSaveWay (woven_body code) p kinds left c hand
      → are_there (saving_of code) (save_stops code.code left c.place (kinds_of c.operands)) ≡ true
      → slice_get (saving_of code) c.place ≡ Some (Some (reverse (kinds_of c.operands)))
  is_told zero code p kinds c hand on told = absurd (save_not_over (woven_body code) p kinds c hand on)
  is_told (suc f) code p kinds c hand on told =
      shape_is (slice_get (saving_of code) c.place) (kinds_of c.operands)
      (both_true (has_kinds (slice_get (saving_of code) c.place) (kinds_of c.operands)) _ told).0

  are_told : (calls : List MachineCall) (hand : List Value) → AreSaving calls hand
      → AreAsTold saving_of functions calls
  are_told [] hand are = tt
  are_told (c ∷ outer) hand are =
      let i = are.0 in
      (i.code, i.found, is_told i.left i.code i.point i.kinds c hand i.on i.told)

  tick_saves : (calls : List MachineCall) → RestAtTick bodies h calls
      → AreSaving (begins_saving calls).calls (begins_saving calls).hand
  tick_saves [] rest = absurd rest
  tick_saves (c ∷ outer) rest = (begins c c.place None rest.0 (c.place + 1) rest.1 refl, rest.2)

pub saving_is_told : SavingIsTold
saving_is_told globals states functions ok modes h m rest n s e =
    are_told globals states functions ok modes h s.calls s.hand
    (steps_save globals states functions ok modes h n (begins_saving m.calls) s
    (tick_saves globals states functions ok modes h m.calls rest) e)
