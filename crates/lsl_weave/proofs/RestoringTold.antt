-- While a woven unit's machine restores, the operands have the kinds that its functions declare.
use Rattle.std.proofs.Common.{◌≡◌, ℕ, zero, suc, ◌+◌, List, [], ◌∷◌, ◌++◌, length, map, reverse, ◌⊎◌, inl, inr, ⊎_elim, Option, Some, None, Bool, true, false, option_map, refl, sym, ap, ◌∙◌, subst, arith, slice_get, length-append}
use Rattle.std.specs.Prelude.{option_and_then}
use Rattle.std.proofs.lemmas.List.{append_cancel_left}
use Rattle.std.proofs.lemmas.Option.{slice_get-map, none-some}
use Rattle.lsl_value.specs.declared.tagged.Kind.{Kind}
use Rattle.lsl_value.specs.declared.tagged.Value.{Value}
use Rattle.lsl_code.specs.declared.frames.Frame.{Frame}
use Rattle.lsl_code.specs.declared.functions.Point.{Point}
use Rattle.lsl_code.specs.declared.functions.StateCode.{StateCode}
use Rattle.lsl_code.specs.declared.instructions.Instr.{Instr}
use Rattle.lsl_code.specs.declared.instructions.Instr.TheVariants.{Jump, TestBack, Unpack, BackSlot, BackTop, Branch, Again, Awake}
use Rattle.lsl_code.specs.declared.woven_functions.WovenCode.{WovenCode}
use Rattle.lsl_code.specs.BackWays.{BackWay, backs_at, backs}
use Rattle.lsl_code.specs.Bodies.{Body, instruction_in}
use Rattle.lsl_code.specs.Fits.{all_places, has_kinds}
use Rattle.lsl_code.specs.Frames.{Points, points_of, IsAtPoint, FitFrames}
use Rattle.lsl_code.specs.Kinds.{kinds_of}
use Rattle.lsl_code.specs.Machine.{MachineCall}
use Rattle.lsl_code.specs.ModeStacks.{Stop, restores_on, back_stops, restoring_of, restoring_stops, are_there, tells_modes}
use Rattle.lsl_code.specs.Modes.{at_place, repeat}
use Rattle.lsl_code.specs.Restoring.{Restoring, restoring, awake_with, blank, BackAct, Moves, Reenters, Wakes, NoBack, takes, with_slot, where_slot, back_act, back_after, back_step, begins_restoring}
use Rattle.lsl_code.specs.Woven.{is_woven}
use Rattle.lsl_code.specs.WovenBodies.{woven_body}
use Rattle.lsl_code.proofs.Sames.{both_true, shape_is}
use Rattle.lsl_code.proofs.Told.{all_at}
use Rattle.lsl_weave.specs.ToldLaws.{AreAsTold, RestoringIsTold}
use Rattle.lsl_weave.proofs.BackKept.{OnBackWay, OnBack, BackGoesOn, back_begins}
use Rattle.lsl_weave.proofs.BackOn.{back_goes_on, back_not_over}
use Rattle.lsl_weave.proofs.Chains.{frame_body}
use Rattle.lsl_weave.proofs.Restored.{unpacked_end}
use Rattle.lsl_weave.proofs.SavingOn.{kept_ok}
use Rattle.lsl_weave.proofs.SavingTold.{there_at, code_of}

-- the outermost of the frames
outermost : (fr : Frame) (outer : List Frame) → (left : List Frame) × (last : Frame)
    × (fr ∷ outer ≡ left ++ last ∷ [])
outermost fr [] = ([], fr, refl)
outermost fr (next ∷ outer) =
    let r = outermost next outer in
    (fr ∷ r.0, r.1, ap (λ l. fr ∷ l) r.2)

not_one_more : (left : List Frame) (fr : Frame) → left ≡ left ++ fr ∷ [] → ⊥
not_one_more left fr e =
    let more = ap length e in
    absurd (omega (arith, more, length-append left (fr ∷ [])))

one_last : (left : List Frame) (a b : Frame) → left ++ a ∷ [] ≡ left ++ b ∷ [] → a ≡ b
one_last left a b e = let same = append_cancel_left left (a ∷ []) (b ∷ []) e in cc

-- the frames are at points, each at a call of the function of the frame before it
abbrev AreLeft : Points → Option ℕ → List Frame → Type 0
AreLeft points callee [] = Unit {0}
AreLeft points callee (fr ∷ outer) = IsAtPoint points callee fr × AreLeft points (Some fr.function) outer

-- the function that a frame outside of these calls
abbrev last_callee : Option ℕ → List Frame → Option ℕ
last_callee callee [] = callee
last_callee callee (fr ∷ outer) = last_callee (Some fr.function) outer

module _ (points : Points) where
  all_left : (h : ℕ) (callee : Option ℕ) (frames : List Frame) → FitFrames points h callee frames
      → AreLeft points callee frames
  all_left h callee [] fit = tt
  all_left h callee (fr ∷ outer) fit = (fit.0.0, all_left h (Some fr.function) outer fit.1)

  calls_handler : (h : ℕ) (callee : Option ℕ) (fr : Frame) (outer : List Frame)
      → FitFrames points h callee (fr ∷ outer) → last_callee (Some fr.function) outer ≡ Some h
  calls_handler h callee fr [] fit = ap Some fit.0.1
  calls_handler h callee fr (next ∷ outer) fit = calls_handler h (Some fr.function) next outer fit.1

  but_last : (callee : Option ℕ) (left : List Frame) (fr : Frame) → AreLeft points callee (left ++ fr ∷ [])
      → AreLeft points callee left × IsAtPoint points (last_callee callee left) fr
  but_last callee [] fr are = (tt, are.0)
  but_last callee (x ∷ left) fr are =
      let r = but_last (Some x.function) left fr are.1 in
      ((are.0, r.0), r.1)

calls_last : (callee : Option ℕ) (left : List Frame) (fr : Frame)
    → last_callee callee (left ++ fr ∷ []) ≡ Some fr.function
calls_last callee [] fr = refl
calls_last callee (x ∷ left) fr = calls_last (Some x.function) left fr

-- of a point, the stops from a place on, with a frame's kinds and with operands
abbrev Stops : Type 0
Stops = ℕ → ℕ → List Kind → List Kind → List Stop

-- the function declares the kinds at each stop from here on: of the current frame, or of the outermost that is left
abbrev IsTold : List (Option (List Kind)) → Stops → List Frame → MachineCall → ℕ → List Value → List Frame → Type 0
IsTold all go left c point hand sack =
    ((sack ≡ left) × (are_there all (go point c.place (kinds_of hand) (kinds_of c.operands)) ≡ true))
    ⊎ ((fr : Frame) × (sack ≡ left ++ fr ∷ [])
    × (are_there all (go fr.point c.place (kinds_of fr.slots) (kinds_of c.operands)) ≡ true))

abbrev ActIsTold : List (Option (List Kind)) → Stops → List Frame → BackAct → Type 0
ActIsTold all go left (Moves c point hand sack) = IsTold all go left c point hand sack
ActIsTold all go left (Reenters g c) = Unit {0}
ActIsTold all go left (Wakes c) = Unit {0}
ActIsTold all go left NoBack = Unit {0}

module _ (all : List (Option (List Kind))) (go : Stops) (code : List Instr)
    (way_on : Bool → ℕ → Option BackWay) (way : BackWay) (left : List Frame) (b : Option Body) where
  slot_told : (c : MachineCall) (point n : ℕ) (hand : List Value) (o : Option Value)
      → are_there all (restores_on (go point) point c.place (kinds_of hand) (kinds_of c.operands)
      (Some (BackSlot n))) ≡ true
      → ActIsTold all go left (takes hand (λ v rest. where_slot o (Moves (with_slot c n v) point rest left)))
  slot_told c point n [] o h = tt
  slot_told c point n (v ∷ rest) None h = tt
  slot_told c point n (v ∷ rest) (Some u) h = inl (refl, h)

  top_told : (c : MachineCall) (point : ℕ) (hand : List Value)
      → are_there all (restores_on (go point) point c.place (kinds_of hand) (kinds_of c.operands) (Some BackTop))
      ≡ true → ActIsTold all go left
      (takes hand (λ v rest. Moves (at_place c (c.place + 1) (v ∷ c.operands)) point rest left))
  top_told c point [] h = tt
  top_told c point (v ∷ rest) h = inl (refl, h)

  -- a frame is current
  opened_told : (c : MachineCall) (point : ℕ) (hand : List Value) (o : Option Instr)
      → backs_at code way_on true point c.place o ≡ Some way
      → are_there all (restores_on (go point) point c.place (kinds_of hand) (kinds_of c.operands) o) ≡ true
      → ActIsTold all go left (back_act b o c point hand left)
  opened_told c point hand (Some (TestBack t)) e h = inl (refl, h)
  opened_told c point hand (Some (Jump t)) e h = inl (refl, h)
  opened_told c point hand (Some Branch) e h = inl (refl, h)
  opened_told c point hand (Some (BackSlot n)) e h = slot_told c point n hand (slice_get c.slots n) h
  opened_told c point hand (Some BackTop) e h = top_told c point hand h
  opened_told c point hand (Some (Again g)) e h = tt
  opened_told c point hand (Some Awake) e h = tt
  opened_told c point hand _ e h = absurd (none-some way e)

  -- the frame is not yet taken
  closed_told : (c : MachineCall) (point : ℕ) (hand : List Value) (fr : Frame) (o : Option Instr)
      → backs_at code way_on false fr.point c.place o ≡ Some way
      → are_there all (restores_on (go fr.point) fr.point c.place (kinds_of fr.slots) (kinds_of c.operands) o)
      ≡ true → ActIsTold all go left (back_act b o c point hand (left ++ fr ∷ []))
  closed_told c point hand fr (Some (TestBack t)) e h = inr (fr, refl, h)
  closed_told c point hand fr (Some (Jump t)) e h = inr (fr, refl, h)
  closed_told c point hand fr (Some Unpack) e h =
      subst (ActIsTold all go left)
      (sym (unpacked_end left fr
      (λ rest last. Moves (at_place c (c.place + 1) c.operands) last.point last.slots rest)))
      (inl (refl, h))
  closed_told c point hand fr _ e h = absurd (none-some way e)

module _ (globals : List Value) (states : List StateCode) (functions : List WovenCode)
    (ok : is_woven globals states (map woven_body functions) ≡ true)
    (modes : all_places tells_modes 0 functions ≡ true) where
  abbrev bodies : List Body
  bodies = map woven_body functions

  all_told : (f : ℕ) (code : WovenCode) → slice_get functions f ≡ Some code
      → are_there (restoring_of code) (restoring_stops code.points code.code) ≡ true
  all_told f code e = (both_true _ _ (all_at tells_modes functions f code modes e)).1

  -- the call is on its way, and stops where its function declares; the frames that are left are those of the calls that
  -- it waits for
  record IsRestoring (c : MachineCall) (point : ℕ) (hand : List Value) (sack : List Frame) : Type 0 where
    code : WovenCode
    found : slice_get functions c.function ≡ Some code
    left : List Frame
    are_left : AreLeft (points_of bodies) None left
    steps : ℕ
    on : OnBack (woven_body code) steps left (last_callee None left) c point hand sack
    told : IsTold (restoring_of code) (back_stops code.code steps) left c point hand sack

  abbrev AreRestoring : Bool → List MachineCall → ℕ → List Value → List Frame → Type 0
  AreRestoring true calls point hand sack = Unit {0}
  AreRestoring false [] point hand sack = Unit {0}
  AreRestoring false (c ∷ outer) point hand sack = IsRestoring c point hand sack

  abbrev Restores : Restoring → Type 0
  Restores s = AreRestoring s.awake s.calls s.point s.hand s.sack

  -- the way of the outermost frame begins at its function's start
  begins_last : (code : WovenCode) (point : ℕ) (hand : List Value) (left : List Frame) (fr : Frame)
      → slice_get functions fr.function ≡ Some code → AreLeft (points_of bodies) None (left ++ fr ∷ [])
      → IsRestoring (blank fr.function (woven_body code)) point hand (left ++ fr ∷ [])
  begins_last code point hand left fr found are =
      let r = but_last (points_of bodies) None left fr are in
      let fit = r.1 in
      let b = frame_body bodies (last_callee None left) fr fit in
      let at = slice_get-map woven_body functions fr.function ∙ ap (option_map woven_body) found in
      let same : b.0 ≡ woven_body code = one_body (slice_get bodies fr.function) b.0 (woven_body code) b.1 at in
      let mapped = subst (λ (w : Body). slice_get w.points fr.point ≡ Some fit.0) same b.2 in
      let z : 0 + fr.point ≡ fr.point = omega arith in
      let stops = there_at (restoring_of code)
      (λ (p : ℕ). λ (x : Point). back_stops code.code (length code.code) p 0 x.kinds []) 0 code.points fr.point fit.0
      (all_told fr.function code found) mapped in
      let here = subst (λ n. are_there (restoring_of code)
      (back_stops code.code (length code.code) n 0 fit.0.kinds []) ≡ true) z stops in
      let kinds = subst (λ l. are_there (restoring_of code)
      (back_stops code.code (length code.code) fr.point 0 l []) ≡ true) (sym fit.3) here in
      record {
        code = code;
        found = found;
        left = left;
        are_left = r.0;
        steps = length code.code;
        on =
            back_begins (woven_body code) fr.function left (last_callee None left) fr fit.0 point hand
            (kept_ok globals states bodies ok fr.function (woven_body code) at) mapped fit.3 fit.2;
        told = inr (fr, refl, kinds);
      }
    where
      one_body : (o : Option Body) (a b : Body) → o ≡ Some a → o ≡ Some b → a ≡ b
      one_body o a b p q = cc

  begins : (k : ℕ) (body : Body) (point : ℕ) (hand : List Value) (frames : List Frame)
      → slice_get bodies k ≡ Some body → AreLeft (points_of bodies) None frames → last_callee None frames ≡ Some k
      → IsRestoring (blank k body) point hand frames
  begins k body point hand [] found are calls = absurd cc
  begins k body point hand (fr ∷ outer) found are calls =
      let o = outermost fr outer in
      let code = code_of functions k body found in
      let last : o.1.function ≡ k =
      number_of (sym (calls_last None o.0 o.1) ∙ sym (ap (last_callee None) o.2) ∙ calls) in
      let begun = begins_last code.0 point hand o.0 o.1 (ap (slice_get functions) last ∙ code.1)
      (subst (AreLeft (points_of bodies) None) o.2 are) in
      let of_frames = subst (IsRestoring (blank o.1.function (woven_body code.0)) point hand) (sym o.2) begun in
      let of_function = subst (λ n. IsRestoring (blank n (woven_body code.0)) point hand (fr ∷ outer)) last
      of_frames in
      subst (λ b. IsRestoring (blank k b) point hand (fr ∷ outer)) code.2 of_function
    where
      number_of : {m n : ℕ} → Some m ≡ Some n → m ≡ n
      number_of e = cc

  module _ (c : MachineCall) (point : ℕ) (hand : List Value) (sack : List Frame) (outer : List MachineCall)
      (code : WovenCode) (found : slice_get functions c.function ≡ Some code) (left : List Frame)
      (are_left : AreLeft (points_of bodies) None left) (n : ℕ)
      (on : OnBack (woven_body code) (suc n) left (last_callee None left) c point hand sack)
      (told : IsTold (restoring_of code) (back_stops code.code (suc n)) left c point hand sack) where
    abbrev act : BackAct
    act = back_act (Some (woven_body code)) (slice_get code.code c.place) c point hand sack

    behind : (p : ℕ) (values : List Value)
        → are_there (restoring_of code) (back_stops code.code (suc n) p c.place (kinds_of values)
        (kinds_of c.operands)) ≡ true
        → are_there (restoring_of code) (restores_on (back_stops code.code n p) p c.place (kinds_of values)
        (kinds_of c.operands) (slice_get code.code c.place)) ≡ true
    behind p values h = (both_true (has_kinds (slice_get (restoring_of code) c.place) (kinds_of c.operands)) _ h).1

    abbrev IsToldBehind : List Frame → Type 0
    IsToldBehind frames = ActIsTold (restoring_of code) (back_stops code.code n) left
        (back_act (Some (woven_body code)) (slice_get code.code c.place) c point hand frames)

    opened_behind : (pt : Point) → sack ≡ left
        → OnBackWay (woven_body code) (suc n) true point pt (last_callee None left) c hand
        → IsTold (restoring_of code) (back_stops code.code (suc n)) left c point hand sack → IsToldBehind sack
    opened_behind pt e st (inl t) =
        subst IsToldBehind (sym e)
        (opened_told (restoring_of code) (back_stops code.code n) code.code (backs code.code n point) st.way left
        (Some (woven_body code)) c point hand (slice_get code.code c.place) st.is_way (behind point hand t.1))
    opened_behind pt e st (inr t) = absurd (not_one_more left t.0 (sym e ∙ t.1))

    closed_behind : (fr : Frame) (pt : Point) → sack ≡ left ++ fr ∷ []
        → OnBackWay (woven_body code) (suc n) false fr.point pt (last_callee None left) c fr.slots
        → IsTold (restoring_of code) (back_stops code.code (suc n)) left c point hand sack → IsToldBehind sack
    closed_behind fr pt e st (inl t) = absurd (not_one_more left fr (sym t.0 ∙ e))
    closed_behind fr pt e st (inr t) =
        let same = one_last left t.0 fr (sym t.1 ∙ e) in
        let told = subst (λ (f : Frame). are_there (restoring_of code)
        (back_stops code.code (suc n) f.point c.place (kinds_of f.slots) (kinds_of c.operands)) ≡ true) same t.2 in
        subst IsToldBehind (sym e)
        (closed_told (restoring_of code) (back_stops code.code n) code.code (backs code.code n fr.point) st.way left
        (Some (woven_body code)) c point hand fr (slice_get code.code c.place) st.is_way
        (behind fr.point fr.slots told))

    told_behind : IsToldBehind sack
    told_behind =
        ⊎_elim (λ o. opened_behind o.0 o.1 o.2 told) (λ o. closed_behind o.0 o.1 o.2 o.3 told) on

    after_act : (a : BackAct)
        → BackGoesOn bodies (woven_body code) n left (last_callee None left) c.function hand sack a
        → ActIsTold (restoring_of code) (back_stops code.code n) left a
        → (s : Restoring) → back_after bodies a outer point hand sack ≡ Some s → Restores s
    after_act (Moves d point' hand' sack') g t s e =
        let same : restoring (d ∷ outer) point' hand' sack' ≡ s = cc in
        let next : IsRestoring d point' hand' sack' =
        record {
          code = code;
          found = ap (slice_get functions) g.0 ∙ found;
          left = left;
          are_left = are_left;
          steps = n;
          on = g.1;
          told = t;
        } in
        subst Restores same next
    after_act (Reenters k d) g t s e = by_callee (slice_get bodies k) refl e
      where
        by_callee : (o : Option Body) → slice_get bodies k ≡ o
            → option_map (λ callee. restoring (blank k callee ∷ d ∷ outer) point hand sack) o ≡ Some s
            → Restores s
        by_callee None is e = absurd cc
        by_callee (Some body) is e =
            let same : restoring (blank k body ∷ d ∷ outer) point hand sack ≡ s = cc in
            subst Restores same (subst (IsRestoring (blank k body) point hand) (sym g.2)
            (begins k body point hand left is are_left g.3))
    after_act (Wakes d) g t s e =
        let same : awake_with (d ∷ outer) point hand sack ≡ s = cc in
        subst Restores same tt
    after_act NoBack g t s e = absurd g

    step_restores : (s : Restoring) → back_step bodies (restoring (c ∷ outer) point hand sack) ≡ Some s
        → Restores s
    step_restores s e =
        let at = slice_get-map woven_body functions c.function ∙ ap (option_map woven_body) found in
        let step = ap (λ o. back_after bodies (back_act o (instruction_in o c.place) c point hand sack) outer
        point hand sack) (sym at) ∙ e in
        after_act act
        (back_goes_on bodies (woven_body code) n left (last_callee None left) c point hand sack at on) told_behind
        s step

  -- each step continues this way
  by_length : (c : MachineCall) (point : ℕ) (hand : List Value) (sack : List Frame) (outer : List MachineCall)
      (code : WovenCode) → slice_get functions c.function ≡ Some code → (left : List Frame)
      → AreLeft (points_of bodies) None left → (steps : ℕ)
      → OnBack (woven_body code) steps left (last_callee None left) c point hand sack
      → IsTold (restoring_of code) (back_stops code.code steps) left c point hand sack
      → (s : Restoring) → back_step bodies (restoring (c ∷ outer) point hand sack) ≡ Some s → Restores s
  by_length c point hand sack outer code found left are zero on told s e =
      absurd (back_not_over (woven_body code) left (last_callee None left) c point hand sack on)
  by_length c point hand sack outer code found left are (suc n) on told s e =
      step_restores c point hand sack outer code found left are n on told s e

  step_kept : (s t : Restoring) → Restores s → back_step bodies s ≡ Some t → Restores t
  step_kept s t are e = by_parts s.awake s.calls s.point s.hand s.sack are e
    where
      by_parts : (awake : Bool) (calls : List MachineCall) (point : ℕ) (hand : List Value) (sack : List Frame)
          → AreRestoring awake calls point hand sack
          → back_step bodies
          (record { calls = calls; point = point; hand = hand; sack = sack; awake = awake }) ≡ Some t → Restores t
      by_parts true calls point hand sack are e = absurd cc
      by_parts false [] point hand sack are e = absurd cc
      by_parts false (c ∷ outer) point hand sack i e =
          by_length c point hand sack outer i.code i.found i.left i.are_left i.steps i.on i.told t e

  steps_kept : (n : ℕ) (s t : Restoring) → Restores s → repeat (back_step bodies) n s ≡ Some t → Restores t
  steps_kept zero s t are e = let same : s ≡ t = cc in subst Restores same are
  steps_kept (suc n) s t are e =
      by_step (back_step bodies s) refl (λ x more ran. steps_kept n x t more ran) e
    where
      by_step : (o : Option Restoring) → back_step bodies s ≡ o
          → ((x : Restoring) → Restores x → repeat (back_step bodies) n x ≡ Some t → Restores t)
          → option_and_then (repeat (back_step bodies) n) o ≡ Some t → Restores t
      by_step None is go e = absurd (none-some t e)
      by_step (Some x) is go e = go x (step_kept s x are is) e

  first_told : (code : WovenCode) (left : List Frame) (c : MachineCall) (point : ℕ) (hand : List Value)
      (sack : List Frame) (n : ℕ) → IsTold (restoring_of code) (back_stops code.code (suc n)) left c point hand sack
      → has_kinds (slice_get (restoring_of code) c.place) (kinds_of c.operands) ≡ true
  first_told code left c point hand sack n (inl t) =
      (both_true (has_kinds (slice_get (restoring_of code) c.place) (kinds_of c.operands)) _ t.1).0
  first_told code left c point hand sack n (inr t) =
      (both_true (has_kinds (slice_get (restoring_of code) c.place) (kinds_of c.operands)) _ t.2).0

  -- the kinds are those that are declared
  is_told : (code : WovenCode) (left : List Frame) (c : MachineCall) (point : ℕ) (hand : List Value)
      (sack : List Frame) (steps : ℕ)
      → OnBack (woven_body code) steps left (last_callee None left) c point hand sack
      → IsTold (restoring_of code) (back_stops code.code steps) left c point hand sack
      → slice_get (restoring_of code) c.place ≡ Some (Some (reverse (kinds_of c.operands)))
  is_told code left c point hand sack zero on told =
      absurd (back_not_over (woven_body code) left (last_callee None left) c point hand sack on)
  is_told code left c point hand sack (suc n) on told =
      shape_is (slice_get (restoring_of code) c.place) (kinds_of c.operands)
      (first_told code left c point hand sack n told)

  are_told : (awake : Bool) (calls : List MachineCall) (point : ℕ) (hand : List Value) (sack : List Frame)
      → AreRestoring awake calls point hand sack → awake ≡ false → AreAsTold restoring_of functions calls
  are_told true calls point hand sack are e = absurd cc
  are_told false [] point hand sack are e = tt
  are_told false (c ∷ outer) point hand sack i e =
      (i.code, i.found, is_told i.code i.left c point hand sack i.steps i.on i.told)

pub restoring_is_told : RestoringIsTold
restoring_is_told globals states functions ok modes h [] fit body found n s e asleep = absurd fit
restoring_is_told globals states functions ok modes h (fr ∷ outer) fit body found n s e asleep =
    let bodies = map woven_body functions in
    let are = all_left (points_of bodies) h None (fr ∷ outer) fit in
    let calls = calls_handler (points_of bodies) h None fr outer fit in
    are_told globals states functions ok modes s.awake s.calls s.point s.hand s.sack
    (steps_kept globals states functions ok modes n (begins_restoring h body (fr ∷ outer)) s
    (begins globals states functions ok modes h body 0 [] (fr ∷ outer) found are calls) e) asleep
