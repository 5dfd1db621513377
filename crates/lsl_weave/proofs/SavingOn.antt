-- Saving stays on its way.
use Rattle.std.proofs.Common.{◌≡◌, ℕ, suc, ◌+◌, List, [], ◌∷◌, length, Option, Some, None, Bool, true, false, cond, refl, sym, ap, ◌∙◌, subst, nat_lt}
use Rattle.std.specs.Prelude.{slice_get, option_map}
use Rattle.std.proofs.lemmas.Option.{slice_get-map, none-some}
use Rattle.lsl_value.specs.Values.{kind_of}
use Rattle.lsl_value.specs.declared.tagged.Kind.{Kind}
use Rattle.lsl_value.specs.declared.tagged.Value.{Value}
use Rattle.lsl_code.specs.declared.functions.Point.{Point}
use Rattle.lsl_code.specs.declared.functions.StateCode.{StateCode}
use Rattle.lsl_code.specs.declared.instructions.Instr.{Instr}
use Rattle.lsl_code.specs.declared.instructions.Instr.TheVariants.{Jump, TestSave, KeepSlot, KeepTop, Seal}
use Rattle.lsl_code.specs.Bodies.{Body}
use Rattle.lsl_code.specs.Kinds.{kinds_of, names_in}
use Rattle.lsl_code.specs.Machine.{MachineCall}
use Rattle.lsl_code.specs.Modes.{at_place}
use Rattle.lsl_code.specs.Saving.{SaveAct, Keeps, Seals, NoSave, keeps_slot, keeps_top, frame_of, save_act}
use Rattle.lsl_code.specs.Standing.{point_instr}
use Rattle.lsl_code.proofs.Sames.{both_true, eq_is, sames_are}
use Rattle.lsl_code.proofs.Told.{all_at}
use Rattle.lsl_code.specs.SaveWays.{Keep, OfSlot, OfTop, SaveWay, keeping, onward, keeps_at, keeps, with_one, kept, are_kinds, waiting_kinds, is_save_way, saves_point, saves_at}
use Rattle.lsl_code.specs.Woven.{is_kept, is_woven_function, is_woven}
use Rattle.lsl_weave.specs.WovenCalls.{IsAt}

-- at most n instructions are left to the end of the frame of a point with these kinds
pub record OnSaveWay (w : Body) (p : ℕ) (kinds : List Kind) (n : ℕ) (c : MachineCall)
    (hand : List Value) : Type 0 where
  pub way : SaveWay
  pub is_way : keeps w.code n c.place ≡ Some way
  pub point_is : way.point ≡ p
  pub slots : kinds_of c.slots ≡ w.slots
  pub kinds_are : kept w.slots way.order (kinds_of c.operands) (kinds_of hand) ≡ Some kinds

-- the act continues along the way, or closes the frame at its end
abbrev pub SaveGoesOn : Body → ℕ → List Kind → ℕ → ℕ → SaveAct → Type 0
SaveGoesOn w p kinds n f (Keeps c hand) = (c.function ≡ f) × OnSaveWay w p kinds n c hand
SaveGoesOn w p kinds n f (Seals frame) = (frame.function ≡ f) × (frame.point ≡ p)
    × (kinds_of frame.slots ≡ kinds)
SaveGoesOn w p kinds n f NoSave = ⊥

-- the function's part of the unit's test
module _ (globals : List Value) (states : List StateCode) (bodies : List Body)
    (ok : is_woven globals states bodies ≡ true) where
  pub function_ok : (f : ℕ) (w : Body) → slice_get bodies f ≡ Some w
      → is_woven_function (names_in globals states bodies) f w ≡ true
  function_ok f w found = all_at (is_woven_function (names_in globals states bodies)) bodies f w
      (both_true _ _ ok).0 found

  pub kept_ok : (f : ℕ) (w : Body) → slice_get bodies f ≡ Some w → is_kept w ≡ true
  kept_ok f w found = (both_true _ _ (function_ok f w found)).1

-- each function's code keeps and restores its calls
abbrev pub AreKept : List Body → Type 0
AreKept bodies = (f : ℕ) (w : Body) → slice_get bodies f ≡ Some w → is_kept w ≡ true

save_part : (w : Body) (k p : ℕ) (callee : Option ℕ) → saves_at w k (point_instr callee p) ≡ true
    → saves_point w k p (slice_get w.points p) ≡ true
save_part w k p None h = h
save_part w k p (Some g) h = h

-- a way that passed the test
pub record SaveWayOf (w : Body) (k p : ℕ) (point : Point) : Type 0 where
  pub way : SaveWay
  pub is_way : keeps w.code (length w.code) (k + 1) ≡ Some way
  pub point_is : way.point ≡ p
  pub kinds_are : kept w.slots way.order (waiting_kinds w.slots point) [] ≡ Some point.kinds

kinds_told : (o : Option (List Kind)) (ks : List Kind) → are_kinds o ks ≡ true → o ≡ Some ks
kinds_told None ks e = absurd cc
kinds_told (Some js) ks e = ap Some (sames_are js ks e)

way_of : (w : Body) (k p : ℕ) (point : Point) (o : Option SaveWay) → keeps w.code (length w.code) (k + 1) ≡ o
    → is_save_way w.slots p point o ≡ true → SaveWayOf w k p point
way_of w k p point None e h = absurd cc
way_of w k p point (Some way) e h =
    let a = both_true _ _ h in
    let b = both_true _ _ a.0 in
    record {
      way = way;
      is_way = e;
      point_is = eq_is way.point p b.0;
      kinds_are =
          kinds_told _ point.kinds a.1;
    }

pub save_way : (w : Body) (k p : ℕ) (callee : Option ℕ) (point : Point) → is_kept w ≡ true
    → slice_get w.code k ≡ Some (point_instr callee p) → slice_get w.points p ≡ Some point
    → SaveWayOf w k p point
save_way w k p callee point ok here mapped =
    let at_k = save_part w k p callee (all_at (saves_at w) w.code k (point_instr callee p)
    (both_true _ _ ok).0 here) in
    let at_point = subst (λ o. saves_point w k p o ≡ true) mapped at_k in
    way_of w k p point (keeps w.code (length w.code) (k + 1)) refl (both_true _ _ at_point).1

-- the way begins after the point
pub save_begins : (bodies : List Body) (c : MachineCall) (k : ℕ) (callee : Option ℕ) (p : ℕ)
    (fit : IsAt bodies c k callee p) (x : ℕ) → x ≡ k + 1 → is_kept fit.body ≡ true
    → OnSaveWay fit.body p fit.point.kinds (length fit.body.code) (at_place c x c.operands) []
save_begins bodies c k callee p fit x e ok =
    let w = fit.body in
    let s = save_way w k p callee fit.point ok fit.here fit.mapped in
    record {
      way = s.way;
      is_way = ap (keeps w.code (length w.code)) e ∙ s.is_way;
      point_is = s.point_is;
      slots = fit.slots;
      kinds_are = ap (λ l. kept w.slots s.way.order l []) fit.operands ∙ s.kinds_are;
    }

-- the way after a keep
way_behind : (k : Keep) (o : Option SaveWay) (way : SaveWay) → option_map (keeping k) o ≡ Some way
    → (rest : SaveWay) × (o ≡ Some rest) × (way.order ≡ k ∷ rest.order) × (way.point ≡ rest.point)
way_behind k None way e = absurd cc
way_behind k (Some rest) way e =
    let is : keeping k rest ≡ way = cc in
    (rest, refl, ap (λ w. w.order) (sym is), ap (λ w. w.point) (sym is))

-- after a jump forward the way is what it is from there
pub onward_is : {A : Type 0} (place to : ℕ) (way : Option A) (a : A) → onward place to way ≡ Some a
    → way ≡ Some a
onward_is place to way a e = by_test (nat_lt place to) e
  where
    by_test : (b : Bool) → cond b way None ≡ Some a → way ≡ Some a
    by_test true e = e
    by_test false e = absurd cc

module _ (w : Body) (p : ℕ) (kinds : List Kind) (n : ℕ) where
  goes_to : (c : MachineCall) (hand : List Value) (t : ℕ) (st : OnSaveWay w p kinds (suc n) c hand)
      → keeps w.code n t ≡ Some st.way → OnSaveWay w p kinds n (at_place c t c.operands) hand
  goes_to c hand t st e =
      record { way = st.way; is_way = e; point_is = st.point_is; slots = st.slots; kinds_are = st.kinds_are }

  slot_kept : (c : MachineCall) (hand : List Value) (i : ℕ) (st : OnSaveWay w p kinds (suc n) c hand)
      → option_map (keeping (OfSlot i)) (keeps w.code n (c.place + 1)) ≡ Some st.way → (o : Option Value)
      → slice_get c.slots i ≡ o → SaveGoesOn w p kinds n c.function
      (keeps_slot o (λ v. Keeps (at_place c (c.place + 1) c.operands) (v ∷ hand)))
  slot_kept c hand i st e o is =
      let b = way_behind (OfSlot i) (keeps w.code n (c.place + 1)) st.way e in
      let slot : slice_get w.slots i ≡ option_map kind_of o =
      ap (λ l. slice_get l i) (sym st.slots) ∙ slice_get-map kind_of c.slots i
      ∙ ap (option_map kind_of) is in
      let kept' = ap (λ r. kept w.slots r (kinds_of c.operands) (kinds_of hand)) (sym b.2) ∙ st.kinds_are in
      let kept'' = ap (λ q. with_one q (λ v.
      kept w.slots b.0.order (kinds_of c.operands) (v ∷ kinds_of hand)))
      (sym slot) ∙ kept' in
      cases o b kept''
    where
      cases : (o : Option Value) (b : (rest : SaveWay) × (keeps w.code n (c.place + 1) ≡ Some rest)
          × (st.way.order ≡ OfSlot i ∷ rest.order) × (st.way.point ≡ rest.point))
          → with_one (option_map kind_of o)
          (λ v. kept w.slots b.0.order (kinds_of c.operands) (v ∷ kinds_of hand)) ≡ Some kinds
          → SaveGoesOn w p kinds n c.function
          (keeps_slot o (λ v. Keeps (at_place c (c.place + 1) c.operands) (v ∷ hand)))
      cases None b e = absurd (none-some kinds e)
      cases (Some v) b e = (
        refl,
        record {
          way = b.0;
          is_way = b.1;
          point_is = sym b.3 ∙ st.point_is;
          slots =
              st.slots;
          kinds_are = e;
        },
      )

  top_kept : (c : MachineCall) (hand : List Value) (st : OnSaveWay w p kinds (suc n) c hand)
      → option_map (keeping OfTop) (keeps w.code n (c.place + 1)) ≡ Some st.way → (ops : List Value)
      → c.operands ≡ ops → SaveGoesOn w p kinds n c.function
      (keeps_top ops (λ v vs. Keeps (at_place c (c.place + 1) vs) (v ∷ hand)))
  top_kept c hand st e ops is =
      let b = way_behind OfTop (keeps w.code n (c.place + 1)) st.way e in
      let kept' = ap (λ r. kept w.slots r (kinds_of c.operands) (kinds_of hand)) (sym b.2) ∙ st.kinds_are in
      let kept'' = ap (λ l. kept w.slots (OfTop ∷ b.0.order) (kinds_of l) (kinds_of hand)) (sym is) ∙ kept' in
      cases ops b kept''
    where
      cases : (ops : List Value) (b : (rest : SaveWay) × (keeps w.code n (c.place + 1) ≡ Some rest)
          × (st.way.order ≡ OfTop ∷ rest.order) × (st.way.point ≡ rest.point))
          → kept w.slots (OfTop ∷ b.0.order) (kinds_of ops) (kinds_of hand) ≡ Some kinds
          → SaveGoesOn w p kinds n c.function
          (keeps_top ops (λ v vs. Keeps (at_place c (c.place + 1) vs) (v ∷ hand)))
      cases [] b e = absurd (none-some kinds e)
      cases (v ∷ vs) b e = (
        refl,
        record {
          way = b.0;
          is_way = b.1;
          point_is = sym b.3 ∙ st.point_is;
          slots =
              st.slots;
          kinds_are = e;
        },
      )

  -- all is kept where the frame is closed
  seals : (c : MachineCall) (hand : List Value) (q : ℕ) (st : OnSaveWay w p kinds (suc n) c hand)
      → Some (record { order = []; point = q }) ≡ Some st.way
      → SaveGoesOn w p kinds n c.function (Seals (frame_of c.function q hand))
  seals c hand q st e =
      let is : record { order = []; point = q } ≡ st.way = cc in
      let kept' = ap (λ r. kept w.slots r.order (kinds_of c.operands) (kinds_of hand)) is ∙ st.kinds_are in
      (refl, ap (λ r. r.point) is ∙ st.point_is, all_kept (kinds_of c.operands) kept')
    where
      all_kept : (ops : List Kind) → kept w.slots [] ops (kinds_of hand) ≡ Some kinds → kinds_of hand ≡ kinds
      all_kept [] e = cc
      all_kept (o ∷ ops) e = absurd cc

  on_instr : (c : MachineCall) (hand : List Value) (st : OnSaveWay w p kinds (suc n) c hand)
      (o : Option Instr)
      → keeps_at (keeps w.code n) c.place o ≡ Some st.way
      → SaveGoesOn w p kinds n c.function (save_act o c hand)
  on_instr c hand st (Some (TestSave t)) e = (refl, goes_to c hand t st (onward_is c.place t _ _ e))
  on_instr c hand st (Some (Jump t)) e = (refl, goes_to c hand t st (onward_is c.place t _ _ e))
  on_instr c hand st (Some (KeepSlot i)) e = slot_kept c hand i st e (slice_get c.slots i) refl
  on_instr c hand st (Some KeepTop) e = top_kept c hand st e c.operands refl
  on_instr c hand st (Some (Seal q)) e = seals c hand q st e
  on_instr c hand st _ e = absurd (none-some st.way e)

  -- each instruction of the way is there, and continues along it
  pub save_goes_on : (c : MachineCall) (hand : List Value) → OnSaveWay w p kinds (suc n) c hand
      → SaveGoesOn w p kinds n c.function (save_act (slice_get w.code c.place) c hand)
  save_goes_on c hand st = on_instr c hand st (slice_get w.code c.place) st.is_way

-- without an instruction there is no way
pub save_not_over : (w : Body) (p : ℕ) (kinds : List Kind) (c : MachineCall) (hand : List Value)
    → OnSaveWay w p kinds 0 c hand → ⊥
save_not_over w p kinds c hand st = none-some st.way st.is_way
