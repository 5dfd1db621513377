-- A call stays on the way of its function's code to a frame.
use Rattle.std.proofs.Common.{◌≡◌, ◌≢◌, ◌∙◌, refl, sym, ap, subst, arith, ℕ, zero, suc, ◌+◌, ◌<◌, ◌≤◌, true, List, [], ◌∷◌, ◌++◌, length, Option, Some, None, slice_set}
use Rattle.std.specs.Prelude.{slice_get, option_map}
use Rattle.std.proofs.lemmas.Option.{none-some}
use Rattle.lsl_value.specs.declared.tagged.Kind.{Kind}
use Rattle.lsl_value.specs.declared.tagged.Value.{Value}
use Rattle.lsl_running.specs.Charging.{charges_of}
use Rattle.lsl_running.specs.Values.{absent}
use Rattle.lsl_code.specs.declared.frames.Frame.{Frame}
use Rattle.lsl_code.specs.declared.functions.Point.{Point}
use Rattle.lsl_code.specs.declared.instructions.Instr.{Instr}
use Rattle.lsl_code.specs.declared.instructions.Instr.TheVariants.{Jump, TestSave, KeepSlot, KeepTop, Seal}
use Rattle.lsl_code.specs.Bodies.{Body, instruction_in}
use Rattle.lsl_code.specs.Kinds.{kinds_of}
use Rattle.lsl_code.specs.Machine.{MachineCall, call_at}
use Rattle.lsl_code.specs.Modes.{repeat, at_place}
use Rattle.lsl_code.specs.Saving.{Keeps, saving, keeps_slot, keeps_top, frame_of, save_act, save_after, save_step}
use Rattle.lsl_code.specs.Standing.{point_instr}
use Rattle.lsl_code.proofs.Repeating.{then_one}
use Rattle.lsl_code.proofs.Sames.{both_true, eq_is}
use Rattle.lsl_code.proofs.Told.{all_at}
use Rattle.lsl_code.specs.SaveWays.{Keep, OfSlot, OfTop, SaveWay, keeping, keeps_at, keeps, kept, keep_count, is_kept_once, is_save_way, saves_point, saves_at}
use Rattle.lsl_code.specs.Woven.{is_kept}
use Rattle.lsl_weave.specs.WovenCalls.{IsAt}
use Rattle.lsl_weave.proofs.SavingOn.{OnSaveWay, SaveGoesOn, onward_is, save_begins, save_goes_on, save_not_over}
use Rattle.lsl_machine.specs.declared.saving.Saver.{Saver}
use Rattle.lsl_machine.specs.CallsSaved.{HasCall, IsSaveAct, CanKeep, DidKeep, IsFrameOf}
use Rattle.lsl_machine.proofs.Carried.{AtMostOnce, keeps_of, none_left, fewer}
use Rattle.lsl_machine.proofs.Counted.{one_more, due, counted_here, counted_there, due_more, due_none, due_all}

abbrev pub with_slots : MachineCall → List Value → MachineCall
with_slots c slots = call_at c.function c.place slots c.operands

-- the call that began so is on its way, with at most n instructions left; these are left of its slots
pub record IsSealing (bodies : List Body) (w : Body) (start : MachineCall) (low : List Value) (n : ℕ)
    (s : Saver) : Type 0 where
  pub c : MachineCall
  pub slots : List Value
  pub hand : List Value
  pub point : ℕ
  pub kinds : List Kind
  pub lies : HasCall s low (with_slots c slots) hand
  pub same : c.function ≡ start.function
  pub on : OnSaveWay w point kinds n c hand
  pub holds : (k : ℕ) (v : Value) → slice_get c.slots k ≡ Some v → 1 ≤ keep_count k on.way.order
      → slice_get slots k ≡ Some v
  pub once : AtMostOnce (keeps_of on.way.order) (length c.slots)
  pub charge : charges_of hand + charges_of c.operands + due (keeps_of on.way.order) 0 c.slots
      ≡ charges_of start.slots + charges_of start.operands
  pub steps : ℕ
  pub ran : (outer : List MachineCall) (sack : List Frame)
      → repeat (save_step bodies) steps (saving (start ∷ outer) [] sack)
      ≡ Some (saving (c ∷ outer) hand sack)

slot_within : (vs : List Value) (n : ℕ) (v : Value) → slice_get vs n ≡ Some v → n < length vs
slot_within [] n v e = absurd cc
slot_within (x ∷ vs) zero v e = omega arith
slot_within (x ∷ vs) (suc n) v e = let q = slot_within vs n v e in omega arith

has_slot : {A : Type 0} (vs : List A) (k : ℕ) → k < length vs → (v : A) × (slice_get vs k ≡ Some v)
has_slot [] k lt = absurd (omega arith)
has_slot (x ∷ vs) zero lt = (x, refl)
has_slot (x ∷ vs) (suc k) lt = has_slot vs k (omega arith)

get_other : (vs : List Value) (m k : ℕ) (v : Value) → k ≢ m → slice_get (slice_set vs m v) k ≡ slice_get vs k
get_other [] m k v ne = refl
get_other (x ∷ vs) zero zero v ne = absurd (ne refl)
get_other (x ∷ vs) zero (suc k) v ne = refl
get_other (x ∷ vs) (suc m) zero v ne = refl
get_other (x ∷ vs) (suc m) (suc k) v ne = get_other vs m k v (λ e. ne (ap suc e))

save_part : (w : Body) (k p : ℕ) (callee : Option ℕ) → saves_at w k (point_instr callee p) ≡ true
    → saves_point w k p (slice_get w.points p) ≡ true
save_part w k p None h = h
save_part w k p (Some g) h = h

-- each slot is kept once on a function's way
once_told : (w : Body) (k p : ℕ) (callee : Option ℕ) (point : Point) (way : SaveWay) → is_kept w ≡ true
    → slice_get w.code k ≡ Some (point_instr callee p) → slice_get w.points p ≡ Some point
    → keeps w.code (length w.code) (k + 1) ≡ Some way → (i : ℕ) → i < length w.slots
    → keep_count i way.order ≡ 1
once_told w k p callee point way ok here mapped is i lt =
    let at_k = save_part w k p callee (all_at (saves_at w) w.code k (point_instr callee p)
    (both_true _ _ ok).0 here) in
    let at_point = subst (λ o. saves_point w k p o ≡ true) mapped at_k in
    let on_way = subst (λ o. is_save_way w.slots p point o ≡ true) is (both_true _ _ at_point).1 in
    let each = (both_true _ _ (both_true _ _ on_way).0).1 in
    let slot = has_slot w.slots i lt in
    eq_is _ 1 (all_at (is_kept_once way.order) w.slots i slot.0 each slot.1)

slot_count : (c : MachineCall) (w : Body) → kinds_of c.slots ≡ w.slots → length c.slots ≡ length w.slots
slot_count c w e = sym (length_kinds c.slots) ∙ ap length e
  where
    length_kinds : (vs : List Value) → length (kinds_of vs) ≡ length vs
    length_kinds [] = refl
    length_kinds (v ∷ vs) = ap suc (length_kinds vs)

-- the way begins after a point
pub begins_sealing : (bodies : List Body) (s : Saver) (low : List Value) (c : MachineCall) (k : ℕ)
    (callee : Option ℕ) (p : ℕ) (fit : IsAt bodies c k callee p) → c.place ≡ k + 1
    → is_kept fit.body ≡ true → HasCall s low c []
    → IsSealing bodies fit.body c low (length fit.body.code) s
begins_sealing bodies s low c k callee p fit at ok lies =
    let on = save_begins bodies c k callee p fit c.place at ok in
    let way = ap (keeps fit.body.code (length fit.body.code)) (sym at) ∙ on.is_way in
    let slots = slot_count c fit.body fit.slots in
    let each : (i : ℕ) → i < length c.slots → keep_count i on.way.order ≡ 1 =
    λ i lt. once_told fit.body k p callee fit.point on.way ok fit.here fit.mapped way i (omega arith) in
    let all = due_all (keeps_of on.way.order) 0 c.slots (λ i lt. each (0 + i) (omega arith)) in
    record {
      c = c;
      slots = c.slots;
      hand = [];
      point = p;
      kinds = fit.point.kinds;
      lies = lies;
      same = refl;
      on = on;
      holds = λ j v e some. e;
      once = λ i lt. let e = each i lt in omega arith;
      charge = omega (arith, all);
      steps = 0;
      ran = λ outer sack. refl;
    }

way_is : (k : Keep) (o : Option SaveWay) (way rest : SaveWay) → option_map (keeping k) o ≡ Some way
    → o ≡ Some rest → way ≡ keeping k rest
way_is k o way rest e f =
    let g : Some (keeping k rest) ≡ Some way = ap (option_map (keeping k)) (sym f) ∙ e in
    cc

module _ (bodies : List Body) (w : Body) (start : MachineCall) (low : List Value) (n : ℕ) (s : Saver)
    (x : IsSealing bodies w start low (suc n) s) (found : slice_get bodies start.function ≡ Some w) where
  -- there is an instruction
  pub has_instr : slice_get w.code s.active.place ≡ None → ⊥
  has_instr e =
      let at : slice_get w.code x.c.place ≡ None = ap (slice_get w.code) (sym x.lies.place) ∙ e in
      none-some x.on.way (sym (ap (keeps_at (keeps w.code n) x.c.place) at) ∙ x.on.is_way)

  module _ (i : Instr) (here : slice_get w.code s.active.place ≡ Some i) where
    at_call : slice_get w.code x.c.place ≡ Some i
    at_call = ap (slice_get w.code) (sym x.lies.place) ∙ here

    goes : SaveGoesOn w x.point x.kinds n x.c.function (save_act (Some i) x.c x.hand)
    goes = subst (λ o. SaveGoesOn w x.point x.kinds n x.c.function (save_act o x.c x.hand)) at_call
        (save_goes_on w x.point x.kinds n x.c x.hand x.on)

    way_here : keeps_at (keeps w.code n) x.c.place (Some i) ≡ Some x.on.way
    way_here = sym (ap (keeps_at (keeps w.code n) x.c.place) at_call) ∙ x.on.is_way

    steps_on : (outer : List MachineCall) (sack : List Frame)
        → save_step bodies (saving (x.c ∷ outer) x.hand sack)
        ≡ save_after (save_act (Some i) x.c x.hand) outer sack
    steps_on outer sack =
        ap (λ o. save_after (save_act (instruction_in o x.c.place) x.c x.hand) outer sack)
        (ap (slice_get bodies) x.same ∙ found)
        ∙ ap (λ o. save_after (save_act o x.c x.hand) outer sack) at_call

    -- what is left of a slot that is kept now
    still : (m : ℕ) (v : Value) (rest : SaveWay) → x.on.way ≡ keeping (OfSlot m) rest
        → slice_get x.c.slots m ≡ Some v → slice_get x.slots m ≡ Some v
    still m v rest is e =
        let q = ap (λ (y : SaveWay). keep_count m y.order) is in
        let one = counted_here (keeps_of rest.order) m m refl in
        x.holds m v e (omega arith)

    able_by : (j : Instr) → keeps_at (keeps w.code n) x.c.place (Some j) ≡ Some x.on.way
        → SaveGoesOn w x.point x.kinds n x.c.function (save_act (Some j) x.c x.hand)
        → IsSaveAct (save_act (Some j) (with_slots x.c x.slots) x.hand)
    able_by (TestSave t) e g = tt
    able_by (Jump t) e g = tt
    able_by (KeepSlot m) e g = by_slot (slice_get x.c.slots m) refl g
      where
        by_slot : (o : Option Value) → slice_get x.c.slots m ≡ o
            → SaveGoesOn w x.point x.kinds n x.c.function
            (keeps_slot o (λ v. Keeps (at_place x.c (x.c.place + 1) x.c.operands) (v ∷ x.hand)))
            → IsSaveAct (save_act (Some (KeepSlot m)) (with_slots x.c x.slots) x.hand)
        by_slot None is g = absurd g
        by_slot (Some v) is g =
            let on = g.1 in
            let there = still m v on.way
            (way_is (OfSlot m) (keeps w.code n (x.c.place + 1)) x.on.way on.way e on.is_way) is in
            subst (λ o. IsSaveAct (keeps_slot o (λ v. Keeps
            (at_place (with_slots x.c x.slots) (x.c.place + 1) x.c.operands) (v ∷ x.hand)))) (sym there) tt
    able_by KeepTop e g = by_top x.c.operands g
      where
        by_top : (ops : List Value) → SaveGoesOn w x.point x.kinds n x.c.function
            (keeps_top ops (λ v rest. Keeps (at_place x.c (x.c.place + 1) rest) (v ∷ x.hand)))
            → IsSaveAct (keeps_top ops (λ v rest. Keeps
            (at_place (with_slots x.c x.slots) (x.c.place + 1) rest) (v ∷ x.hand)))
        by_top [] g = absurd g
        by_top (v ∷ rest) g = tt
    able_by (Seal q) e g = tt
    able_by _ e g = absurd (none-some x.on.way e)

    -- which finds what it needs
    pub can_keep : s.active.place + 1 < 4294967296 → CanKeep i s
    can_keep short = (low, with_slots x.c x.slots, x.hand, x.lies, able_by i way_here goes, short)

    one_step : (next : MachineCall) (more : List Value)
        → ((outer : List MachineCall) (sack : List Frame)
        → save_step bodies (saving (x.c ∷ outer) x.hand sack) ≡ Some (saving (next ∷ outer) more sack))
        → (outer : List MachineCall) (sack : List Frame)
        → repeat (save_step bodies) (x.steps + 1) (saving (start ∷ outer) [] sack)
        ≡ Some (saving (next ∷ outer) more sack)
    one_step next more step outer sack =
        then_one (save_step bodies) x.steps (saving (start ∷ outer) [] sack) (saving (x.c ∷ outer) x.hand sack)
        (Some (saving (next ∷ outer) more sack)) (x.ran outer sack) (step outer sack)

    -- on at another place
    jumps_by : (to : ℕ) (t : Saver) → keeps w.code n to ≡ Some x.on.way
        → ((outer : List MachineCall) (sack : List Frame)
        → save_step bodies (saving (x.c ∷ outer) x.hand sack)
        ≡ Some (saving (at_place x.c to x.c.operands ∷ outer) x.hand sack))
        → HasCall t low (call_at x.c.function to x.slots x.c.operands) x.hand
        → IsSealing bodies w start low n t
    jumps_by to t e step d =
        record {
          c = at_place x.c to x.c.operands;
          slots = x.slots;
          hand = x.hand;
          point = x.point;
          kinds = x.kinds;
          lies = d;
          same = x.same;
          on = record {
            way = x.on.way;
            is_way = e;
            point_is = x.on.point_is;
            slots = x.on.slots;
            kinds_are = x.on.kinds_are;
          };
          holds = x.holds;
          once = x.once;
          charge = x.charge;
          steps = x.steps + 1;
          ran = one_step (at_place x.c to x.c.operands) x.hand step;
        }

    kept_by : (j : Instr) (t : Saver) → keeps_at (keeps w.code n) x.c.place (Some j) ≡ Some x.on.way
        → SaveGoesOn w x.point x.kinds n x.c.function (save_act (Some j) x.c x.hand)
        → ((outer : List MachineCall) (sack : List Frame)
        → save_step bodies (saving (x.c ∷ outer) x.hand sack)
        ≡ save_after (save_act (Some j) x.c x.hand) outer sack)
        → DidKeep j low (with_slots x.c x.slots) x.hand (save_act (Some j) (with_slots x.c x.slots) x.hand) None t
        → IsSealing bodies w start low n t
    kept_by (TestSave to) t e g step d = jumps_by to t (onward_is x.c.place to _ _ e) step d
    kept_by (Jump to) t e g step d = jumps_by to t (onward_is x.c.place to _ _ e) step d
    kept_by (KeepSlot m) t e g step d = by_slot (slice_get x.c.slots m) refl g step
      where
        by_slot : (o : Option Value) → slice_get x.c.slots m ≡ o
            → SaveGoesOn w x.point x.kinds n x.c.function
            (keeps_slot o (λ v. Keeps (at_place x.c (x.c.place + 1) x.c.operands) (v ∷ x.hand)))
            → ((outer : List MachineCall) (sack : List Frame)
            → save_step bodies (saving (x.c ∷ outer) x.hand sack)
            ≡ save_after (keeps_slot o
            (λ v. Keeps (at_place x.c (x.c.place + 1) x.c.operands) (v ∷ x.hand))) outer sack)
            → IsSealing bodies w start low n t
        by_slot None is g step = absurd g
        by_slot (Some v) is g step =
            let on = g.1 in
            let way = way_is (OfSlot m) (keeps w.code n (x.c.place + 1)) x.on.way on.way e on.is_way in
            let there = still m v on.way way is in
            let did = subst (λ o. DidKeep (KeepSlot m) low (with_slots x.c x.slots) x.hand (keeps_slot o
            (λ v. Keeps (at_place (with_slots x.c x.slots) (x.c.place + 1) x.c.operands) (v ∷ x.hand))) None t)
            there d in
            let once = subst (λ (y : SaveWay). AtMostOnce (keeps_of y.order) (length x.c.slots)) way x.once in
            let lt = slot_within x.c.slots m v is in
            let none = none_left (keeps_of on.way.order) m (length x.c.slots) once lt in
            let held : (k : ℕ) (u : Value) → slice_get x.c.slots k ≡ Some u → 1 ≤ keep_count k on.way.order
            → slice_get (slice_set x.slots m absent) k ≡ Some u =
            λ k u e some. let ne : k ≢ m = λ same. let z = ap (keeps_of on.way.order) same in omega arith in
            let count = ap (λ (y : SaveWay). keep_count k y.order) way
            ∙ counted_there (keeps_of on.way.order) m k ne in
            get_other x.slots m k absent ne ∙ x.holds k u e (omega arith) in
            let due_is = ap (λ (y : SaveWay). due (keeps_of y.order) 0 x.c.slots) way
            ∙ due_more (keeps_of on.way.order) m 0 m v x.c.slots is (omega arith) none in
            let charge = x.charge in
            let more = one_more v x.hand in
            record {
              c = at_place x.c (x.c.place + 1) x.c.operands;
              slots = slice_set x.slots m absent;
              hand = v ∷ x.hand;
              point = x.point;
              kinds = x.kinds;
              lies = did;
              same = x.same;
              on = on;
              holds = held;
              once = fewer (keeps_of on.way.order) m (length x.c.slots) once;
              charge = omega arith;
              steps = x.steps + 1;
              ran = one_step (at_place x.c (x.c.place + 1) x.c.operands) (v ∷ x.hand) step;
            }
    kept_by KeepTop t e g step d = by_top x.c.operands refl g step d
      where
        by_top : (ops : List Value) → x.c.operands ≡ ops
            → SaveGoesOn w x.point x.kinds n x.c.function
            (keeps_top ops (λ v rest. Keeps (at_place x.c (x.c.place + 1) rest) (v ∷ x.hand)))
            → ((outer : List MachineCall) (sack : List Frame)
            → save_step bodies (saving (x.c ∷ outer) x.hand sack)
            ≡ save_after (keeps_top ops
            (λ v rest. Keeps (at_place x.c (x.c.place + 1) rest) (v ∷ x.hand))) outer sack)
            → DidKeep KeepTop low (with_slots x.c x.slots) x.hand (keeps_top ops
            (λ v rest. Keeps (at_place (with_slots x.c x.slots) (x.c.place + 1) rest) (v ∷ x.hand))) None t
            → IsSealing bodies w start low n t
        by_top [] is g step d = absurd g
        by_top (v ∷ rest) is g step d =
            let on = g.1 in
            let way = way_is OfTop (keeps w.code n (x.c.place + 1)) x.on.way on.way e on.is_way in
            let due_is = ap (λ (y : SaveWay). due (keeps_of y.order) 0 x.c.slots) way in
            let charge = x.charge in
            let top = ap charges_of is ∙ one_more v rest in
            let more = one_more v x.hand in
            record {
              c = at_place x.c (x.c.place + 1) rest;
              slots = x.slots;
              hand = v ∷ x.hand;
              point = x.point;
              kinds = x.kinds;
              lies = d;
              same = x.same;
              on = on;
              holds = λ k u e some. x.holds k u e
                  (subst (λ (y : SaveWay). 1 ≤ keep_count k y.order) (sym way) some);
              once = subst (λ (y : SaveWay). AtMostOnce (keeps_of y.order) (length x.c.slots)) way x.once;
              charge = omega arith;
              steps = x.steps + 1;
              ran = one_step (at_place x.c (x.c.place + 1) rest) (v ∷ x.hand) step;
            }
    kept_by (Seal q) t e g step d = absurd d
    kept_by _ t e g step d = absurd g

    -- continues along the way
    pub keeps_on : (t : Saver)
        → DidKeep i low (with_slots x.c x.slots) x.hand (save_act (Some i) (with_slots x.c x.slots) x.hand) None t
        → IsSealing bodies w start low n t
    keeps_on t d = kept_by i t way_here goes steps_on d

    sealed_by : (j : Instr) (q : ℕ) (t : Saver) → keeps_at (keeps w.code n) x.c.place (Some j) ≡ Some x.on.way
        → SaveGoesOn w x.point x.kinds n x.c.function (save_act (Some j) x.c x.hand)
        → ((outer : List MachineCall) (sack : List Frame)
        → save_step bodies (saving (x.c ∷ outer) x.hand sack)
        ≡ save_after (save_act (Some j) x.c x.hand) outer sack)
        → DidKeep j low (with_slots x.c x.slots) x.hand (save_act (Some j) (with_slots x.c x.slots) x.hand)
        (Some q) t
        → HasCall t low (with_slots x.c x.slots) x.hand
        × IsFrameOf bodies start (frame_of x.c.function q x.hand)
    sealed_by (TestSave to) q t e g step d = absurd d
    sealed_by (Jump to) q t e g step d = absurd d
    sealed_by (KeepSlot m) q t e g step d = by_slot (slice_get x.slots m) d
      where
        by_slot : (o : Option Value) → DidKeep (KeepSlot m) low (with_slots x.c x.slots) x.hand (keeps_slot o
            (λ v. Keeps (at_place (with_slots x.c x.slots) (x.c.place + 1) x.c.operands) (v ∷ x.hand))) (Some q) t
            → HasCall t low (with_slots x.c x.slots) x.hand
            × IsFrameOf bodies start (frame_of x.c.function q x.hand)
        by_slot None d = absurd d
        by_slot (Some v) d = absurd d
    sealed_by KeepTop q t e g step d = by_top x.c.operands d
      where
        by_top : (ops : List Value) → DidKeep KeepTop low (with_slots x.c x.slots) x.hand (keeps_top ops
            (λ v rest. Keeps (at_place (with_slots x.c x.slots) (x.c.place + 1) rest) (v ∷ x.hand))) (Some q) t
            → HasCall t low (with_slots x.c x.slots) x.hand
            × IsFrameOf bodies start (frame_of x.c.function q x.hand)
        by_top [] d = absurd d
        by_top (v ∷ rest) d = absurd d
    sealed_by (Seal p) q t e g step d =
        let is : record { order = []; point = p } ≡ x.on.way = cc in
        let none = none_waits x.c.operands
        (ap (λ (y : SaveWay). kept w.slots y.order (kinds_of x.c.operands) (kinds_of x.hand)) is
        ∙ x.on.kinds_are) in
        let due_is = ap (λ (y : SaveWay). due (keeps_of y.order) 0 x.c.slots) (sym is) ∙ due_none 0 x.c.slots in
        let charge = x.charge in
        let top = ap charges_of none in
        let frame = λ (k : ℕ). frame_of x.c.function k x.hand in (
          d.1,
          record {
            ran = (
              x.steps + 1,
              λ outer sack. then_one (save_step bodies) x.steps (saving (start ∷ outer) [] sack)
                  (saving (x.c ∷ outer) x.hand sack) (Some (saving outer [] (sack ++ frame q ∷ [])))
                  (x.ran outer sack)
                  (step outer sack ∙ ap (λ k. Some (saving outer [] (sack ++ frame k ∷ []))) d.0),
            );
            charge = omega arith;
          },
        )
      where
        none_waits : (ops : List Value) → kept w.slots [] (kinds_of ops) (kinds_of x.hand) ≡ Some x.kinds
            → ops ≡ []
        none_waits [] e = refl
        none_waits (o ∷ ops) e = absurd cc
    sealed_by _ q t e g step d = absurd g

    -- or at its end
    pub is_sealed : (q : ℕ) (t : Saver)
        → DidKeep i low (with_slots x.c x.slots) x.hand (save_act (Some i) (with_slots x.c x.slots) x.hand)
        (Some q) t → HasCall t low (with_slots x.c x.slots) x.hand
        × IsFrameOf bodies start (frame_of x.c.function q x.hand)
    is_sealed q t d = sealed_by i q t way_here goes steps_on d

-- without an instruction there is no way
pub not_over : (bodies : List Body) (w : Body) (start : MachineCall) (low : List Value) (s : Saver)
    → IsSealing bodies w start low 0 s → ⊥
not_over bodies w start low s x = save_not_over w x.point x.kinds x.c x.hand x.on
