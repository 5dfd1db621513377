-- Calls that are restored, from instruction to instruction.
use Rattle.std.proofs.Common.{◌≡◌, ◌∙◌, refl, sym, ap, subst, arith, ℕ, zero, suc, ◌+◌, ◌-◌, ◌<◌, ◌≤◌, false, List, [], ◌∷◌, ◌++◌, length, map, reverse, length-append, Option, Some, None, slice_set, vec_capacity}
use Rattle.std.specs.Prelude.{slice_get}
use Rattle.std.proofs.lemmas.List.{append-nil, set-append_left, set-append_right, length-set}
use Rattle.lsl_value.specs.declared.tagged.Value.{Value}
use Rattle.lsl_running.specs.Values.{empty_of}
use Rattle.lsl_code.specs.declared.frames.Frame.{Frame}
use Rattle.lsl_code.specs.declared.instructions.Instr.TheVariants.{Unpack, BackSlot, BackTop}
use Rattle.lsl_code.specs.Bodies.{Body}
use Rattle.lsl_code.specs.Machine.{MachineCall}
use Rattle.lsl_code.specs.Modes.{at_place}
use Rattle.lsl_code.specs.Restoring.{Restoring, Moves, blank, takes, unpacked, where_slot, with_slot, back_after}
use Rattle.lsl_machine.specs.declared.restoring.Restorer.{Restorer}
use Rattle.lsl_machine.specs.declared.running.Activation.{Activation}
use Rattle.lsl_machine.specs.Laid.{flat}
use Rattle.lsl_machine.specs.Rooms.{IsReserved, most_of}
use Rattle.lsl_machine.specs.CallsRestored.{Backs, CameTo, CanBack, IsRestoring, next_of}
use Rattle.lsl_machine.proofs.Laying.{append_last, reverse-push}
use Rattle.lsl_machine.proofs.Reserving.{reserved_more}
use Rattle.lsl_machine.proofs.Vacating.{slot_there}
use Rattle.lsl_weave.proofs.Restored.{unpacked_end}

-- on at another place
pub put_place : (bodies : List Body) (r t : Restorer) (c : MachineCall) (outer : List MachineCall) (point q : ℕ)
    (hand : List Value) (sack : List Frame) → IsRestoring bodies r c outer point hand sack
    → t ≡ record r { active = record r.active { place = q } }
    → IsRestoring bodies t (at_place c q c.operands) outer point hand sack
put_place bodies r t c outer point q hand sack h is =
    subst (λ (x : Restorer). IsRestoring bodies x (at_place c q c.operands) outer point hand sack) (sym is)
    (record {
      values = h.values;
      waiting = h.waiting;
      function = h.function;
      place = refl;
      base_is = h.base_is;
      floor = h.floor;
      charge = h.charge;
      at_point = h.at_point;
      in_hand = h.in_hand;
      frames = h.frames;
      reserved = h.reserved;
    })

-- the outermost frame becomes current
pub frame_taken : (bodies : List Body) (r t : Restorer) (fr : Frame) → r.pack.frames ≡ t.pack.frames ++ fr ∷ []
    → t.point ≡ fr.point → t.pack.hand ≡ fr.slots
    → t.active ≡ record r.active { place = r.active.place + 1 } → t.stack ≡ r.stack → t.callers ≡ r.callers
    → Backs bodies Unpack r false t
frame_taken bodies r t fr frames point hand' active stack callers c outer p hand sack h =
    let left = t.pack.frames in
    let all : sack ≡ left ++ fr ∷ [] = sym h.frames ∙ frames in
    let next = at_place c (c.place + 1) c.operands in
    let now : IsRestoring bodies t next outer fr.point fr.slots left =
    record {
      values = ap (λ x. x.items) stack ∙ h.values;
      waiting = ap (λ x. x.items) callers ∙ h.waiting;
      function = ap (λ (a : Activation). a.function) active ∙ h.function;
      place = ap (λ (a : Activation). a.place) active ∙ ap (λ n. n + 1) h.place;
      base_is = ap (λ (a : Activation). a.base) active ∙ h.base_is;
      floor = ap (λ (a : Activation). a.floor) active ∙ h.floor;
      charge = ap (λ (a : Activation). a.charge) active ∙ h.charge;
      at_point = point;
      in_hand = hand';
      frames = refl;
      reserved = subst (λ x. IsReserved bodies (vec_capacity x) (next ∷ outer)) (sym stack) h.reserved;
    } in
    let go = λ (rest : List Frame) (last : Frame). Moves next last.point last.slots rest in
    subst (λ s. CameTo bodies (back_after bodies (unpacked s go) outer p hand s) false t) (sym all)
    (subst (λ a. CameTo bodies (back_after bodies a outer p hand (left ++ fr ∷ [])) false t)
    (sym (unpacked_end left fr go)) (refl, now))

-- a slot of the call
slot_count : (bodies : List Body) (r : Restorer) (c : MachineCall) (outer : List MachineCall) (p : ℕ)
    (hand : List Value) (sack : List Frame) → IsRestoring bodies r c outer p hand sack
    → r.active.base + length c.slots ≡ r.active.floor
slot_count bodies r c outer p hand sack h =
    let a = length-append (flat outer) c.slots in
    let b = h.base_is in
    let f = h.floor in
    omega arith

in_slots : (bodies : List Body) (c : MachineCall) (outer : List MachineCall) (p n : ℕ) (hand : List Value)
    (sack : List Frame) (s : Restoring) → next_of bodies (BackSlot n) c outer p hand sack ≡ Some s
    → n < length c.slots
in_slots bodies c outer p n [] sack s e = absurd cc
in_slots bodies c outer p n (v ∷ rest) sack s e = by_slot c.slots n e
  where
    by_slot : (slots : List Value) (n : ℕ) → back_after bodies (where_slot (slice_get slots n)
        (Moves (with_slot c n v) p rest sack)) outer p (v ∷ rest) sack ≡ Some s → n < length slots
    by_slot slots n e = by_get (slice_get slots n) refl e
      where
        within : (slots : List Value) (n : ℕ) (u : Value) → slice_get slots n ≡ Some u → n < length slots
        within [] n u e = absurd cc
        within (x ∷ slots) zero u e = omega arith
        within (x ∷ slots) (suc n) u e = let q = within slots n u e in omega arith

        by_get : (o : Option Value) → slice_get slots n ≡ o → back_after bodies (where_slot o
            (Moves (with_slot c n v) p rest sack)) outer p (v ∷ rest) sack ≡ Some s → n < length slots
        by_get None is e = absurd cc
        by_get (Some u) is e = within slots n u is

pub slot_put_within : (bodies : List Body) (r : Restorer) (n : ℕ) → CanBack bodies (BackSlot n) r
    → (other : List Body) (c : MachineCall) (outer : List MachineCall) (p : ℕ) (hand : List Value)
    (sack : List Frame) → IsRestoring other r c outer p hand sack → n < length c.slots
slot_put_within bodies r n k other c outer p hand sack h =
    let lt = in_slots bodies k.0 k.1 k.2 n k.3 k.4 k.5 k.7 in
    let a = slot_count bodies r k.0 k.1 k.2 k.3 k.4 k.6 in
    let b = slot_count other r c outer p hand sack h in
    omega arith

pub slot_put_place : (bodies : List Body) (r : Restorer) (n : ℕ) → CanBack bodies (BackSlot n) r
    → r.active.base + n < length r.stack.items
slot_put_place bodies r n k =
    let lt = in_slots bodies k.0 k.1 k.2 n k.3 k.4 k.5 k.7 in
    let a = slot_count bodies r k.0 k.1 k.2 k.3 k.4 k.6 in
    let all = ap length k.6.values ∙ length-append (flat k.1 ++ k.0.slots) (reverse k.0.operands) in
    let f = k.6.floor in
    omega arith

-- a value is put to a slot
pub slot_set : (can : List Body) (r t : Restorer) (n : ℕ) (v : Value) → CanBack can (BackSlot n) r
    → r.pack.hand ≡ v ∷ t.pack.hand → t.stack.items ≡ slice_set r.stack.items (r.active.base + n) v
    → vec_capacity t.stack ≡ vec_capacity r.stack → t.active ≡ record r.active { place = r.active.place + 1 }
    → t.callers ≡ r.callers → t.point ≡ r.point → t.pack.frames ≡ r.pack.frames
    → (bodies : List Body) → Backs bodies (BackSlot n) r false t
slot_set can r t n v k in_hand stack room active callers point frames bodies c outer p hand sack h =
    let rest = reverse c.operands in
    let low = flat outer in
    let inside = slot_put_within can r n k bodies c outer p hand sack h in
    let len = length-append low c.slots in
    let within : length low + n < length (low ++ c.slots) = omega arith in
    let put : slice_set r.stack.items (r.active.base + n) v ≡ (low ++ slice_set c.slots n v) ++ rest =
    ap (λ b. slice_set r.stack.items (b + n) v) h.base_is
    ∙ ap (λ l. slice_set l (length low + n) v) h.values
    ∙ set-append_left (low ++ c.slots) rest (length low + n) v within
    ∙ ap (λ l. l ++ rest) (set-append_right low c.slots (length low) (length low + n) v refl (omega arith)
    ∙ ap (λ m. low ++ slice_set c.slots m v) (minus (length low) n)) in
    let same : length (low ++ c.slots) ≡ length (low ++ slice_set c.slots n v) = let a =
    length-append low (slice_set c.slots n v) in let b = length-set c.slots n v in omega arith in
    let slots : length (slice_set c.slots n v) ≡ length c.slots = length-set c.slots n v in
    let most = h.reserved.0 in
    let now : IsRestoring bodies t (with_slot c n v) outer p t.pack.hand sack =
    record {
      values = stack ∙ put;
      waiting = ap (λ x. x.items) callers ∙ h.waiting;
      function = ap (λ (a : Activation). a.function) active ∙ h.function;
      place = ap (λ (a : Activation). a.place) active ∙ ap (λ q. q + 1) h.place;
      base_is = ap (λ (a : Activation). a.base) active ∙ h.base_is;
      floor = ap (λ (a : Activation). a.floor) active ∙ h.floor ∙ same;
      charge = ap (λ (a : Activation). a.charge) active ∙ h.charge;
      at_point = point ∙ h.at_point;
      in_hand = refl;
      frames = frames ∙ h.frames;
      reserved = subst (λ m. IsReserved bodies m (with_slot c n v ∷ outer)) (sym room) (omega arith, h.reserved.1);
    } in
    let u = slot_there c.slots n inside in
    let held : hand ≡ v ∷ t.pack.hand = sym h.in_hand ∙ in_hand in
    subst (λ l. CameTo bodies (back_after bodies (takes l
    (λ x rest. where_slot (slice_get c.slots n) (Moves (with_slot c n x) p rest sack))) outer p l sack) false t)
    (sym held)
    (subst (λ o. CameTo bodies (back_after bodies (where_slot o
    (Moves (with_slot c n v) p t.pack.hand sack)) outer p (v ∷ t.pack.hand) sack) false t)
    (sym u.1) (refl, now))
  where
    minus : (m n : ℕ) → m + n - m ≡ n
    minus m n = omega arith

-- a value is pushed
pub top_put : (r t : Restorer) (v : Value) → r.pack.hand ≡ v ∷ t.pack.hand
    → t.stack.items ≡ r.stack.items ++ v ∷ [] → vec_capacity r.stack ≤ vec_capacity t.stack
    → t.active ≡ record r.active { place = r.active.place + 1 } → t.callers ≡ r.callers → t.point ≡ r.point
    → t.pack.frames ≡ r.pack.frames → (bodies : List Body) → Backs bodies BackTop r false t
top_put r t v in_hand stack room active callers point frames bodies c outer p hand sack h =
    let next = at_place c (c.place + 1) (v ∷ c.operands) in
    let now : IsRestoring bodies t next outer p t.pack.hand sack =
    record {
      values = stack ∙ ap (λ l. l ++ v ∷ []) h.values
          ∙ sym (append_last (flat outer ++ c.slots) (reverse c.operands) v)
          ∙ ap (λ l. (flat outer ++ c.slots) ++ l) (sym (reverse-push c.operands v));
      waiting = ap (λ x. x.items) callers ∙ h.waiting;
      function = ap (λ (a : Activation). a.function) active ∙ h.function;
      place = ap (λ (a : Activation). a.place) active ∙ ap (λ q. q + 1) h.place;
      base_is = ap (λ (a : Activation). a.base) active ∙ h.base_is;
      floor = ap (λ (a : Activation). a.floor) active ∙ h.floor;
      charge = ap (λ (a : Activation). a.charge) active ∙ h.charge;
      at_point = point ∙ h.at_point;
      in_hand = refl;
      frames = frames ∙ h.frames;
      reserved = let m = h.reserved.0 in
          (omega arith, reserved_more bodies (vec_capacity r.stack) (vec_capacity t.stack) outer room h.reserved.1);
    } in
    let held : hand ≡ v ∷ t.pack.hand = sym h.in_hand ∙ in_hand in
    subst (λ l. CameTo bodies (back_after bodies (takes l
    (λ x rest. Moves (at_place c (c.place + 1) (x ∷ c.operands)) p rest sack)) outer p l sack) false t) (sym held)
    (refl, now)

-- a handler's function is entered
pub begun_restoring : (bodies : List Body) (r : Restorer) (handler : ℕ) (body : Body) (frames : List Frame)
    → slice_get bodies handler ≡ Some body → r.stack.items ≡ map empty_of body.slots → r.callers.items ≡ []
    → r.active ≡ record { function = handler; place = 0; base = 0; floor = length r.stack.items; charge = 1024 }
    → r.point ≡ 0 → r.pack.hand ≡ [] → r.pack.frames ≡ frames
    → length r.stack.items + body.most ≤ vec_capacity r.stack
    → IsRestoring bodies r (blank handler body) [] 0 [] frames
begun_restoring bodies r handler body frames there stack callers active point hand fr room =
    let len = ap length stack in
    let most = ap most_of there in
    record {
      values = stack ∙ sym (append-nil (map empty_of body.slots));
      waiting = callers;
      function = ap (λ (a : Activation). a.function) active;
      place = ap (λ (a : Activation). a.place) active;
      base_is = ap (λ (a : Activation). a.base) active;
      floor = ap (λ (a : Activation). a.floor) active ∙ len;
      charge = ap (λ (a : Activation). a.charge) active;
      at_point = point;
      in_hand = hand;
      frames = fr;
      reserved = (omega arith, tt);
    }
