-- A value moves from the stack to the pack.
use Rattle.std.proofs.Common.{◌≡◌, ◌∙◌, refl, sym, ap, subst, arith, ℕ, zero, suc, ◌+◌, ◌-◌, ◌<◌, List, [], ◌∷◌, ◌++◌, length, reverse, length-append, Option, Some, None, slice_set, get_or}
use Rattle.std.specs.Prelude.{slice_get}
use Rattle.std.proofs.lemmas.List.{get_or_append_left, get_or-append-add, set-append_left, set-append_right, length-set}
use Rattle.lsl_value.specs.declared.tagged.Value.{Value}
use Rattle.lsl_running.specs.Values.{absent}
use Rattle.lsl_code.specs.declared.instructions.Instr.TheVariants.{KeepSlot, KeepTop}
use Rattle.lsl_code.specs.Machine.{MachineCall, call_at}
use Rattle.lsl_code.specs.Modes.{at_place}
use Rattle.lsl_code.specs.Saving.{Keeps, keeps_slot, keeps_top, save_act}
use Rattle.lsl_machine.specs.declared.running.Activation.{Activation}
use Rattle.lsl_machine.specs.declared.saving.Saver.{Saver}
use Rattle.lsl_machine.specs.CallsSaved.{HasCall, IsSaveAct, CanKeep, DidKeep}
use Rattle.lsl_machine.proofs.Laying.{reverse-push, append_last, last_same}

pub slot_there : {A : Type 0} (vs : List A) (k : ℕ) → k < length vs → (v : A) × (slice_get vs k ≡ Some v)
slot_there [] k lt = absurd (omega arith)
slot_there (x ∷ vs) zero lt = (x, refl)
slot_there (x ∷ vs) (suc k) lt = slot_there vs k (omega arith)

pub got : {A : Type 0} (vs : List A) (k : ℕ) (v d : A) → slice_get vs k ≡ Some v → get_or vs k d ≡ v
got [] k v d e = absurd cc
got (x ∷ vs) zero v d e = cc
got (x ∷ vs) (suc k) v d e = got vs k v d e

slot_inside : (vs : List Value) (k : ℕ) (c : MachineCall) (hand : List Value) (o : Option Value)
    → slice_get vs k ≡ o → IsSaveAct (keeps_slot o (λ v. Keeps c (v ∷ hand))) → k < length vs
slot_inside vs k c hand None e h = absurd h
slot_inside vs k c hand (Some v) e h = within vs k v e
  where
    within : (vs : List Value) (k : ℕ) (v : Value) → slice_get vs k ≡ Some v → k < length vs
    within [] k v e = absurd cc
    within (x ∷ vs) zero v e = omega arith
    within (x ∷ vs) (suc k) v e = let q = within vs k v e in omega arith

-- how many slots the call has
slots_are : (s : Saver) (low : List Value) (c : MachineCall) (hand : List Value) → HasCall s low c hand
    → s.active.base + length c.slots ≡ s.active.floor
slots_are s low c hand h =
    let a = length-append low c.slots in
    let b = h.base in
    let f = h.floor in
    omega arith

pub slot_within : (s : Saver) (n : ℕ) → CanKeep (KeepSlot n) s → (low : List Value) (c : MachineCall)
    (hand : List Value) → HasCall s low c hand → n < length c.slots
slot_within s n k low c hand h =
    let inside = slot_inside k.1.slots n (at_place k.1 (k.1.place + 1) k.1.operands) k.2
    (slice_get k.1.slots n) refl k.4 in
    let a = slots_are s k.0 k.1 k.2 k.3 in
    let b = slots_are s low c hand h in
    omega arith

-- a slot's place on the stack
pub slot_place : (s : Saver) (n : ℕ) → CanKeep (KeepSlot n) s → s.active.base + n < length s.stack.items
slot_place s n k =
    let lt = slot_within s n k k.0 k.1 k.2 k.3 in
    let a = slots_are s k.0 k.1 k.2 k.3 in
    let all = ap length k.3.stack ∙ length-append (k.0 ++ k.1.slots) (reverse k.1.operands) in
    let f = k.3.floor in
    omega arith

pub slot_moved : (s t : Saver) (n : ℕ) (v d : Value) → CanKeep (KeepSlot n) s
    → t.stack.items ≡ slice_set s.stack.items (s.active.base + n) absent
    → v ≡ get_or s.stack.items (s.active.base + n) d → t.pack.hand ≡ v ∷ s.pack.hand
    → t.active ≡ record s.active { place = s.active.place + 1 } → (low : List Value) (c : MachineCall)
    (hand : List Value) → HasCall s low c hand
    → DidKeep (KeepSlot n) low c hand (save_act (Some (KeepSlot n)) c hand) None t
slot_moved s t n v d k stack is in_hand active low c hand h =
    let rest = reverse c.operands in
    let inside = slot_within s n k low c hand h in
    let len = length-append low c.slots in
    let within : length low + n < length (low ++ c.slots) = omega arith in
    let put : slice_set s.stack.items (s.active.base + n) absent ≡ (low ++ slice_set c.slots n absent) ++ rest =
    ap (λ b. slice_set s.stack.items (b + n) absent) h.base
    ∙ ap (λ l. slice_set l (length low + n) absent) h.stack
    ∙ set-append_left (low ++ c.slots) rest (length low + n) absent within
    ∙ ap (λ l. l ++ rest) (set-append_right low c.slots (length low) (length low + n) absent refl (omega arith)
    ∙ ap (λ m. low ++ slice_set c.slots m absent) (minus (length low) n)) in
    let u = slot_there c.slots n inside in
    let was : v ≡ u.0 =
    is ∙ ap (λ b. get_or s.stack.items (b + n) d) h.base ∙ ap (λ l. get_or l (length low + n) d) h.stack
    ∙ get_or_append_left (low ++ c.slots) rest d (length low + n) within ∙ get_or-append-add low c.slots n d
    ∙ got c.slots n u.0 d u.1 in
    let same : length (low ++ c.slots) ≡ length (low ++ slice_set c.slots n absent) = let a =
    length-append low (slice_set c.slots n absent) in let b = length-set c.slots n absent in omega arith in
    let now : HasCall t low (call_at c.function (c.place + 1) (slice_set c.slots n absent) c.operands)
    (u.0 ∷ hand) =
    record {
      stack = stack ∙ put;
      function = ap (λ (a : Activation). a.function) active ∙ h.function;
      place = ap (λ (a : Activation). a.place) active ∙ ap (λ p. p + 1) h.place;
      base = ap (λ (a : Activation). a.base) active ∙ h.base;
      floor = ap (λ (a : Activation). a.floor) active ∙ h.floor ∙ same;
      in_hand = in_hand ∙ ap (λ (l : List Value). v ∷ l) h.in_hand ∙ ap (λ (x : Value). x ∷ hand) was;
    } in
    subst (λ o. DidKeep (KeepSlot n) low c hand (keeps_slot o
    (λ v. Keeps (at_place c (c.place + 1) c.operands) (v ∷ hand))) None t) (sym u.1) now
  where
    minus : (m n : ℕ) → m + n - m ≡ n
    minus m n = omega arith

-- the call has an operand
top_there : (ops : List Value) (c : MachineCall) (hand : List Value)
    → IsSaveAct (keeps_top ops (λ v rest. Keeps (at_place c (c.place + 1) rest) (v ∷ hand))) → 0 < length ops
top_there [] c hand h = absurd h
top_there (v ∷ ops) c hand h = omega arith

operands_are : (s : Saver) (low : List Value) (c : MachineCall) (hand : List Value) → HasCall s low c hand
    → s.active.floor + length (reverse c.operands) ≡ length s.stack.items
operands_are s low c hand h =
    let all = ap length h.stack ∙ length-append (low ++ c.slots) (reverse c.operands) in
    let f = h.floor in
    omega arith

pub top_within : (s : Saver) → CanKeep KeepTop s → s.active.floor < length s.stack.items
top_within s k =
    let a = operands_are s k.0 k.1 k.2 k.3 in
    let b = top_there k.1.operands k.1 k.2 k.4 in
    let r = length_reverse k.1.operands in
    omega arith
  where
    length_reverse : (vs : List Value) → length (reverse vs) ≡ length vs
    length_reverse [] = refl
    length_reverse (v ∷ vs) =
        let a = ap length (reverse-push vs v) ∙ length-append (reverse vs) (v ∷ []) in
        let b = length_reverse vs in
        omega arith

pub top_moved : (s t : Saver) (v : Value) → s.active.floor < length s.stack.items
    → s.stack.items ≡ t.stack.items ++ v ∷ [] → t.pack.hand ≡ v ∷ s.pack.hand
    → t.active ≡ record s.active { place = s.active.place + 1 } → (low : List Value) (c : MachineCall)
    (hand : List Value) → HasCall s low c hand
    → DidKeep KeepTop low c hand (save_act (Some KeepTop) c hand) None t
top_moved s t v lt was in_hand active low c hand h = by_top c.operands refl
  where
    by_top : (ops : List Value) → c.operands ≡ ops → DidKeep KeepTop low c hand (keeps_top ops
        (λ v rest. Keeps (at_place c (c.place + 1) rest) (v ∷ hand))) None t
    by_top [] e =
        let a = operands_are s low c hand h in
        let b : length (reverse c.operands) ≡ 0 = ap (λ l. length (reverse l)) e in
        absurd (omega arith)
    by_top (w ∷ rest) e =
        let both = last_same t.stack.items ((low ++ c.slots) ++ reverse rest) v w
        (sym was ∙ h.stack ∙ ap (λ l. (low ++ c.slots) ++ reverse l) e
        ∙ ap (λ l. (low ++ c.slots) ++ l) (reverse-push rest w)
        ∙ append_last (low ++ c.slots) (reverse rest) w) in
        record {
          stack = both.0;
          function = ap (λ (a : Activation). a.function) active ∙ h.function;
          place = ap (λ (a : Activation). a.place) active ∙ ap (λ p. p + 1) h.place;
          base = ap (λ (a : Activation). a.base) active ∙ h.base;
          floor = ap (λ (a : Activation). a.floor) active ∙ h.floor;
          in_hand = in_hand ∙ ap (λ (l : List Value). v ∷ l) h.in_hand ∙ ap (λ (x : Value). x ∷ hand) both.1;
        }
