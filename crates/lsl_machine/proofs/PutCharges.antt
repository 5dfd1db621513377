-- On its way restoring keeps the charge of the current frame and the call together.
use Rattle.std.proofs.Common.{◌≡◌, ◌∙◌, refl, sym, ap, subst, arith, ℕ, suc, ◌+◌, List, [], ◌∷◌, ◌++◌, ◌⊎◌, inl, inr, ⊎_elim, length, Option, Some, None, Bool, true, false}
use Rattle.std.specs.Prelude.{slice_get, option_map}
use Rattle.std.proofs.lemmas.List.{length-set}
use Rattle.std.proofs.lemmas.Option.{none-some}
use Rattle.lsl_value.specs.declared.tagged.Value.{Value}
use Rattle.lsl_running.specs.Charging.{charges_of}
use Rattle.lsl_code.specs.declared.frames.Frame.{Frame}
use Rattle.lsl_code.specs.declared.instructions.Instr.{Instr}
use Rattle.lsl_code.specs.declared.instructions.Instr.TheVariants.{Jump, TestBack, Unpack, BackSlot, BackTop, Branch, Again, Awake}
use Rattle.lsl_code.specs.Bodies.{Body}
use Rattle.lsl_code.specs.Machine.{MachineCall}
use Rattle.lsl_code.specs.Modes.{at_place}
use Rattle.lsl_code.specs.Restoring.{BackAct, Moves, Reenters, Wakes, NoBack, takes, where_slot, with_slot, back_act}
use Rattle.lsl_code.specs.BackWays.{Put, ToSlot, ToTop, BackWay, putting, way_end, backs_at, backs}
use Rattle.lsl_weave.proofs.Restored.{unpacked_end}
use Rattle.lsl_weave.proofs.SavingOn.{onward_is}
use Rattle.lsl_machine.proofs.Carried.{AtMostOnce, puts_of, none_left, fewer, has_place}
use Rattle.lsl_machine.proofs.Counted.{one_more, idle, idle_more, idle_none}

-- at most n instructions are left to put back these values, and this is the charge of these and the call's
pub record IsPutting (w : Body) (n : ℕ) (opened : Bool) (p : ℕ) (c : MachineCall) (values : List Value)
    (total : ℕ) : Type 0 where
  pub way : BackWay
  pub is_way : backs w.code n p opened c.place ≡ Some way
  pub once : AtMostOnce (puts_of way.puts) (length c.slots)
  pub sum : charges_of values + charges_of c.operands + idle (puts_of way.puts) 0 c.slots ≡ total

-- a frame is current, or it still is the outermost of those that are left
abbrev pub PutsOn : Body → ℕ → List Frame → MachineCall → ℕ → List Value → List Frame → ℕ → Type 0
PutsOn w n left c point hand sack total =
    ((sack ≡ left) × IsPutting w n true point c hand total)
    ⊎ ((fr : Frame) × (sack ≡ left ++ fr ∷ []) × IsPutting w n false fr.point c fr.slots total)

abbrev pub HasPut : Body → ℕ → List Frame → ℕ → List Value → BackAct → Type 0
HasPut w n left total hand (Moves c point' hand' sack') = PutsOn w n left c point' hand' sack' total
HasPut w n left total hand (Reenters g c) = charges_of hand + (charges_of c.slots + charges_of c.operands) ≡ total
HasPut w n left total hand (Wakes c) = charges_of hand + (charges_of c.slots + charges_of c.operands) ≡ total
HasPut w n left total hand NoBack = Unit {0}

behind : (m : Put) (o : Option BackWay) (way : BackWay) → option_map (putting m) o ≡ Some way
    → (rest : BackWay) × (o ≡ Some rest) × (putting m rest ≡ way)
behind m None way e = absurd cc
behind m (Some rest) way e = let is : putting m rest ≡ way = cc in (rest, refl, is)

module _ (w : Body) (n : ℕ) (left : List Frame) (total : ℕ) where
  ends : (c : MachineCall) (point : ℕ) (hand : List Value) (x : IsPutting w (suc n) true point c hand total)
      (o : Option ℕ) → way_end w.code c.place o ≡ Some x.way
      → charges_of hand + (charges_of c.slots + charges_of c.operands) ≡ total
  ends c point hand x o e =
      let none : [] ≡ x.way.puts = cc in
      let left = ap (λ ps. idle (puts_of ps) 0 c.slots) (sym none) ∙ idle_none 0 c.slots in
      let sum = x.sum in
      omega arith

  slot_put : (c : MachineCall) (point i : ℕ) (hand : List Value)
      (x : IsPutting w (suc n) true point c hand total)
      → option_map (putting (ToSlot i)) (backs w.code n point true (c.place + 1)) ≡ Some x.way
      → (values : List Value) → hand ≡ values → (o : Option Value) → slice_get c.slots i ≡ o
      → HasPut w n left total hand
      (takes values (λ v rest. where_slot o (Moves (with_slot c i v) point rest left)))
  slot_put c point i hand x e [] is o there = tt
  slot_put c point i hand x e (v ∷ rest) is None there = tt
  slot_put c point i hand x e (v ∷ rest) is (Some old) there =
      let r = behind (ToSlot i) (backs w.code n point true (c.place + 1)) x.way e in
      let lt = has_place c.slots i old there in
      let once = subst (λ (y : BackWay). AtMostOnce (puts_of y.puts) (length c.slots)) (sym r.2) x.once in
      let none = none_left (puts_of r.0.puts) i (length c.slots) once lt in
      let len = length-set c.slots i v in
      let same = ap (λ (y : BackWay). idle (puts_of y.puts) 0 c.slots) (sym r.2) in
      let put = idle_more (puts_of r.0.puts) i 0 i v c.slots lt (omega arith) none in
      let held = ap charges_of is ∙ one_more v rest in
      let sum = x.sum in
      inl (
        refl,
        record {
          way = r.0;
          is_way = r.1;
          once = λ k low. fewer (puts_of r.0.puts) i (length c.slots) once k (omega arith);
          sum = omega arith;
        },
      )

  top_put : (c : MachineCall) (point : ℕ) (hand : List Value) (x : IsPutting w (suc n) true point c hand total)
      → option_map (putting ToTop) (backs w.code n point true (c.place + 1)) ≡ Some x.way
      → (values : List Value) → hand ≡ values → HasPut w n left total hand
      (takes values (λ v rest. Moves (at_place c (c.place + 1) (v ∷ c.operands)) point rest left))
  top_put c point hand x e [] is = tt
  top_put c point hand x e (v ∷ rest) is =
      let r = behind ToTop (backs w.code n point true (c.place + 1)) x.way e in
      let same = ap (λ (y : BackWay). idle (puts_of y.puts) 0 c.slots) (sym r.2) in
      let held = ap charges_of is ∙ one_more v rest in
      let top = one_more v c.operands in
      let sum = x.sum in
      inl (
        refl,
        record {
          way = r.0;
          is_way = r.1;
          once = subst (λ (y : BackWay). AtMostOnce (puts_of y.puts) (length c.slots)) (sym r.2) x.once;
          sum = omega arith;
        },
      )

  opened_on : (c : MachineCall) (point : ℕ) (hand : List Value) (x : IsPutting w (suc n) true point c hand total)
      (o : Option Instr) → backs_at w.code (backs w.code n point) true point c.place o ≡ Some x.way
      → HasPut w n left total hand (back_act (Some w) o c point hand left)
  opened_on c point hand x (Some (TestBack t)) e =
      inl (refl, record { way = x.way; is_way = onward_is c.place t _ _ e; once = x.once; sum = x.sum })
  opened_on c point hand x (Some (Jump t)) e =
      inl (refl, record { way = x.way; is_way = onward_is c.place t _ _ e; once = x.once; sum = x.sum })
  opened_on c point hand x (Some Branch) e =
      inl (refl, record { way = x.way; is_way = e; once = x.once; sum = x.sum })
  opened_on c point hand x (Some (BackSlot i)) e = slot_put c point i hand x e hand refl (slice_get c.slots i) refl
  opened_on c point hand x (Some BackTop) e = top_put c point hand x e hand refl
  opened_on c point hand x (Some (Again g)) e = ends c point hand x (Some g) e
  opened_on c point hand x (Some Awake) e = ends c point hand x None e
  opened_on c point hand x _ e = absurd (none-some x.way e)

  closed_on : (c : MachineCall) (point : ℕ) (hand : List Value) (fr : Frame)
      (x : IsPutting w (suc n) false fr.point c fr.slots total) (o : Option Instr)
      → backs_at w.code (backs w.code n fr.point) false fr.point c.place o ≡ Some x.way
      → HasPut w n left total hand (back_act (Some w) o c point hand (left ++ fr ∷ []))
  closed_on c point hand fr x (Some (TestBack t)) e =
      inr (fr, refl, record { way = x.way; is_way = onward_is c.place t _ _ e; once = x.once; sum = x.sum })
  closed_on c point hand fr x (Some (Jump t)) e =
      inr (fr, refl, record { way = x.way; is_way = onward_is c.place t _ _ e; once = x.once; sum = x.sum })
  closed_on c point hand fr x (Some Unpack) e =
      subst (HasPut w n left total hand)
      (sym (unpacked_end left fr (λ rest f. Moves (at_place c (c.place + 1) c.operands) f.point f.slots rest)))
      (inl (refl, record { way = x.way; is_way = e; once = x.once; sum = x.sum }))
  closed_on c point hand fr x _ e = absurd (none-some x.way e)

  -- each instruction of the way
  pub has_put : (c : MachineCall) (point : ℕ) (hand : List Value) (sack : List Frame)
      → PutsOn w (suc n) left c point hand sack total
      → HasPut w n left total hand (back_act (Some w) (slice_get w.code c.place) c point hand sack)
  has_put c point hand sack on =
      ⊎_elim
      (λ o. subst (λ s. HasPut w n left total hand (back_act (Some w) (slice_get w.code c.place) c point hand s))
      (sym o.0) (opened_on c point hand o.1 (slice_get w.code c.place) o.1.is_way))
      (λ o. subst (λ s. HasPut w n left total hand (back_act (Some w) (slice_get w.code c.place) c point hand s))
      (sym o.1) (closed_on c point hand o.0 o.2 (slice_get w.code c.place) o.2.is_way))
      on
