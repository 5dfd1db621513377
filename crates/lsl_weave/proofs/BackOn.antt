-- Restoring stays on its way.
use Rattle.std.proofs.Common.{◌≡◌, ℕ, zero, suc, ◌+◌, List, [], ◌∷◌, ◌++◌, inl, inr, ⊎_elim, Option, Some, None, true, false, refl, sym, ap, ◌∙◌, subst, arith}
use Rattle.std.specs.Prelude.{slice_get}
use Rattle.std.proofs.lemmas.Option.{none-some, some_pair_parts}
use Rattle.lsl_value.specs.declared.tagged.Kind.{Kind}
use Rattle.lsl_value.specs.declared.tagged.Value.{Value}
use Rattle.lsl_code.specs.declared.frames.Frame.{Frame}
use Rattle.lsl_code.specs.declared.functions.Point.{Point}
use Rattle.lsl_code.specs.declared.instructions.Instr.{Instr}
use Rattle.lsl_code.specs.declared.instructions.Instr.TheVariants.{Jump, Tick, Call, TestBack, Unpack, BackSlot, BackTop, Branch, Again, Awake}
use Rattle.lsl_code.specs.Bodies.{Body}
use Rattle.lsl_code.specs.Kinds.{kinds_of}
use Rattle.lsl_code.specs.Machine.{MachineCall}
use Rattle.lsl_code.specs.Modes.{at_place, landing}
use Rattle.lsl_code.specs.Restoring.{Moves, back_act}
use Rattle.lsl_code.proofs.Sames.{both_true, eq_is}
use Rattle.lsl_code.specs.BackWays.{backs_at, backs, put_back, is_tick_of, is_call_of, lands_well}
use Rattle.lsl_code.specs.SaveWays.{waiting_kinds}
use Rattle.lsl_weave.proofs.Restored.{unpacked_end}
use Rattle.lsl_weave.proofs.SavingOn.{onward_is}
use Rattle.lsl_weave.proofs.BackKept.{OnBackWay, OnBack, BackEnds, BackGoesOn}
use Rattle.lsl_weave.proofs.BackPuts.{puts_slot, puts_top}

no_kinds : (vs : List Value) (slots ops slots' ops' : List Kind)
    → put_back [] (kinds_of vs) slots ops ≡ Some (slots', ops') → (vs ≡ []) × (slots ≡ slots') × (ops ≡ ops')
no_kinds [] slots ops slots' ops' e = let q = some_pair_parts slots slots' ops ops' e in (refl, q.0, q.1)
no_kinds (v ∷ vs) slots ops slots' ops' e = absurd cc

call_here : (g p : ℕ) (o : Option Instr) → is_call_of g p o ≡ true → o ≡ Some (Call g p)
call_here g p (Some (Call f q)) e =
    let b = both_true _ _ e in
    ap (λ x. Some (Call x q)) (sym (eq_is g f b.0)) ∙ ap (λ x. Some (Call g x)) (sym (eq_is p q b.1))
call_here g p _ e = absurd cc

tick_here : (p : ℕ) (o : Option Instr) → is_tick_of p o ≡ true → o ≡ Some (Tick p)
tick_here p (Some (Tick q)) e = ap (λ x. Some (Tick x)) (sym (eq_is p q e))
tick_here p _ e = absurd cc

lands_at_call : (code : List Instr) (p g : ℕ) (o : Option ℕ) (l : ℕ) → lands_well code p o (Some g) l ≡ true
    → (o ≡ Some g) × (k : ℕ) × (l ≡ k + 1) × (slice_get code k ≡ Some (Call g p))
lands_at_call code p g (Some f) (suc k) e =
    let a = both_true _ _ e in
    let same = eq_is f g a.0 in
    (ap Some same, k, omega arith, call_here f p (slice_get code k) a.1 ∙ ap (λ x. Some (Call x p)) same)
lands_at_call code p g (Some f) zero e = absurd cc
lands_at_call code p g None l e = absurd cc

lands_at_tick : (code : List Instr) (p : ℕ) (o : Option ℕ) (l : ℕ) → lands_well code p o None l ≡ true
    → (o ≡ None) × (slice_get code l ≡ Some (Tick p))
lands_at_tick code p None l e = (refl, tick_here p (slice_get code l) e)
lands_at_tick code p (Some f) l e = absurd cc

module _ (bodies : List Body) (w : Body) (n : ℕ) (left : List Frame) (callee : Option ℕ) where
  -- continues at another place, with a current frame
  opened_at : (c : MachineCall) (point : ℕ) (pt : Point) (hand : List Value) (t : ℕ)
      (st : OnBackWay w (suc n) true point pt callee c hand) → backs w.code n point true t ≡ Some st.way
      → OnBack w n left callee (at_place c t c.operands) point hand left
  opened_at c point pt hand t st e =
      inl (
        pt,
        refl,
        record {
          mapped = st.mapped;
          callee_is = st.callee_is;
          way = st.way;
          is_way = e;
          lands =
              st.lands;
          kinds_are = st.kinds_are;
        },
      )

  closed_at : (c : MachineCall) (point : ℕ) (hand : List Value) (fr : Frame) (pt : Point) (t : ℕ)
      (st : OnBackWay w (suc n) false fr.point pt callee c fr.slots)
      → backs w.code n fr.point false t ≡ Some st.way
      → OnBack w n left callee (at_place c t c.operands) point hand (left ++ fr ∷ [])
  closed_at c point hand fr pt t st e =
      inr (
        fr,
        pt,
        refl,
        record {
          mapped = st.mapped;
          callee_is = st.callee_is;
          way = st.way;
          is_way =
              e;
          lands = st.lands;
          kinds_are = st.kinds_are;
        },
      )

  -- the frame is not yet taken
  closed_on : (c : MachineCall) (point : ℕ) (hand : List Value) (fr : Frame) (pt : Point)
      (st : OnBackWay w (suc n) false fr.point pt callee c fr.slots) (b : Option Body) (o : Option Instr)
      → backs_at w.code (backs w.code n fr.point) false fr.point c.place o ≡ Some st.way
      → BackGoesOn bodies w n left callee c.function hand (left ++ fr ∷ [])
      (back_act b o c point hand (left ++ fr ∷ []))
  closed_on c point hand fr pt st b (Some (TestBack t)) e =
      (refl, closed_at c point hand fr pt t st (onward_is c.place t _ _ e))
  closed_on c point hand fr pt st b (Some (Jump t)) e =
      (refl, closed_at c point hand fr pt t st (onward_is c.place t _ _ e))
  closed_on c point hand fr pt st b (Some Unpack) e =
      let on : OnBack w n left callee (at_place c (c.place + 1) c.operands) fr.point fr.slots left =
      inl (
        pt,
        refl,
        record {
          mapped = st.mapped;
          callee_is = st.callee_is;
          way = st.way;
          is_way =
              e;
          lands = st.lands;
          kinds_are = st.kinds_are;
        },
      ) in
      subst (BackGoesOn bodies w n left callee c.function hand (left ++ fr ∷ []))
      (sym (unpacked_end left fr (λ rest f.
      Moves (at_place c (c.place + 1) c.operands) f.point f.slots rest))) (refl, on)
  closed_on c point hand fr pt st b _ e = absurd (none-some st.way e)

  -- the end of the way
  ends : (c : MachineCall) (point : ℕ) (pt : Point) (hand : List Value) (o : Option ℕ) (l : ℕ)
      (st : OnBackWay w (suc n) true point pt callee c hand) → slice_get bodies c.function ≡ Some w
      → Some (record { puts = []; callee = o; lands = l }) ≡ Some st.way → (hand ≡ []) × (callee ≡ o)
      × BackEnds bodies (at_place c l c.operands) o
  ends c point pt hand o l st found e =
      let is : record { puts = []; callee = o; lands = l } ≡ st.way = cc in
      let kinds = no_kinds hand (kinds_of c.slots) (kinds_of c.operands) w.slots (waiting_kinds w.slots pt)
      (ap (λ x. put_back x.puts (kinds_of hand) (kinds_of c.slots) (kinds_of c.operands)) is ∙ st.kinds_are)
      in
      let lands = subst (λ x. lands_well w.code point pt.calls x.callee x.lands ≡ true) (sym is) st.lands in
      let r = by_callee o kinds.1 kinds.2 lands in (kinds.0, r.0, r.1)
    where
      by_callee : (o : Option ℕ) → kinds_of c.slots ≡ w.slots → kinds_of c.operands ≡ waiting_kinds w.slots pt
          → lands_well w.code point pt.calls o l ≡ true → (callee ≡ o)
          × BackEnds bodies (at_place c l c.operands) o
      by_callee None slots ops h =
          let t = lands_at_tick w.code point pt.calls l h in (
            sym st.callee_is ∙ t.0,
            (
              point,
              record {
                body = w;
                found = found;
                here = t.1;
                point = pt;
                mapped =
                    st.mapped;
                calls = t.0;
                slots = slots;
                operands = ops;
              },
            ),
          )
      by_callee (Some g) slots ops h =
          let t = lands_at_call w.code point g pt.calls l h in (
            sym st.callee_is ∙ t.0,
            (
              t.1,
              point,
              t.2,
              record {
                body = w;
                found = found;
                here = t.3;
                point =
                    pt;
                mapped = st.mapped;
                calls = t.0;
                slots = slots;
                operands = ops;
              },
            ),
          )

  opened_on : (c : MachineCall) (point : ℕ) (pt : Point) (hand : List Value)
      (st : OnBackWay w (suc n) true point pt callee c hand) → slice_get bodies c.function ≡ Some w
      → (o : Option Instr) → backs_at w.code (backs w.code n point) true point c.place o ≡ Some st.way
      → BackGoesOn bodies w n left callee c.function hand left (back_act (Some w) o c point hand left)
  opened_on c point pt hand st found (Some (TestBack t)) e =
      (refl, opened_at c point pt hand t st (onward_is c.place t _ _ e))
  opened_on c point pt hand st found (Some (Jump t)) e =
      (refl, opened_at c point pt hand t st (onward_is c.place t _ _ e))
  opened_on c point pt hand st found (Some Branch) e =
      (refl, opened_at c point pt hand (c.place + 1 + point) st e)
  opened_on c point pt hand st found (Some (BackSlot i)) e =
      puts_slot bodies w n left callee c point pt hand i st e hand refl (slice_get c.slots i) refl
  opened_on c point pt hand st found (Some BackTop) e =
      puts_top bodies w n left callee c point pt hand st e hand refl
  opened_on c point pt hand st found (Some (Again g)) e =
      let x = ends c point pt hand (Some g) (landing (slice_get w.code (c.place + 1)) (c.place + 1)) st found
      e in
      (refl, x.0, refl, x.1, x.2)
  opened_on c point pt hand st found (Some Awake) e =
      let x = ends c point pt hand None (landing (slice_get w.code (c.place + 1)) (c.place + 1)) st found e in
      (refl, x.0, refl, x.1, x.2)
  opened_on c point pt hand st found _ e = absurd (none-some st.way e)

  -- each instruction of the way is there, and continues along it
  pub back_goes_on : (c : MachineCall) (point : ℕ) (hand : List Value) (sack : List Frame)
      → slice_get bodies c.function ≡ Some w → OnBack w (suc n) left callee c point hand sack
      → BackGoesOn bodies w n left callee c.function hand sack
      (back_act (Some w) (slice_get w.code c.place) c point hand sack)
  back_goes_on c point hand sack found on =
      ⊎_elim
      (λ o. subst (λ s. BackGoesOn bodies w n left callee c.function hand s
      (back_act (Some w) (slice_get w.code c.place) c point hand s)) (sym o.1)
      (opened_on c point o.0 hand o.2 found (slice_get w.code c.place) o.2.is_way))
      (λ o. subst (λ s. BackGoesOn bodies w n left callee c.function hand s
      (back_act (Some w) (slice_get w.code c.place) c point hand s)) (sym o.2)
      (closed_on c point hand o.0 o.1 o.3 (Some w) (slice_get w.code c.place) o.3.is_way))
      on

-- without an instruction there is no way
pub back_not_over : (w : Body) (left : List Frame) (callee : Option ℕ) (c : MachineCall) (point : ℕ)
    (hand : List Value) (sack : List Frame) → OnBack w 0 left callee c point hand sack → ⊥
back_not_over w left callee c point hand sack on =
    ⊎_elim (λ o. none-some o.2.way o.2.is_way) (λ o. none-some o.3.way o.3.is_way) on
